pub mod Account
pub mod Ledger
pub mod Books
pub mod Lists
