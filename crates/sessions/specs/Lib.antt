pub mod Alone
pub mod Lines
pub mod Answering
