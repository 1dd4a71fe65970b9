-- What the functions of the buffer ask of it, and what an amount to add must keep to.
use Rattle.std.specs.Prelude.{true, false, ◌≡◌, ◌<◌, ◌≤◌, nat_abs, ◌+ℤ◌}
use Rattle.lists.specs.Lists.{any, every}
use Rattle.postings.specs.declared.Posting.{Posting}
use Rattle.postings.specs.Order.{same_pair, ordered}
use Rattle.postings.specs.Merge.{is_counted}
use Rattle.postings.specs.Sums.{sum}
use Rattle.state.specs.declared.Buffer.{Buffer}
use Rattle.state.specs.Views.{buffered, buffer_of}

-- the one form of a buffer's content: at most 128 postings, in order, and zeros after them
pub record Canonical (b : Buffer) : Type 0 where
  pub short : b.used ≤ 128
  pub in_order : ordered (buffered b) ≡ true
  pub clean : b ≡ buffer_of (buffered b)

-- p can be added: neither it nor a buffered posting counts 0, there is room for a new pair, and the pair's sum keeps within ±32,767
pub record Addable (b : Buffer) (p : Posting) : Type 0 where
  pub counted : every is_counted (buffered b) ≡ true
  pub amount : is_counted p ≡ true
  pub room : any (same_pair p) (buffered b) ≡ false → b.used < 128
  pub within : nat_abs (p.count +ℤ sum (buffered b) p.id p.window) ≤ 32767
