-- N, counted from what is stored.
use Rattle.std.specs.Prelude.{Option, MatchOption, Bool, true, false, List, ◌≡◌, ℕ, ◌≤◌, length}
use Rattle.lists.specs.Lists.{keep}
use Rattle.postings.specs.declared.Posting.{Posting}
use Rattle.sums.specs.Tally.{counts_of, is_live}

-- N: how many of these windows live in the postings l, that is have a count above 0
unfoldable pub existing : List Posting → List ℕ → ℕ
existing l ws = length (keep (λ w. is_live (counts_of w l)) ws)

-- what was read is well formed, and n is N of the windows ws in the postings l
pub record CountedWell (formed : Bool) (l : List Posting) (ws : List ℕ) (n : ℕ) : Type 0 where
  pub fine : formed ≡ true
  pub windows : n ≡ existing l ws
  pub few : n ≤ 65535

-- whether what was read is well formed, and N where it is
abbrev pub CountedIn : Bool → List Posting → List ℕ → Option ℕ → Type 0
CountedIn formed l ws r = MatchOption r (formed ≡ false) (CountedWell formed l ws)
