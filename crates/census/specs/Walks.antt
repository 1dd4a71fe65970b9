-- What a walk over partitions and buffer reads.
use Rattle.std.specs.Prelude.{true, List, ◌++◌, map, ◌≡◌, ℕ, ◌≤◌}
use Rattle.lists.specs.Lists.{every, joined}
use Rattle.postings.specs.declared.Posting.{Posting}
use Rattle.state.specs.declared.Buffer.{Buffer}
use Rattle.state.specs.Views.{buffered}
use Rattle.partitions.specs.Formed.{list_rule}
use Rattle.kway.specs.Parts.{parts}
use Rattle.scans.specs.Keys.{is_keyed}
use Rattle.scans.specs.Heads.{ahead}

-- what the first n heads have still to come, as postings
abbrev pub lists : List ℕ → ℕ → List ℕ → List (List Posting)
lists W n H = map (ahead W) (parts 10 n H)

-- that, and the buffer
abbrev pub held : List ℕ → ℕ → List ℕ → Buffer → List Posting
held W n H b = joined (lists W n H) ++ buffered b

-- a buffer whose postings have keys and are a list that may be used
pub record Orderly (b : Buffer) : Type 0 where
  pub few : b.used ≤ 128
  pub keyed : every is_keyed (buffered b) ≡ true
  pub ruled : list_rule (buffered b) ≡ true
