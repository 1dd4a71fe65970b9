-- What a query may ask for.
use Rattle.std.specs.Prelude.{Bool, ◌||◌, not, List, ℕ, eqb, ltb, length}
use Rattle.lists.specs.Lists.{empty}
use Rattle.postings.specs.declared.Stretch.{Stretch}
use Rattle.identifiers.specs.Names.{Name, distinct}

-- refusal 14: no identifier or more than 5, one of them twice, or a list of no places or more than 32
unfoldable pub bad_query : ℕ → List Name → Bool
bad_query k ns = empty ns || (ltb 5 (length ns) || (not (distinct ns) || (eqb k 0 || ltb 32 k)))

-- refusal 17: a stretch whose first window exceeds its last
abbrev pub bad_stretch : Stretch → Bool
bad_stretch t = ltb t.last t.first
