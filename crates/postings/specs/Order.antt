-- The order in which postings stand.
use Rattle.std.specs.Prelude.{Bool, true, ◌&&◌, ◌||◌, List, [], ◌∷◌, ltb, eqb}
use Rattle.lists.specs.Lists.{every}
use Rattle.postings.specs.declared.Posting.{Posting}

-- does p stand before q: the lower identifier first, and the higher window first under one identifier
abbrev pub precedes : Posting → Posting → Bool
precedes p q = ltb p.id q.id || (eqb p.id q.id && ltb q.window p.window)

-- are p and q of one identifier and one window
abbrev pub same_pair : Posting → Posting → Bool
same_pair p q = eqb p.id q.id && eqb p.window q.window

-- does each posting stand before every later one
abbrev pub ordered : List Posting → Bool
ordered [] = true
ordered (p ∷ ps) = every (precedes p) ps && ordered ps
