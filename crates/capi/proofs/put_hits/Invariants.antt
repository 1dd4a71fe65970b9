-- `capi::put_hits` meets its contract. The invariant: storing the hits that are left gives the whole, and no byte past the last word has moved.
use Rattle.lists.proofs.Prelude.{map, ◌≡◌, ◌-◌, ◌*◌, length, drop, sets, joined}
use Rattle.words.specs.Words.{words, Below}
use Rattle.ranking.specs.Top.{listed_hits}
use Rattle.capi.specs.Queries.{hit_words}
use Rattle.capi.proofs.put_hits.Given as goal

abbrev pub invariant-loop-i : goal.invariant-loop-i
invariant-loop-i l =
    (length l.t.hits ≡ 32) × (length l.hits ≡ length l.initial.hits)
    × (sets (words l.initial.hits) 0 (joined (map hit_words (listed_hits l.t))) ≡ sets (words l.hits) (2 * l.i) (joined (map hit_words (drop l.i (listed_hits l.t)))))
    × (drop (4 * length (words l.initial.hits)) l.hits ≡ drop (4 * length (words l.initial.hits)) l.initial.hits) × Below 256 l.hits
