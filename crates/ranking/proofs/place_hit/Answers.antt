use Rattle.lists.proofs.Prelude.{◌∷◌, ◌++◌, ◌≡◌, sym, ap, ◌∙◌, ℕ, ◌+◌, ◌-◌, min, arith, length, take, drop}
use Rattle.ranking.specs.Top.{listed_hits, top_of}
use Rattle.ranking.proofs.Tops.{clean-used, rank-le, place_out, place_in}
use Rattle.ranking.proofs.place_hit.Goals as goal

pub returns-then-last-k : goal.returns-then-last-k
returns-then-last-k c =
    let l = listed_hits c.args.t in
    let u = clean-used c.args.t c.requires.clean in
    let k = c.rank_of-k.ensures in
    let e = c.last_place-last.ensures in
    c.requires.clean ∙ ap top_of (sym (place_out c.args.g c.args.places l (omega arith) (omega (arith, k, e, rank-le c.args.g l))))

pub returns : goal.returns
returns c =
    let g = c.args.g in
    let places = c.args.places in
    let l = listed_hits c.args.t in
    let last = c.last_place-last.result in
    let u = clean-used c.args.t c.requires.clean in
    let e : last ≡ min (length l) (places - 1) = c.last_place-last.ensures ∙ ap (λ (n : ℕ). min n (places - 1)) (sym u) in
    c.insert_hit.ensures
    ∙ ap top_of
    (ap (λ (k : ℕ). take (last + 1) (take k l ++ g ∷ drop k l)) c.rank_of-k.ensures
    ∙ place_in g places l last e c.requires.some (omega (arith, c.requires.within)))
