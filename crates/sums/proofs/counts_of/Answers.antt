use Rattle.lists.proofs.Prelude.{List, [], ◌∷◌, ◌++◌, map, map-append, ◌≡◌, refl, sym, ap, ap₂, ◌∙◌, ℕ, ◌≤◌, ◌+◌, add-one, arith, length-drop, length-take-le, take, take-suc, take-suc-set, set, length-set, drop, get_or, get_or-drop, rules}
use mir.Syntax.{w16}
use mir.Val.{SFits}
use mir.Facts.{to_z-of_z}
use Rattle.postings.specs.declared.Posting.{Posting}
use Rattle.sums.specs.Views.{count_in, Tidy}
use Rattle.sums.proofs.counts_of.Goals as goal

-- the first counts of a slot, with one more
first_more : (w : ℕ) (l : List ℕ) (i : ℕ) → Tidy w l → i + 1 ≤ get_or l 0 0 → map (count_in w) (take (i + 1) (drop 1 l)) ≡ map (count_in w) (take i (drop 1 l)) ++ (count_in w (get_or l (i + 1) 0) ∷ [])
first_more w l i t h =
    let e : get_or (drop 1 l) i 0 ≡ get_or l (i + 1) 0 = get_or-drop 1 l i 0 ∙ ap (λ (n : ℕ). get_or l n 0) (omega arith) in
    ap (λ (n : ℕ). map (count_in w) (take n (drop 1 l))) (add-one i)
    ∙ ap (map (count_in w)) (take-suc (drop 1 l) i 0 (omega (arith, t.long, t.few, length-drop 1 l)))
    ∙ map-append (count_in w) (take i (drop 1 l)) (get_or (drop 1 l) i 0 ∷ [])
    ∙ ap (λ (x : ℕ). map (count_in w) (take i (drop 1 l)) ++ (count_in w x ∷ [])) e

pub loop-i-init : goal.loop-i-init
loop-i-init c = record { long = search rules; counts = refl }

pub overflow_cast-postings : goal.overflow_cast-postings
overflow_cast-postings c =
    record { fits = omega (arith, c.requires.low (omega arith)) }

pub bounds-postings-i : goal.bounds-postings-i
bounds-postings-i c = omega (arith, c.requires.few, c.loop-i.invariant.long)

pub loop-i-preserved : goal.loop-i-preserved
loop-i-preserved c =
    let l = c.loop-i in
    let u = c.unpack-q in
    let f : SFits w16 u.result.count = search rules in
    let p : Posting = record { id = u.result.window; window = c.args.window; count = u.result.count } in
    let same : p ≡ count_in c.args.window (get_or c.args.slot.now (l.i + 1) 0) = rw u.ensures in
    let more : take (l.i + 1) (set l.postings l.i p) ≡ take l.i l.postings ++ (p ∷ []) = rw (add-one l.i) (take-suc-set l.postings l.i p (omega (arith, l.invariant.long, c.requires.few))) in
    record { long = length-set l.postings l.i _ ∙ l.invariant.long; counts = rw (to_z-of_z f) (more ∙ ap₂ (λ (x : List Posting) (q : Posting). x ++ (q ∷ [])) l.invariant.counts same ∙ sym (first_more c.args.window c.args.slot.now l.i c.requires (omega arith))) }

pub returns : goal.returns
returns c =
    let v = c.loop-i.invariant in
    let e : c.loop-i.i ≡ get_or c.args.slot.now 0 0 = omega arith in
    (rw e at v.counts, record { few = c.requires.few; whole = length-take-le (get_or c.args.slot.now 0 0) c.loop-i.postings (omega (arith, v.long, c.requires.few)) })
