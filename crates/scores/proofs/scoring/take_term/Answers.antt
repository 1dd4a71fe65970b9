-- `scores::scoring::take_term` meets its contract: a term that is not at the window, and one that is.
use Rattle.lists.proofs.Prelude.{◌≡◌, ap, ◌∙◌, List, ℕ, ◌*◌, ◌-◌, ◌≤◌, arith, ltb, length, get_or, drop, set, length-drop, lt-length-set, rules, take_rest}
use mir.Facts.{to_z-of_z}
use mir.Syntax.{w32}
use mir.Val.{SFits}
use borrow.Rule.Slice.PartMut.{put_mid}
use Rattle.keyed.specs.Keys.{head_vals}
use Rattle.keyed.specs.Groups.{Group}
use Rattle.words.specs.Words.{words}
use Rattle.weights.specs.Weights.{tf_weight}
use Rattle.weights.proofs.Laws.{product-most}
use Rattle.postings.specs.Sums.{above}
use Rattle.heads.specs.Heads.{views}
use Rattle.terms.proofs.Steps.{above_most}
use Rattle.scores.proofs.Counts.{put-behind-long}
use Rattle.scores.proofs.Joined.{passed_over, after_kept, after-term, after-top}
use Rattle.scores.proofs.scoring.take_term.Goals as goal
use Rattle.scores.proofs.scoring.take_term.Lts as lts
use Rattle.scores.proofs.scoring.take_term.Tie as tie
use Rattle.scores.proofs.scoring.take_term.Reads as reads

abbrev After-above : Type 0
After-above = lts.After-above tie.the-claims reads.Pre reads.Post tie.handed_clauses

pub returns-then-top-key : goal.returns-then-top-key
returns-then-top-key c =
    let W = words c.args.card.now in
    let R = c.args.run.now in
    let G = c.args.group.now in
    let p = passed_over W R c.args.m c.args.key G c.requires.0 c.requires.3 c.if-top-key.true in
    record { group = (c.requires.0, p.0); scored = (p.1, omega arith, p.2, c.requires.0.top) }

pub take_led-t-requires : goal.take_led-t-requires
take_led-t-requires c =
    let G = c.args.group.now in
    rw (take_rest 4 G) (omega (arith, length-drop 4 G, c.requires.0.long), omega (arith, c.requires.1), omega (arith, c.requires.2), c.requires.0.heads, c.requires.0.lead)

room : (G P : List ℕ) → 4 ≤ length G → length P ≡ length (drop 4 G) → 4 ≤ length (put_mid 4 (length G - 4) G P)
room G P h e = omega (arith, put-behind-long G P h (omega (arith, length-drop 4 G)))

pub bounds-group-2-2 : goal.bounds-group-2-2
bounds-group-2-2 c =
    let G = c.args.group.now in
    let four : 4 ≤ length G = omega (arith, c.requires.0.long) in
    let t = c.take_led-t in
    let r = room G t.new.heads four (rw (take_rest 4 G) at t.ensures.heads.0) in
    lt-length-set (put_mid 4 (length G - 4) G t.new.heads) 0 t.result.next (omega (arith, r))

pub bounds-group-3-2 : goal.bounds-group-3-2
bounds-group-3-2 c =
    let G = c.args.group.now in
    let four : 4 ≤ length G = omega (arith, c.requires.0.long) in
    let t = c.take_led-t in
    let r = room G t.new.heads four (rw (take_rest 4 G) at t.ensures.heads.0) in
    let F = put_mid 4 (length G - 4) G t.new.heads in
    lt-length-set (set F 0 t.result.next) 2 t.result.at (lt-length-set F 0 t.result.next (omega (arith, r)))

abbrev lists : After-above → Group
lists c = views (words c.args.card.now) c.args.run.now c.args.m (drop 4 c.args.group.now)

-- what is counted, and that it has 15 bits
counted : (c : After-above) → (c.above-count.result ≡ above (head_vals c.args.key (lists c))) × (c.above-count.result ≤ 32767)
counted c =
    let t = c.take_led-t in
    let u = rw (take_rest 4 c.args.group.now) at t.ensures in
    let f : SFits w32 t.result.sum = search rules in
    let n = c.above-count.ensures ∙ ap above (to_z-of_z f ∙ u.taken.0) in
    (n, rw n (above_most (head_vals c.args.key (lists c)) c.requires.4))

pub overflow_cast-count : goal.overflow_cast-count
overflow_cast-count c = omega (arith, (counted c.before).1)

pub overflow_mul-score : goal.overflow_mul-score
overflow_mul-score c =
    let z = product-most c.above-count.result (get_or c.before.before.args.group.now 1 0) (counted c.before.before).1 c.before.before.requires.0.light in
    rw c.tf_weight.ensures.weight (omega (arith, z))

pub returns : goal.returns
returns c =
    let W = words c.args.card.now in
    let R = c.args.run.now in
    let G = c.args.group.now in
    let t = c.take_led-t in
    let u = rw (take_rest 4 G) at t.ensures in
    let n = (counted c.before.before).0 in
    let z = product-most c.above-count.result (get_or G 1 0) (counted c.before.before).1 c.requires.0.light in
    let X = t.new.heads in
    let r = t.result in
    let w = c.tf_weight.ensures.weight in record {
      group = (
        after_kept W R c.args.m c.args.key G c.requires.0 X r.next r.at r.others u.heads.0 u.heads.1 u.heads.2 u.taken.2 u.lead,
        after-term W R c.args.m c.args.key G c.requires.0 X r.next r.at r.others u.heads.0 u.heads.1 u.heads.2 u.taken.2 u.lead,
      );
      scored = (
        ap (λ (x : ℕ). x * get_or G 1 0) (w ∙ ap tf_weight n),
        rw w z,
        ap (ltb 0) n,
        after-top W R c.args.m c.args.key G c.requires.0 X r.next r.at r.others u.heads.0 u.heads.1 u.heads.2 u.taken.2 u.lead,
      );
    }

pub tf_weight-requires : goal.tf_weight-requires
tf_weight-requires c = (counted c.before).1
