-- `plans::judging::output_ok` meets its contract.
use Rattle.lists.proofs.Prelude.{true, List, by-test, eqb, ◌≡◌, refl, sym, ap, ap₂, ◌∙◌, ℕ, ◌+◌, ◌*◌, ◌<◌, arith, eqb-true, length}
use Rattle.words.specs.Words.{words}
use Rattle.postings.specs.declared.Posting.{Posting}
use Rattle.postings.specs.Merge.{nonzero}
use Rattle.state.specs.Views.{blocks, finished}
use Rattle.card.specs.Blocks.{no_block}
use Rattle.card.specs.Chains.{blocks_for, chain_rule}
use Rattle.card.proofs.Seeking.{rule-chained}
use Rattle.drafts.specs.Drafted.{holds_draft, stands_apart}
use Rattle.plans.specs.Merging.{inputs}
use Rattle.plans.specs.Acting.{length_from}
use Rattle.levels.proofs.Choosing.{finished-of}
use Rattle.plans.proofs.Drafting.{readable, inputs-few}
use Rattle.plans.proofs.Refusing.{rule-late, rule-long, rule-none, standing_apart, rule-held, room-held, acts-none, acts-held, pairs-read}
use Rattle.plans.proofs.judging.output_ok.Goals as goal
use Rattle.plans.proofs.judging.output_ok.Goals.{Else-n-eq0}

many : (i : Else-n-eq0) → i.blocks_for-n.result ≡ blocks_for (length_from i.args.t)
many i = i.blocks_for-n.ensures ∙ ap blocks_for i.output_length-length.ensures

some : (i : Else-n-eq0) → blocks_for (length_from i.args.t) ≡ 0 → ⊥
some i z = i.if-n-eq0.false (many i ∙ z)

long : (i : Else-n-eq0) → i.args.s.merge.length ≡ length_from i.args.t
long i = i.if-job-length.false ∙ i.output_length-length.ensures

stood : (i : Else-n-eq0) → (chain_rule (words i.args.card.now) (blocks i.args.s) i.args.s.merge.first (blocks_for (length_from i.args.t)) ≡ true)
    × (stands_apart (words i.args.card.now) i.args.s.merge.first (blocks_for (length_from i.args.t)) (finished i.args.s.partitions) ≡ true)
stood i =
    let a = i.args in
    standing_apart (words a.card.now) a.s a.is a.t i.requires.0 i.requires.2 (long i) (some i) i.requires.3

pub returns-then-t-job : goal.returns-then-t-job
returns-then-t-job c =
    sym (rule-late (words c.args.card.now) c.args.s c.args.is c.args.t c.requires.0 c.if-t-job.true)

pub returns-then-job-length : goal.returns-then-job-length
returns-then-job-length c =
    let ol = c.output_length-length.ensures in
    sym (rule-long (words c.args.card.now) c.args.s c.args.is c.args.t c.requires.0 c.if-t-job.false (λ q. c.if-job-length.true (q ∙ sym ol)))

pub returns-then-n-eq0 : goal.returns-then-n-eq0
returns-then-n-eq0 c =
    let bf = c.blocks_for-n.ensures in
    let ol = c.output_length-length.ensures in
    let W = words c.args.card.now in
    let nn = bf ∙ ap blocks_for ol in
    let z = sym nn ∙ c.if-n-eq0.true in
    let s = c.args.s in
    let r = rule-none W s c.args.is c.args.t c.requires.0 c.if-t-job.false (c.if-job-length.false ∙ ol) z in
    rw c.then_some.ensures
    (by-test (eqb s.merge.first no_block)
    (λ y. rw y (sym r ∙ y, acts-none W s c.args.is c.args.t c.requires.0 _ _ refl refl z (eqb-true _ _ y) refl refl refl))
    (λ n. rw n (sym r ∙ n)))

pub read_draft-r-requires : goal.read_draft-r-requires
read_draft-r-requires c =
    let i = (goal.at.read_draft-r-requires c).Else-n-eq0 in
    let W = words c.args.card.now in
    let g = c.requires.0 in
    let f = ap finished g.are ∙ finished-of (inputs c.args.s) in
    let n : c.blocks_for-n.result ≡ blocks_for (length_from c.args.t) = many i in
    let small : 1023 * c.blocks_for-n.result < 4294967296 = omega (arith, c.blocks_for-n.ensures) in (
      inputs-few W c.args.s c.args.is c.args.t g,
      rw f (readable W c.args.s c.args.is c.args.t g),
      rw f c.requires.1,
      rw n (rule-chained W (blocks c.args.s) c.args.s.merge.first _ g.long g.few (stood i).0),
      small,
      omega (arith, n, ap (λ (l : List Posting). length (nonzero l)) (pairs-read W c.args.s c.args.is c.args.t g), room-held W c.args.s c.args.is c.args.t g c.if-t-job.false (long i) (some i)),
    )

pub returns : goal.returns
returns c =
    let i = (goal.at.returns c).Else-n-eq0 in
    let W = words c.args.card.now in
    let g = c.requires.0 in
    let n = c.blocks_for-n.ensures ∙ ap blocks_for c.output_length-length.ensures in
    let r = pairs-read W c.args.s c.args.is c.args.t g in
    let d = c.read_draft-r.ensures in
    let h = d.0 ∙ ap₂ (λ (m : ℕ) (l : List Posting). holds_draft W c.args.s.merge.first m (8 + 3 * c.args.t.terms) (16 * c.args.s.merge.steps) l) n r in
    let rule = h ∙ rule-held W c.args.s c.args.is c.args.t g c.if-t-job.false (long i) (some i) (stood i).0 (stood i).1 in
    rw c.then_some-2.ensures
    (by-test c.read_draft-r.result.held
    (λ y. rw y (sym rule ∙ y, acts-held W c.args.s c.args.is c.args.t g _ _ refl refl (some i) (stood i).0 (stood i).1 (sym h ∙ y) (rw r at d.1) (rw r at d.2) (rw r at d.3) d.4))
    (λ n. rw n (sym rule ∙ n)))
