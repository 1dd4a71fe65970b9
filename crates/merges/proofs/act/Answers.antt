-- `merges::act` meets its contract.
use Rattle.std.proofs.lemmas.Result.{err_from_is_err_and}
use Rattle.lists.proofs.Prelude.{true, not, ◌≡◌, refl, sym, ap, ◌∙◌, suc, arith, rules}
use Rattle.words.specs.Words.{words}
use Rattle.state.specs.Views.{finished}
use Rattle.state.proofs.Kept.{state-kept}
use Rattle.inputs.specs.Judging.{inputs_formed, counts_by_id}
use Rattle.inputs.proofs.Judged.{judged-some, judged-none}
use Rattle.windows.specs.Promises.{store_of}
use Rattle.windows.proofs.Outcomes.{stopped}
use Rattle.plans.specs.Merging.{inputs, is_last}
use Rattle.plans.specs.Acting.{Judged, next_state, Due}
use Rattle.levels.proofs.Choosing.{finished-of}
use Rattle.plans.proofs.Refusing.{pairs-read}
use Rattle.plans.proofs.Stepping.{card-words, judged, inputs_read, formed-inputs}
use Rattle.plans.proofs.Planning.{formed-plan}
use Rattle.merges.proofs.act.Goals as goal
use Rattle.merges.proofs.act.Goals.{In-Some, In_ok-p}

pub judge-requires : goal.judge-requires
judge-requires c =
    let p = c.requires in
    let r = inputs_read c.args.s c.args.card.now p.rule p.size p.formed c.args.is p.are in
    (omega (arith, r.0), r.1, omega (arith, r.0), search rules, search rules)

pub returns-in_default : goal.returns-in_default
returns-in_default c =
    let W = words c.args.card.now in
    let f : finished c.args.is ≡ inputs c.args.s = ap finished c.requires.are ∙ finished-of (inputs c.args.s) in
    let no = rw f at (judged-none W (finished c.args.is) c.in_default.ensures.0) in
    record { same = refl; told = stopped _ 3 _ (ap not (formed-inputs W c.args.s c.requires.formed no)) }

-- the inputs are well formed
formed : (i : In-Some) → inputs_formed (words i.args.card.now) (inputs i.args.s) ≡ true
formed i =
    let f : finished i.args.is ≡ inputs i.args.s = ap finished i.requires.are ∙ finished-of (inputs i.args.s) in
    rw f at (judged-some (words i.args.card.now) (finished i.args.is) i.in-Some.t i.in-Some.ensures.0).0

known : (i : In-Some) → Judged (words i.args.card.now) i.args.s i.args.is i.in-Some.t
known i =
    let a = i.args in
    let p = i.requires in
    judged a.s a.card.now p.rule p.size p.formed (formed i) a.is i.in-Some.t p.are i.in-Some.ensures.0 i.in-Some.ensures.1.1

pub prepare-requires : goal.prepare-requires
prepare-requires c =
    let i = (goal.at.prepare-requires c).In-Some in
    let a = c.args in
    let p = c.requires in
    (card-words a.s a.card.now p.rule p.size, known i, formed i, (state-kept a.s p.rule).taken, p.stands)

pub returns-in_err-p : goal.returns-in_err-p
returns-in_err-p c =
    let i = (goal.at.returns-in_err-p c).In-Some in
    let q = c.in_err-p.ensures in
    let p = err_from_is_err_and c.from_residual.result c.from_residual.ensures.1 in
    rw (p.1, p.2) (record { same = q.same; told = rw (formed-plan (words c.args.card.now) c.args.s c.requires.formed (formed i)) q.told })

-- what the step is written from
due : (i : In_ok-p) → Judged (words i.args.card.now) i.args.s i.args.is i.in-Some.t → Due (words i.prepare.new.card) i.args.s i.args.is i.in-Some.t i.judge.new.counts i.in_ok-p.p.output i.in_ok-p.p.batch
due i known =
    let a = i.args in
    let p = i.in_ok-p.ensures in
    record {
      judged = p.judged;
      counts = i.in-Some.ensures.1.0 ∙ ap counts_by_id (pairs-read (words a.card.now) a.s a.is i.in-Some.t known ∙ sym p.pairs);
      acts = p.acts;
    }

pub finish-last-requires : goal.finish-last-requires
finish-last-requires c =
    let w = card-words c.args.s c.args.card.now c.requires.rule c.requires.size in
    (omega (arith, c.prepare.auto.card, w), record { state = c.args.s; due = due (goal.at.finish-last-requires c).In_ok-p (known (goal.at.finish-last-requires c).In-Some); steps = refl; level = c.requires.level })

pub returns : goal.returns
returns c =
    let i = (goal.at.returns c).In-Some in
    let d = due (goal.at.returns c).In_ok-p (known i) in
    let a = c.args in
    let p = c.in_ok-p.p in
    let r = c.in_ok-p.ensures in
    let t = c.in-Some.t in
    let f = c.finish-last in
    let last = f.ensures.last a.s d refl ∙ ap (λ l. is_last l (suc a.s.merge.steps)) r.pairs in
    record {
      small = c.in-Some.ensures.1.1;
      early = r.early;
      done = rw (formed-plan (words a.card.now) a.s c.requires.formed (formed i))
          (r.done (store_of (next_state a.s f.result t p.output) f.new.card) (ap (λ l. next_state a.s l t p.output) last) (f.ensures.card a.s d refl c.requires.level));
    }
