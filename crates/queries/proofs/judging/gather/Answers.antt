use Rattle.lists.proofs.Prelude.{◌≡◌, refl, sym, ap, ◌∙◌, subst, [], map, ℕ, ◌<◌, arith, length, get_or, length-map}
use Rattle.partitions.specs.Formed.{identifier_formed}
use Rattle.words.specs.Words.{words}
use Rattle.identifiers.specs.Names.{number_of}
use Rattle.identifiers.specs.Register.{names}
use Rattle.queries.specs.Gathered.{KeptWell}
use Rattle.identifiers.proofs.Lent.{lent_at}
use Rattle.queries.proofs.Gathering.{gathering-none, gathered-all, gathering-unknown, gathered-fault, gathering-more}
use Rattle.queries.proofs.Tested.{sound-names}
use Rattle.queries.proofs.judging.gather.Goals as goal
use Rattle.queries.proofs.judging.gather.Goals.{then-number-used+in_ok-known, else-number-used}

pub loop-id-init : goal.loop-id-init
loop-id-init c =
    let a = c.args in
    record { heads = refl; spare = refl; gathered = gathering-none (words a.card.now) a.run.now a.s a.t a.live (names a.register.now) (map (λ x. x.now) a.ids.now) _ a.heads.now refl refl }

pub find-number-requires : goal.find-number-requires
find-number-requires c = c.requires.0.names

pub overflow_cast-number : goal.overflow_cast-number
overflow_cast-number c =
    omega (arith, c.if-number-used.true, c.used_entries-used.ensures, sound-names c.args.s c.args.card.now c.args.register.now c.requires.0)

pub keep_one-requires : goal.keep_one-requires
keep_one-requires c =
    let v = c.loop-id.invariant in
    (rw (v.heads, v.spare) c.requires.1, v.gathered.used, v.gathered.few)

pub returns-in_err-known : goal.returns-in_err-known
returns-in_err-known c =
    let a = c.args in
    let W = words a.card.now in
    let ms = names a.register.now in
    let ns = map (λ x. x.now) a.ids.now in
    let i = c.loop-id.id-index in
    let e : c.find-number.result ≡ number_of ms (get_or ns i []) = c.find-number.ensures ∙ ap (number_of ms) (sym (lent_at a.ids.now i)) in
    let u : c.used_entries-used.result ≡ length ms = c.used_entries-used.ensures in
    let h : i < length ns = omega (arith, c.loop-id-test.true, length-map a.ids.now (λ x. x.now)) in
    let g : number_of ms (get_or ns i []) < length ms = omega (arith, c.if-number-used.true) in
    rw c.from_residual.ensures
    (gathered-fault W a.run.now a.s a.t a.live ms ns i c.loop-id.known c.loop-id.heads h c.loop-id.invariant.gathered g (ap (identifier_formed W a.s) (sym e) ∙ c.in_err-known.ensures))

pub loop-id-preserved : goal.loop-id-preserved
loop-id-preserved c =
    let a = c.args in
    let W = words a.card.now in
    let ms = names a.register.now in
    let ns = map (λ x. x.now) a.ids.now in
    let i = c.loop-id.id-index in
    let e : c.find-number.result ≡ number_of ms (get_or ns i []) = c.find-number.ensures ∙ ap (number_of ms) (sym (lent_at a.ids.now i)) in
    let u : c.used_entries-used.result ≡ length ms = c.used_entries-used.ensures in
    let h : i < length ns = omega (arith, c.loop-id-test.true, length-map a.ids.now (λ x. x.now)) in
    let v = c.loop-id.invariant in
    let k = c.loop-id.known in
    let H = c.loop-id.heads in
    elim c.if-number-used.branch [
      | then-number-used+in_ok-known w ↦ rw (w.heads-is, w.spare-is, w.known-is) (record {
        heads = w.keep_one.auto.heads ∙ v.heads;
        spare = w.keep_one.auto.spare ∙ v.spare;
        gathered = gathering-more W a.run.now a.s a.t a.live ms ns i k H h v.gathered (omega (arith, w.if-number-used.true)) w.in_ok-known.known w.keep_one.new.heads
            (subst (λ (j : ℕ). KeptWell W a.run.now a.s a.t a.live k H j w.keep_one.new.heads w.in_ok-known.known) e w.in_ok-known.ensures);
      })
      | else-number-used w ↦ rw (w.heads-is, w.spare-is, w.known-is) (record {
        heads = v.heads;
        spare = v.spare;
        gathered = gathering-unknown W a.run.now a.s a.t a.live ms ns i k H h v.gathered (omega (arith, w.if-number-used.false));
      })
    ]

pub returns : goal.returns
returns c =
    let a = c.args in
    gathered-all (words a.card.now) a.run.now a.s a.t a.live (names a.register.now) (map (λ x. x.now) a.ids.now) c.loop-id.id-index c.loop-id.known c.loop-id.heads (omega (arith, length-map a.ids.now (λ x. x.now))) c.loop-id.invariant.gathered
