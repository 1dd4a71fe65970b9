use Rattle.lists.proofs.Prelude.{true, false, ◌||◌, [], ◌≡◌, sym, ap, ap₂, ◌∙◌, ℕ, suc, ◌-◌, ◌<◌, arith, length, get_or, take, same, never}
use Rattle.identifiers.specs.Names.{among}
use Rattle.identifiers.specs.Register.{names}
use Rattle.registers.specs.Chains.{hash_of, last_with}
use Rattle.identifiers.proofs.Names.{among-upto}
use Rattle.registers.proofs.Chains.{last_within, last-hash, last-among, link-below}
use Rattle.registers.proofs.repeated.Goals as goal

pub name_at-name-requires : goal.name_at-name-requires
name_at-name-requires c = (c.requires.0, c.requires.1.there)

pub loop-left-init : goal.loop-left-init
loop-left-init c =
    let ms = names c.args.register.now in
    let i = c.args.i in
    let b = c.requires.1.begins in
    rw b (
      last_within ms (hash_of (get_or ms i [])) i,
      last-among ms (get_or ms i []) i (omega (arith, c.requires.1.there)),
      λ p e. last-hash ms (hash_of (get_or ms i [])) i p e,
      omega (arith, last_within ms (hash_of (get_or ms i [])) i),
    )

pub returns-then-steps-limit : goal.returns-then-steps-limit
returns-then-steps-limit c = (λ e. never (sym e), λ h. absurd (omega (arith, c.requires.1.room, c.if-steps-limit.true, c.loop-left.invariant.3)))

pub name_at-other-requires : goal.name_at-other-requires
name_at-other-requires c = (c.requires.0, omega (arith, c.requires.1.there))

pub returns-then-equal : goal.returns-then-equal
returns-then-equal c =
    let ms = names c.args.register.now in
    let i = c.args.i in
    let n = get_or ms i [] in
    let p = c.loop-left.left - 1 in
    let q : c.loop-left.left ≡ suc p = omega arith in
    let h : p < length ms = omega (arith, c.requires.1.there) in
    let e : same (get_or ms p []) n ≡ true =
    ap₂ same (sym c.name_at-other.ensures) (sym c.name_at-name.ensures) ∙ sym c.equal.ensures ∙ c.if-equal.true in
    let t : among n (take c.loop-left.left ms) ≡ (same (get_or ms p []) n || among n (take p ms)) = ap (λ (k : ℕ). among n (take k ms)) q ∙ among-upto ms p h n in
    (λ f. never (sym f), λ k. sym (c.loop-left.invariant.1 ∙ t ∙ rw e))

pub loop-left-smaller : goal.loop-left-smaller
loop-left-smaller c =
    omega (arith, link-below (names c.args.register.now) c.args.i c.args.links.now c.requires.1.linked (c.loop-left.left - 1) (omega arith))

pub loop-left-preserved : goal.loop-left-preserved
loop-left-preserved c =
    let ms = names c.args.register.now in
    let i = c.args.i in
    let n = get_or ms i [] in
    let p = c.loop-left.left - 1 in
    let q : c.loop-left.left ≡ suc p = omega arith in
    let h : p < length ms = omega (arith, c.requires.1.there) in
    let e : same (get_or ms p []) n ≡ false =
    ap₂ same (sym c.name_at-other.ensures) (sym c.name_at-name.ensures) ∙ sym c.equal.ensures ∙ c.if-equal.false in
    let t : among n (take c.loop-left.left ms) ≡ (same (get_or ms p []) n || among n (take p ms)) = ap (λ (k : ℕ). among n (take k ms)) q ∙ among-upto ms p h n in
    let k : get_or c.args.links.now p 0 ≡ last_with ms (hash_of n) p =
    c.requires.1.linked p (omega arith) ∙ ap (λ (x : ℕ). last_with ms x p) (c.loop-left.invariant.2 p q) in
    rw k (
      omega (arith, last_within ms (hash_of n) p),
      c.loop-left.invariant.1 ∙ t ∙ rw e (last-among ms n p (omega arith)),
      λ j z. last-hash ms (hash_of n) p j z,
      omega (arith, last_within ms (hash_of n) p, c.loop-left.invariant.3),
    )

pub returns : goal.returns
returns c =
    let z : c.loop-left.left ≡ 0 = omega arith in
    (λ e. c.loop-left.invariant.1 ∙ rw z, λ h. sym (c.loop-left.invariant.1 ∙ rw z))
