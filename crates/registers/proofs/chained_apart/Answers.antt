use Rattle.lists.proofs.Prelude.{false, [], ◌≡◌, refl, sym, ap, ◌∙◌, suc, ◌<◌, add-one, arith, length, get_or, take, length-set, take_all, never}
use Rattle.identifiers.specs.Names.{among}
use Rattle.identifiers.specs.Register.{names}
use Rattle.registers.specs.Chains.{hash_of, last_with}
use Rattle.identifiers.proofs.Names.{distinct-stopped, distinct-on}
use Rattle.identifiers.proofs.Entries.{names-bound}
use Rattle.registers.proofs.Chains.{hash-below, heads-none, heads-on, links-on}
use Rattle.registers.proofs.chained_apart.Goals as goal

pub count_used-used-requires : goal.count_used-used-requires
count_used-used-requires c = c.requires.0

pub loop-i-init : goal.loop-i-init
loop-i-init c = record { apart = refl; long_heads = refl; long_links = refl; begun = heads-none _; linked = λ p k. absurd (omega arith) }

pub name_at-requires : goal.name_at-requires
name_at-requires c = (c.requires.0, omega (arith, c.count_used-used.ensures))

pub offset_bounds-heads-hash : goal.offset_bounds-heads-hash
offset_bounds-heads-hash c = omega (arith, c.hash_of-hash.ensures, hash-below c.name_at.result.now)

pub bounds-heads-hash : goal.bounds-heads-hash
bounds-heads-hash c = omega (arith, c.hash_of-hash.ensures, hash-below c.name_at.result.now)

pub repeated-requires : goal.repeated-requires
repeated-requires c =
    let r = c.args.register.now in
    let ms = names r in
    let i = c.loop-i.i in
    let h : i < length ms = omega (arith, c.count_used-used.ensures) in
    let n = get_or ms i [] in
    let q : c.hash_of-hash.result ≡ hash_of n = c.hash_of-hash.ensures ∙ ap hash_of c.name_at.ensures in (
      c.requires.0,
      record {
        there = h;
        room = omega (arith, names-bound r c.requires.0 c.requires.1);
        linked = c.loop-i.invariant.linked;
        begins = rw q (c.loop-i.invariant.begun (hash_of n) (hash-below n));
      },
    )

pub returns-then-repeated : goal.returns-then-repeated
returns-then-repeated c =
    let r = c.args.register.now in
    let ms = names r in
    let i = c.loop-i.i in
    let h : i < length ms = omega (arith, c.count_used-used.ensures) in
    (λ e. never e, λ k. sym (distinct-stopped ms i h (sym (c.repeated.ensures.1 k) ∙ c.if-repeated.true)))

pub offset_bounds-links-i : goal.offset_bounds-links-i
offset_bounds-links-i c = omega (arith, c.count_used-used.ensures, names-bound c.args.register.now c.requires.0 c.requires.1)

pub bounds-links-i : goal.bounds-links-i
bounds-links-i c = omega (arith, c.count_used-used.ensures, names-bound c.args.register.now c.requires.0 c.requires.1)

pub overflow_cast-heads : goal.overflow_cast-heads
overflow_cast-heads c = omega (arith, c.count_used-used.ensures, names-bound c.args.register.now c.requires.0 c.requires.1)

pub offset_bounds-heads-hash-in-loop-i : goal.offset_bounds-heads-hash-in-loop-i
offset_bounds-heads-hash-in-loop-i c = omega (arith, c.hash_of-hash.ensures, hash-below c.name_at.result.now)

pub bounds-heads-hash-in-loop-i : goal.bounds-heads-hash-in-loop-i
bounds-heads-hash-in-loop-i c = omega (arith, c.hash_of-hash.ensures, hash-below c.name_at.result.now)

pub loop-i-preserved : goal.loop-i-preserved
loop-i-preserved c =
    let r = c.args.register.now in
    let ms = names r in
    let i = c.loop-i.i in
    let h : i < length ms = omega (arith, c.count_used-used.ensures) in
    let n = get_or ms i [] in
    let q : c.hash_of-hash.result ≡ hash_of n = c.hash_of-hash.ensures ∙ ap hash_of c.name_at.ensures in
    let e : among n (take i ms) ≡ false = c.repeated.ensures.0 c.if-repeated.false in
    rw (q, add-one i, c.loop-i.invariant.begun (hash_of n) (hash-below n)) (record {
      apart = distinct-on ms i h c.loop-i.invariant.apart e;
      long_heads = length-set c.loop-i.heads (hash_of n) (suc i) ∙ c.loop-i.invariant.long_heads;
      long_links = length-set c.loop-i.links i (last_with ms (hash_of n) i) ∙ c.loop-i.invariant.long_links;
      begun = heads-on ms i c.loop-i.heads c.loop-i.invariant.long_heads c.loop-i.invariant.begun;
      linked = links-on ms i c.loop-i.links (omega (arith, c.loop-i.invariant.long_links, names-bound r c.requires.0 c.requires.1)) c.loop-i.invariant.linked;
    })

pub returns : goal.returns
returns c =
    let ms = names c.args.register.now in
    let d = rw (take_all c.loop-i.i ms (omega (arith, c.count_used-used.ensures))) at c.loop-i.invariant.apart in
    (λ e. d, λ k. sym d)
