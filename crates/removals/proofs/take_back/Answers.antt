use Rattle.lists.proofs.Prelude.{◌-◌, length, get_or, unmapped, ◌≡◌, ◌∙◌, arith, rules}
use mir.Facts.{to_z-of_z}
use Rattle.lists.proofs.Sizes.{small-fits}
use Rattle.postings.proofs.Signs.{neg-fits}
use Rattle.removals.proofs.Takes.{start-buffer, end-buffer, small_count, next-addable, next-buffer, buffer-canonical}
use Rattle.state.specs.Views.{no_posting}
use Rattle.removals.proofs.take_back.Goals as goal

pub loop-i-init : goal.loop-i-init
loop-i-init c =
    let wide : length c.args.b.postings ≡ 128 = search (unmapped, rules) in
    let long : length c.args.c.postings ≡ 64 = search (unmapped, rules) in
    start-buffer c.args.b c.args.c c.requires wide long

pub negate-requires : goal.negate-requires
negate-requires c =
    let wide : length c.args.b.postings ≡ 128 = search (unmapped, rules) in
    let long : length c.args.c.postings ≡ 64 = search (unmapped, rules) in
    let z = (get_or c.args.c.postings (c.loop-i.i - 1) no_posting).count in
    let k = small_count c.args.b c.args.c c.requires wide long c.loop-i.i (c.loop-i.i - 1) no_posting (omega arith) (omega arith) in
    rw (to_z-of_z (small-fits z k)) k

pub add-left-requires : goal.add-left-requires
add-left-requires c =
    let wide : length c.args.b.postings ≡ 128 = search (unmapped, rules) in
    let long : length c.args.c.postings ≡ 64 = search (unmapped, rules) in
    let z = (get_or c.args.c.postings (c.loop-i.i - 1) no_posting).count in
    let k = small_count c.args.b c.args.c c.requires wide long c.loop-i.i (c.loop-i.i - 1) no_posting (omega arith) (omega arith) in
    rw (c.loop-i.invariant, c.negate.ensures, to_z-of_z (small-fits z k), to_z-of_z (neg-fits z k))
    (buffer-canonical c.args.b c.args.c c.requires wide long c.loop-i.i, next-addable c.args.b c.args.c c.requires wide long c.loop-i.i (c.loop-i.i - 1) no_posting (omega arith) (omega arith))

pub loop-i-preserved : goal.loop-i-preserved
loop-i-preserved c =
    let wide : length c.args.b.postings ≡ 128 = search (unmapped, rules) in
    let long : length c.args.c.postings ≡ 64 = search (unmapped, rules) in
    let z = (get_or c.args.c.postings (c.loop-i.i - 1) no_posting).count in
    let k = small_count c.args.b c.args.c c.requires wide long c.loop-i.i (c.loop-i.i - 1) no_posting (omega arith) (omega arith) in
    rw (c.loop-i.invariant, c.negate.ensures, to_z-of_z (small-fits z k), to_z-of_z (neg-fits z k)) at c.add-left.ensures
    ∙ next-buffer c.args.b c.args.c c.requires wide long c.loop-i.i (c.loop-i.i - 1) no_posting (omega arith) (omega arith)

pub returns : goal.returns
returns c =
    let wide : length c.args.b.postings ≡ 128 = search (unmapped, rules) in
    let long : length c.args.c.postings ≡ 64 = search (unmapped, rules) in
    let z : c.loop-i.i ≡ 0 = omega arith in
    c.loop-i.invariant ∙ rw z (end-buffer c.args.b c.args.c c.requires wide long)
