use Rattle.lists.proofs.Prelude.{◌≡◌, ◌/◌, ◌%◌, ◌<◌, mod-lt, arith, lit<, pos}
use lib.Bits.{and_mask}
use mir.Syntax.{w16}
use mir.Facts.{to_z-of_z, to_z_pos}
use Rattle.words.proofs.Bits.{top_bit}
use Rattle.postings.proofs.Signs.{zero-sub, neg-fits}
use Rattle.postings.proofs.count_of.Goals as goal

pub returns-else-low-eq0 : goal.returns-else-low-eq0
returns-else-low-eq0 c =
    let n = c.args.low in
    let h : n < 65536 = omega arith in
    let z : n / 32768 ≡ 1 = omega (arith, top_bit n h) in
    rw (and_mask n 15, to_z_pos w16 (mod-lt n (lit< tt)), zero-sub, z) (to_z-of_z (neg-fits (pos (n % 32768)) (omega arith)))
