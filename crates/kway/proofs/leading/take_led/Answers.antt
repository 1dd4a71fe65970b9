-- `kway::leading::take_led` meets its contract: the list that leads alone, and all lists.
use Rattle.lists.proofs.Prelude.{sym, ◌∙◌, ◌≤◌, ◌<◌, arith, ltb, ltb-true, leb-true, and_left, and_right, rules}
use mir.Facts.{to_z-of_z, sfits_widen}
use mir.Syntax.{w16, w32}
use mir.Val.{SFits}
use Rattle.kway.proofs.Parts.{all-at, ends, width, put-length}
use Rattle.kway.proofs.Leads.{led-rests, led-kept, led-sum, led-fine, led-top, led-leads}
use Rattle.kway.proofs.leading.take_led.Goals as goal

pub took-t-requires : goal.took-t-requires
took-t-requires g c =
    let s = g.S.Source in
    let h : c.args.at < c.args.n = ltb-true _ _ (and_left _ _ c.if-place-n.true) in
    (rw (c.width.ensures, c.width-then-place-n.ensures, width s.WIDTH c.args.at) (all-at (s.kept c.args.source.now) s.WIDTH c.args.n c.args.heads.now c.requires.3 c.args.at h), c.requires.2)

pub returns-then-place-n : goal.returns-then-place-n
returns-then-place-n g c =
    let s = g.S.Source in
    let w = s.WIDTH in
    let V = s.view c.args.source.now in
    let K = s.kept c.args.source.now in
    let H = c.args.heads.now in
    let n = c.args.n in
    let p = c.args.at in
    let o = c.args.others in
    let k = c.args.key in
    let test = c.if-place-n.true in
    let h : p < n = ltb-true _ _ (and_left _ _ test) in
    let low : o ≤ k = leb-true _ _ (and_right (ltb p n) _ test) in
    let t = c.took-t in
    let e = rw (c.width.ensures, c.width-then-place-n.ensures, width w p) at t.ensures in
    let X = t.new.head in
    let long = g.met.S.Source.laws.long _ _ e.0 in
    let inside = ends w p n h in
    let f : SFits w16 t.result.count = search rules in
    let sum = to_z-of_z (sfits_widen {w' = w32} tt f) in
    rw (c.width.ensures, c.width-then-place-n.ensures) (record {
      heads = (
        put-length w H X p (omega (arith, c.requires.0)) long,
        led-kept V K w n H c.requires.0 p o k c.requires.3 c.requires.4 h low X long e.0 e.1,
        led-rests V K w n H c.requires.0 p o k c.requires.3 c.requires.4 h low X long e.0 e.1,
      );
      taken = (
        rw (to_z-of_z f, sum) (e.2 ∙ sym (led-sum V K w n H c.requires.0 p o k c.requires.3 c.requires.4 h low X long e.0 e.1)),
        e.3 ∙ sym (led-fine V K w n H c.requires.0 p o k c.requires.3 c.requires.4 h low X long e.0 e.1),
        c.max.ensures ∙ rw e.4 (led-top V K w n H c.requires.0 p o k c.requires.3 c.requires.4 h low X long e.0 e.1),
        rw (to_z-of_z f, sum) (omega (arith, f.sfits)),
      );
      lead = led-leads V K w n H c.requires.0 p o k c.requires.3 c.requires.4 h low X long e.0 e.1;
    })
