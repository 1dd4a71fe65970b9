-- `events::judging::judge_number` meets its contract: the first test that holds is told by its number, or the identifier's number where none does.
use Rattle.lists.proofs.Prelude.{refl, sym, ◌∙◌, eq-eqb, ne_eqb, le-leb, lt-leb}
use Rattle.events.proofs.judging.judge_number.Goals as goal

pub returns-then-w-eq0 : goal.returns-then-w-eq0
returns-then-w-eq0 c = rw (eq-eqb c.args.w.current 0 c.if-w-eq0.true)

pub returns-then-w-ge32767 : goal.returns-then-w-ge32767
returns-then-w-ge32767 c =
    let w = c.args.w in
    rw (ne_eqb w.current 0 c.if-w-eq0.false, le-leb 32767 w.events c.if-w-ge32767.true)

pub returns-then-i-room : goal.returns-then-i-room
returns-then-i-room c =
    let a = c.args in
    rw (ne_eqb a.w.current 0 c.if-w-eq0.false, lt-leb 32767 a.w.events c.if-w-ge32767.false, le-leb a.room a.i c.if-i-room.true)

pub returns-then-is_full : goal.returns-then-is_full
returns-then-is_full c =
    let a = c.args in
    rw (ne_eqb a.w.current 0 c.if-w-eq0.false, lt-leb 32767 a.w.events c.if-w-ge32767.false, lt-leb a.room a.i c.if-i-room.false, sym c.is_full.ensures ∙ c.if-is_full.true)

pub returns : goal.returns
returns c =
    let a = c.args in (
      rw (ne_eqb a.w.current 0 c.if-w-eq0.false, lt-leb 32767 a.w.events c.if-w-ge32767.false, lt-leb a.room a.i c.if-i-room.false, sym c.is_full.ensures ∙ c.if-is_full.false),
      refl,
    )
