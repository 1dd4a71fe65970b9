-- `words::put_word` meets its contract: the four bytes that it writes join to the value, and none is past the last word.
use Rattle.lists.proofs.Prelude.{◌≡◌, ap, ◌∙◌, ◌+◌, ◌-◌, ◌*◌, ◌/◌, ◌%◌, arith, length, set}
use Rattle.std.proofs.lemmas.Slice.{drop-put_mid}
use Rattle.words.specs.Words.{joined4, words}
use Rattle.words.proofs.Views.{room, words-set}
use Rattle.words.proofs.put_word.Goals as goal

pub returns-clause-put : goal.returns-clause-put
returns-clause-put c =
    let i = c.args.at in
    let v = c.args.value in
    let k : 4 * i + 4 - 4 * i ≡ 4 = omega arith in
    let e : joined4 (v % 256) (v / 256 % 256) (v / 65536 % 256) (v / 16777216 % 256) ≡ v = omega arith in
    rw (k, c.copy_from_slice.ensures.after, c.to_le_bytes.ensures) (words-set c.args.bytes.now i (v % 256) (v / 256 % 256) (v / 65536 % 256) (v / 16777216 % 256) c.requires ∙ ap (set (words c.args.bytes.now) i) e)

pub returns-clause-rest : goal.returns-clause-rest
returns-clause-rest c =
    let h = room c.args.bytes.now c.args.at c.requires in
    let n : length c.copy_from_slice.new.self ≡ 4 * c.args.at + 4 - 4 * c.args.at = omega (arith, ap length c.copy_from_slice.ensures.after, ap length c.to_le_bytes.ensures) in
    drop-put_mid (4 * c.args.at) _ c.args.bytes.now _ _ (omega arith) (omega arith) n
