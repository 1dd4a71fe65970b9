-- `means::mean_read` meets its contract: the lists of what is read, and then the identifier, if the register has it.
use Rattle.lists.proofs.Prelude.{sym, ap, ◌∙◌, arith, passed, failed}
use Rattle.answers.specs.Answers.{answer_of}
use Rattle.words.specs.Words.{words}
use Rattle.queries.proofs.Tested.{sound-words, sound-names}
use Rattle.means.proofs.Outcomes.{rest-lists, rest-known, rest-unknown}
use Rattle.means.proofs.mean_read.Goals as goal

pub lists_ok-requires : goal.lists_ok-requires
lists_ok-requires c =
    let a = c.args in
    (c.requires.rule, sound-words a.s a.card.now a.register.now c.requires, c.requires.partitions)

pub returns-then-not-lists_ok : goal.returns-then-not-lists_ok
returns-then-not-lists_ok c =
    let a = c.args in
    sym (ap answer_of (rest-lists (words a.card.now) a.s a.register.now a.id.now (failed c.lists_ok.ensures c.if-not-lists_ok.true-raw)))

pub find-number-requires : goal.find-number-requires
find-number-requires c = c.requires.names

pub overflow_cast-number : goal.overflow_cast-number
overflow_cast-number c =
    let a = c.args in
    omega (arith, c.if-number-used.true, c.used_entries-used.ensures, sound-names a.s a.card.now a.register.now c.requires)

pub mean_known-requires : goal.mean_known-requires
mean_known-requires c =
    let a = c.args in
    (c.requires.rule, sound-words a.s a.card.now a.register.now c.requires, c.requires.partitions)

pub returns-then-number-used : goal.returns-then-number-used
returns-then-number-used c =
    let a = c.args in
    let u = c.used_entries-used.ensures in
    let n = c.find-number.ensures in
    c.mean_known.ensures
    ∙ sym (ap answer_of (rest-known (words a.card.now) a.s a.register.now a.id.now (passed c.lists_ok.ensures c.if-not-lists_ok.false-raw) _ n (omega (arith, c.if-number-used.true))))

pub returns : goal.returns
returns c =
    let a = c.args in
    let u = c.used_entries-used.ensures in
    let n = c.find-number.ensures in
    c.divide.ensures
    ∙ sym (ap answer_of (rest-unknown (words a.card.now) a.s a.register.now a.id.now (passed c.lists_ok.ensures c.if-not-lists_ok.false-raw) (omega (arith, c.if-number-used.false))))
