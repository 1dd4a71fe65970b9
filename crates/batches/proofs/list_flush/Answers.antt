use Rattle.lists.proofs.Prelude.{true, List, ◌≡◌, refl, sym, ap, subst, ◌∙◌, ℕ, ◌<◌, ◌≤◌, arith, leb, length, every, empty-is, not-true, not-false, rules}
use Rattle.words.specs.Words.{words}
use Rattle.words.proofs.Views.{length-words}
use Rattle.postings.specs.Order.{ordered}
use Rattle.state.specs.declared.Buffer.{Buffer}
use Rattle.state.specs.declared.Partitions.{Partitions}
use Rattle.state.specs.Views.{blocks, buffered, finished, partitions_of}
use Rattle.state.proofs.Kept.{state-kept}
use Rattle.card.specs.Blocks.{free_blocks}
use Rattle.partitions.specs.Formed.{in_range}
use Rattle.std.specs.Prelude.{Some}
use Rattle.flushes.specs.Flush.{next_free}
use Rattle.flushes.specs.Targets.{Chosen}
use Rattle.flushes.proofs.Rooms.{room-left, chosen-there, chosen-free, counts-fit, ids-fit}
use Rattle.flushes.proofs.Targets.{block-found, none_found}
use Rattle.batches.specs.Steps.{Writable, first_free}
use Rattle.batches.proofs.list_flush.Goals as goal

pub returns-then-not-flush : goal.returns-then-not-flush
returns-then-not-flush c = rw (not-true c.args.flush c.if-not-flush.true-raw) (record { partitions = refl; taken = refl; written = refl })

-- the free block that comes next is the one that a flush takes
chosen : (card : List ℕ) (n last : ℕ) (b : Buffer) (ps : Partitions) (w : Writable card n last b ps) (d : ℕ) → d ≡ first_free card n last → Chosen w.state (words card) d
chosen card n last b ps w d e =
    let same : first_free card n last ≡ next_free w.state (words card) = rw (w.blocks, w.taken) in
    subst (Chosen w.state (words card)) (sym (e ∙ same)) w.chosen

pub next_free-requires : goal.next_free-requires
next_free-requires c =
    let w = c.requires (not-false _ c.if-not-flush.false-raw) in
    let k = state-kept w.state w.rule in
    rw (← w.blocks, ← w.taken) (omega (arith, length-words c.args.card.now, k.lengths.card, w.size), k.lengths.most_blocks, omega (arith, k.taken))

-- the block is the first free one
pub flush-list-requires : goal.flush-list-requires
flush-list-requires c =
    let writable : Writable c.args.card.now c.args.blocks c.args.taken c.args.b c.args.ps = c.requires (not-false _ c.if-not-flush.false-raw) in
    let found : (d : ℕ) → c.next_free.result ≡ Some d → d ≡ first_free c.args.card.now c.args.blocks c.args.taken =
    λ d e. (block-found (free_blocks (words c.args.card.now) c.args.blocks c.args.taken) d (sym e ∙ c.next_free.ensures)).1 in
    let a = c.args in
    let w = writable in
    let s = w.state in
    let k = state-kept s w.rule in
    let W = words a.card.now in
    let d = c.in-Some.block in
    let ch : Chosen s W d = chosen a.card.now a.blocks a.taken a.b a.ps w d (found d c.in-Some.is) in
    let there = chosen-there s W d ch in (
      omega (arith, w.size, k.lengths.card),
      record { few = omega (arith, k.lengths.most_blocks, there); inside = omega (arith, w.size, k.lengths.card, length-words a.card.now, there) },
      chosen-free s W d ch,
      subst (λ (x : Buffer). x.used ≤ 128) w.buffer k.buffer.used,
      subst (λ (x : Buffer). ordered (buffered x) ≡ true) w.buffer k.buffer.order,
      subst (λ (x : Buffer). every (λ p. in_range p.count) (buffered x) ≡ true) w.buffer (counts-fit s.windows (buffered s.buffer) k.buffer.rules),
      subst (λ (x : Buffer). every (λ p. leb p.id 1023) (buffered x) ≡ true) w.buffer (ids-fit s.windows (buffered s.buffer) k.buffer.rules),
      subst (λ (x : Partitions). x.used ≤ 51) w.partitions k.partitions.used,
      subst (λ (x : Partitions). length (finished x) < 51) w.partitions (room-left (blocks s) s.partitions k.partitions ch.room),
      subst (λ (x : Partitions). length x.records ≡ 51 → x ≡ partitions_of (finished x)) w.partitions k.partitions.form,
    )

pub returns-in-None : goal.returns-in-None
returns-in-None c =
    let writable : Writable c.args.card.now c.args.blocks c.args.taken c.args.b c.args.ps = c.requires (not-false _ c.if-not-flush.false-raw) in
    let w = writable in
    let free = free_blocks (words c.args.card.now) c.args.blocks c.args.taken in
    let none = none_found free (sym c.in-None.is ∙ c.next_free.ensures) in
    absurd (omega (arith, ap length (empty-is free none), rw (w.blocks, w.taken) at w.chosen.there))

pub returns-in-Some : goal.returns-in-Some
returns-in-Some c =
    let found : (d : ℕ) → c.next_free.result ≡ Some d → d ≡ first_free c.args.card.now c.args.blocks c.args.taken =
    λ d e. (block-found (free_blocks (words c.args.card.now) c.args.blocks c.args.taken) d (sym e ∙ c.next_free.ensures)).1 in
    let f = c.flush-list in
    let e = found c.in-Some.block c.in-Some.is in
    rw (not-false c.args.flush c.if-not-flush.false-raw) (record { partitions = rw (← e) f.ensures.0; taken = e; written = rw (← e) f.ensures.1 })
