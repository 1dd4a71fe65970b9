-- A removal that comes after others of its list, and the list itself, by their tests.
use Rattle.lists.proofs.Prelude.{Bool, true, false, not, ◌||◌, ◌&&◌, List, ◌≡◌, ℕ, suc, ◌+◌, ◌*◌, ◌<◌, ◌≤◌, ◌-◌, eqb, leb, ltb, length, le-leb, lt-leb, lt-ltb, le-ltb}
use Rattle.postings.specs.declared.Posting.{Posting}
use Rattle.answers.specs.Answers.{refuse, leave, done, refuse_if, choose}
use Rattle.state.specs.declared.Windows.{Windows}
use Rattle.state.specs.declared.Buffer.{Buffer}
use Rattle.state.specs.Views.{buffered}
use Rattle.card.specs.Blocks.{free_blocks}
use Rattle.removals.specs.Removal.{is_live}
use Rattle.batches.specs.declared.Room.{Room}
use Rattle.batches.specs.Steps.{flush_after, removal_after}

module _ (r : Room) (taken : ℕ) (W : List ℕ) (k : ℕ) where
  abbrev free : ℕ
  free = length (free_blocks W r.blocks taken)

  pub level-full : 16 ≤ r.low + k → flush_after r taken W k ≡ refuse 10
  unfolding flush_after refuse_if
  level-full h = rw (le-leb 16 (r.low + k) h)

  module _ (room : r.low + k < 16) where
    pub half_full : r.blocks < 2 * suc (r.used + k) → flush_after r taken W k ≡ refuse 11
    unfolding flush_after refuse_if
    half_full h = rw (lt-leb 16 (r.low + k) room, lt-ltb r.blocks (2 * suc (r.used + k)) h)

    module _ (half : 2 * suc (r.used + k) ≤ r.blocks) where
      pub too_few : leb (suc k) free ≡ false → flush_after r taken W k ≡ refuse 12
      unfolding flush_after refuse_if
      too_few h = rw (lt-leb 16 (r.low + k) room, le-ltb r.blocks (2 * suc (r.used + k)) half, h)

      pub flush-fits : leb (suc k) free ≡ true → flush_after r taken W k ≡ leave done tt
      unfolding flush_after refuse_if
      flush-fits h = rw (lt-leb 16 (r.low + k) room, le-ltb r.blocks (2 * suc (r.used + k)) half, h)

module _ (r : Room) (taken : ℕ) (W : List ℕ) (v : Windows) (b : Buffer) (k w : ℕ) (counts : List Posting) where
  abbrev named : Bool
  named = not (eqb v.current 0) && eqb w v.current

  abbrev dead : Bool
  dead = not (is_live counts) || (ltb v.last w || eqb v.live 0)

  pub names-open : named ≡ true → removal_after r taken W v b k w counts ≡ refuse 5
  unfolding removal_after refuse_if
  names-open e = rw e

  module _ (shut : named ≡ false) where
    pub not_live : dead ≡ true → removal_after r taken W v b k w counts ≡ refuse 7
    unfolding removal_after refuse_if
    not_live e = rw (shut, e)

    module _ (live : dead ≡ false) where
      pub fits-plain : ltb 128 (length (buffered b) + length counts) ≡ false → removal_after r taken W v b k w counts ≡ leave done tt
      unfolding removal_after refuse_if choose
      fits-plain e = rw (shut, live, e)

      pub needs-flush : ltb 128 (length (buffered b) + length counts) ≡ true → removal_after r taken W v b k w counts ≡ flush_after r taken W k
      unfolding removal_after refuse_if choose
      needs-flush e = rw (shut, live, e)
