-- Refusals 1 to 3 of a removal, and what goes on after them.
use Rattle.lists.proofs.Prelude.{true, false, ◌&&◌, not, List, [], ◌∷◌, ◌≡◌, refl, ap, ◌∙◌, ℕ, ◌*◌, arith, length, eq-eqb}
use Rattle.words.specs.Words.{words}
use Rattle.words.proofs.Views.{length-words}
use Rattle.answers.specs.declared.Refusal.{Refusal}
use Rattle.answers.specs.Answers.{Answer, refuse, refused}
use Rattle.answers.specs.Numbers.{refusal_number}
use Rattle.state.specs.declared.State.{State}
use Rattle.state.specs.Views.{blocks, finished}
use Rattle.state.specs.Rules.{state_rule}
use Rattle.state.specs.Probe.{Store}
use Rattle.state.proofs.Kept.{state-kept}
use Rattle.partitions.specs.Reading.{stored}
use Rattle.partitions.specs.Formed.{partitions_formed}
use Rattle.admission.specs.Admission.{first_of, card_tests}
use Rattle.admission.proofs.Laws.{barred}
use Rattle.windows.specs.Promises.{Gives, store_of}
use Rattle.windows.proofs.Outcomes.{stopped, passed}
use Rattle.flushes.proofs.Flushes.{gives-by, refuses}
use Rattle.sums.specs.declared.Counts.{Counts}
use Rattle.sums.specs.Views.{counts_in}
use Rattle.sums.specs.Tally.{lists_formed, ReadWell}
use Rattle.removals.specs.Removal.{counts_of, removal_formed, removing, remove_of}
use Rattle.removals.specs.Taking.{Removable}

-- refusal 3 in its two parts
pub formed-parts : (W : List ℕ) (s : State) (w : ℕ) → removal_formed W s w ≡ (partitions_formed W (blocks s) (finished s.partitions) && lists_formed W s w)
unfolding removal_formed
formed-parts W s w = refl

-- the card's words
pub card-words : (s : State) (card : List ℕ) → state_rule s ≡ true → length card ≡ s.lengths.card → length (words card) ≡ 1024 * blocks s
card-words s card rule size = omega (arith, (state-kept s rule).lengths.card, length-words card)

module _ (s : State) (card : List ℕ) (w : ℕ) where
  -- refused by what is judged first
  pub removal-barred : (why : Refusal) → refusal_number why ≡ first_of (1 ∷ 2 ∷ []) (card_tests (state_rule s) s.lengths card)
      → Gives (store_of s card) (remove_of (store_of s card) w) (refused (refusal_number why)) (store_of s card)
  unfolding remove_of
  removal-barred why e =
      gives-by (remove_of (store_of s card) w) (refuse (refusal_number why))
      (barred (3 ∷ []) (not (removal_formed (words card) s w) ∷ []) (removing s card w (counts_of w (stored (words card) s))) (1 ∷ 2 ∷ []) (card_tests (state_rule s) s.lengths card) why e)
      (refuses (refusal_number why))

  module _ (rule : state_rule s ≡ true) (size : length card ≡ s.lengths.card) where
    ill-formed : removal_formed (words card) s w ≡ false → Gives (store_of s card) (remove_of (store_of s card) w) (refused 3) (store_of s card)
    unfolding remove_of
    ill-formed e = passed _ 1 _ (ap not rule) (passed _ 2 _ (ap not (eq-eqb _ _ size)) (stopped _ 3 _ (ap not e)))

    -- chains, headers or entries are malformed
    pub bad-partitions : partitions_formed (words card) (blocks s) (finished s.partitions) ≡ false → Gives (store_of s card) (remove_of (store_of s card) w) (refused 3) (store_of s card)
    bad-partitions e = ill-formed (formed-parts (words card) s w ∙ rw e)

    module _ (parts : partitions_formed (words card) (blocks s) (finished s.partitions) ≡ true) where
      -- lists, sums or the number of counts are
      pub bad-lists : lists_formed (words card) s w ≡ false → Gives (store_of s card) (remove_of (store_of s card) w) (refused 3) (store_of s card)
      bad-lists e = ill-formed (formed-parts (words card) s w ∙ rw parts e)

      module _ (c : Counts) (read : ReadWell (words card) s w c) where
        formed : removal_formed (words card) s w ≡ true
        formed = formed-parts (words card) s w ∙ rw parts read.formed

        -- else the window's counts are read
        pub removable : Removable s card w c
        removable = record { rule = rule; size = size; formed = formed; few = read.neat.few; counts = read.counts }

        -- and what is left to do decides
        pub goes_on : {x : Answer} {after : Store} → Gives (store_of s card) (removing s card w (counts_in c)) x after → Gives (store_of s card) (remove_of (store_of s card) w) x after
        unfolding remove_of
        goes_on g = passed _ 1 _ (ap not rule) (passed _ 2 _ (ap not (eq-eqb _ _ size)) (passed _ 3 _ (ap not formed) (rw read.counts at g)))
