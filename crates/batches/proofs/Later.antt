-- Past refusals 1 to 3 and 16, no removal of a list finds a cause for 1 to 3.
use Rattle.lists.proofs.Prelude.{true, false, not, List, [], ◌∷◌, ◌≡◌, ℕ, ◌+◌, ◌≤◌, arith, length, ltb-false, elem, different, and_left, and_right, not-true}
use Rattle.words.specs.Words.{words, bytes, Below}
use Rattle.postings.specs.declared.Posting.{Posting}
use Rattle.answers.specs.Answers.{leave, done, refused, answer_of, next, in_turn}
use Rattle.state.specs.declared.State.{State}
use Rattle.state.specs.Views.{blocks, buffered, finished}
use Rattle.state.specs.Rules.{state_rule}
use Rattle.state.specs.Probe.{store_of}
use Rattle.partitions.specs.Formed.{partitions_formed}
use Rattle.flushes.specs.Flush.{flushed_to, flushed_card}
use Rattle.removals.specs.Removal.{removal_flushes, remove_of, removing, removed}
use Rattle.batches.specs.Batch.{batch_formed}
use Rattle.batches.proofs.Chain.{late, Judged, barred, plain, written, judged-of, reckoned-none, Standing, counts_at, standing-of, standing_on, standing-few, standing-plain, standing-flushed}
use Rattle.batches.proofs.Keys.{counts-keyed}

module _ (w : ℕ) (ws : List ℕ) (once : elem w ws ≡ false) (t : State) (card : List ℕ) (c : ℕ → List Posting) (h : Standing t card (w ∷ ws) c) (n : ℕ)
    (rest : (u : State) (x : List ℕ) → Standing u x ws c → answer_of (in_turn remove_of (store_of u x) ws) ≡ refused n → late n ≡ true) where
  -- one that leaves what the others can go on with
  goes : (u : State) (x : List ℕ) → removing t card w (c w) ≡ leave done (store_of u x) → Standing u x ws c → answer_of (next (removing t card w (c w)) (λ q. in_turn remove_of q ws)) ≡ refused n → late n ≡ true
  unfolding next
  goes u x y k e = rest u x k (rw y at e)

  step : Judged t card t card 0 w (c w) → answer_of (next (removing t card w (c w)) (λ q. in_turn remove_of q ws)) ≡ refused n → late n ≡ true
  unfolding next removal_flushes flushed_to
  step (barred m l x y) e = let q : refused m ≡ refused n = rw y at e in let z : m ≡ n = cc in rw (← z) l
  step (plain x a b f y) e =
      goes (removed t (c w)) card y (standing-plain t card w ws c h once a b (omega (arith, ltb-false 128 (length (buffered t.buffer) + length (c w)) f))) e
  step (written x a b f k ch y) e =
      goes (removed (flushed_to t k) (c w)) (bytes (flushed_card t (words card) k)) y
      (standing-plain (flushed_to t k) (bytes (flushed_card t (words card) k)) w ws c (standing-flushed t card (w ∷ ws) c h k ch) once a b (omega (arith, standing-few t card w ws c h))) e

-- as long as the others stand, each is refused with one of these numbers or not at all
pub later : (ws : List ℕ) → different ws ≡ true → (t : State) (card : List ℕ) (c : ℕ → List Posting) → Standing t card ws c → (n : ℕ) → answer_of (in_turn remove_of (store_of t card) ws) ≡ refused n → late n ≡ true
unfolding in_turn
later [] d t card c h n e = let z : ◌≡◌ {A = ℕ} 0 1 = cc in absurd (omega arith)
later (w ∷ ws) d t card c h n e =
    step w ws (not-true (elem w ws) (and_left (not (elem w ws)) _ d)) t card c h n (λ u x k. later ws (and_right (not (elem w ws)) _ d) u x c k n)
    (judged-of t card t card 0 w (c w) (reckoned-none t card) (standing-few t card w ws c h))
    (rw (standing_on t card w ws c h) at e)

-- so a list is refused with one of them or not at all, on whatever state and card the code may be given
pub batch-later : (s : State) (card ws : List ℕ) → Below 256 card → length s.buffer.postings ≡ 128 → s.windows.last ≤ 65535 → state_rule s ≡ true → length card ≡ s.lengths.card
    → batch_formed (words card) s ws ≡ true → different ws ≡ true → (n : ℕ) → answer_of (in_turn remove_of (store_of s card) ws) ≡ refused n → late n ≡ true
unfolding batch_formed
batch-later s card ws bytes wide last rule size formed once n e =
    later ws once s card (counts_at s card)
    (standing-of s card ws rule size wide formed (counts-keyed s card bytes last rule (and_left (partitions_formed (words card) (blocks s) (finished s.partitions)) _ formed)))
    n e
