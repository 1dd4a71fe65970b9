-- Refusals 1 to 3 and 16 of a removal of several windows, and what goes on after them.
use Rattle.lists.proofs.Prelude.{Bool, true, false, ◌&&◌, not, List, [], ◌∷◌, ◌≡◌, refl, sym, ap, ◌∙◌, ℕ, arith, eqb, leb, length, leb-true, eq-eqb, eqb-true, every, empty, and_left, and_right, not-false}
use Rattle.words.specs.Words.{words}
use Rattle.answers.specs.declared.Refusal.{Refusal}
use Rattle.answers.specs.Answers.{Outcome, leave, done, refused, refuse_if, answer_of, in_turn}
use Rattle.answers.specs.Numbers.{refusal_number}
use Rattle.state.specs.declared.State.{State}
use Rattle.state.specs.Views.{blocks, finished}
use Rattle.state.specs.Rules.{state_rule}
use Rattle.state.specs.Probe.{Store}
use Rattle.partitions.specs.Formed.{partitions_formed}
use Rattle.admission.specs.Admission.{first_of, card_tests}
use Rattle.admission.proofs.Laws.{barred}
use Rattle.windows.specs.Promises.{Gives, store_of}
use Rattle.sums.specs.Tally.{lists_ruled, window_formed}
use Rattle.removals.specs.Removal.{remove_of}
use Rattle.batches.specs.Batch.{batch_rule, batch_formed, remove_all_of}
use Rattle.batches.specs.Steps.{Admitted}
use Rattle.batches.proofs.Refused.{batch-unchanged}

-- a test that an answer other than a refusal has passed
unrefused : {S : Type 0} (t : Bool) (n : ℕ) (o : Outcome S) → answer_of (refuse_if t n o) ≡ done → (t ≡ false) × (refuse_if t n o ≡ o)
unfolding refuse_if
unrefused true n o e = let z : ◌≡◌ {A = ℕ} 0 1 = cc in absurd (omega arith)
unrefused false n o e = (refl, refl)

module _ (s : State) (card ws : List ℕ) where
  abbrev outcome : Outcome Store
  outcome = remove_all_of (store_of s card) ws

  -- refused by what is judged first
  pub batch-barred : (why : Refusal) → refusal_number why ≡ first_of (1 ∷ 2 ∷ []) (card_tests (state_rule s) s.lengths card) → refused (refusal_number why) ≡ answer_of outcome
  unfolding remove_all_of
  batch-barred why e =
      sym (ap answer_of (barred (3 ∷ 16 ∷ []) (not (batch_formed (words card) s ws) ∷ not (batch_rule ws) ∷ []) (in_turn remove_of (store_of s card) ws) (1 ∷ 2 ∷ []) (card_tests (state_rule s) s.lengths card) why e))

  module _ (rule : state_rule s ≡ true) (size : length card ≡ s.lengths.card) where
    ill-formed : batch_formed (words card) s ws ≡ false → refused 3 ≡ answer_of outcome
    unfolding remove_all_of refuse_if
    ill-formed e = rw (rule, eq-eqb _ _ size, e)

    -- chains, headers or entries are malformed
    pub bad-partitions : partitions_formed (words card) (blocks s) (finished s.partitions) ≡ false → refused 3 ≡ answer_of outcome
    bad-partitions e = ill-formed (unfold batch_formed in rw e)

    module _ (parts : partitions_formed (words card) (blocks s) (finished s.partitions) ≡ true) (r : Bool) (read : r ≡ (lists_ruled (words card) s && every (window_formed (words card) s) ws)) where
      formed-is : batch_formed (words card) s ws ≡ r
      unfolding batch_formed
      formed-is = rw parts (sym read)

      -- lists or sums are
      pub bad-lists : r ≡ false → refused 3 ≡ answer_of outcome
      bad-lists f = ill-formed (formed-is ∙ f)

      module _ (fine : r ≡ true) where
        -- the list is no list of windows
        pub bad-batch : batch_rule ws ≡ false → refused 16 ≡ answer_of outcome
        unfolding remove_all_of refuse_if
        bad-batch e = rw (rule, eq-eqb _ _ size, formed-is ∙ fine, e)

        module _ (ok : batch_rule ws ≡ true) where
          pub admitted : Admitted s card ws
          admitted = record {
            rule = rule;
            size = size;
            formed = formed-is ∙ fine;
            few = leb-true _ _ (and_left (leb (length ws) 32) _ (and_right (not (empty ws)) _ ok));
            once = and_right (leb (length ws) 32) _ (and_right (not (empty ws)) _ ok);
          }

          -- and the removals decide
          pub goes_on : outcome ≡ in_turn remove_of (store_of s card) ws
          unfolding remove_all_of refuse_if
          goes_on = rw (rule, eq-eqb _ _ size, formed-is ∙ fine, ok)

  -- a list that is not refused is admitted, and its removals decided
  pub record Granted : Type 0 where
    pub admitted : Admitted s card ws
    pub on : outcome ≡ in_turn remove_of (store_of s card) ws

  pub granted : answer_of outcome ≡ done → Granted
  unfolding remove_all_of
  granted e =
      let a = unrefused (not (state_rule s)) 1 _ e in
      let b = unrefused (not (eqb (length card) s.lengths.card)) 2 _ (rw a.1 at e) in
      let c = unrefused (not (batch_formed (words card) s ws)) 3 _ (rw (a.1, b.1) at e) in
      let d = unrefused (not (batch_rule ws)) 16 _ (rw (a.1, b.1, c.1) at e) in
      let ok = not-false _ d.0 in
      record {
        admitted = record {
          rule = not-false _ a.0;
          size = eqb-true _ _ (not-false _ b.0);
          formed = not-false _ c.0;
          few = leb-true _ _ (and_left (leb (length ws) 32) _ (and_right (not (empty ws)) _ ok));
          once = and_right (leb (length ws) 32) _ (and_right (not (empty ws)) _ ok);
        };
        on = a.1 ∙ b.1 ∙ c.1 ∙ d.1;
      }

  -- refused as judged: nothing has moved
  pub gives-refused : (n : ℕ) → refused n ≡ answer_of outcome → Gives (store_of s card) outcome (refused n) (store_of s card)
  gives-refused n e = record { answer = e; left = sym ((batch-unchanged (store_of s card) ws).same n (sym e)) }

  -- or done as made
  pub gives-done : (t : State) (after : List ℕ) → outcome ≡ leave done (store_of t after) → Gives (store_of s card) outcome done (store_of t after)
  gives-done t after e = rw e (record { answer = refl; left = refl })
