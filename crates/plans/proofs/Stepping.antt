-- A step as its definition says: what is judged, the refusals in their order, and what is left.
use Rattle.lists.proofs.Prelude.{Bool, true, false, cond, not, ◌&&◌, ◌||◌, List, [], ◌∷◌, ◌≡◌, refl, sym, ap, ◌∙◌, ℕ, zero, suc, ◌*◌, ◌%◌, ◌<◌, ◌≤◌, arith, eqb, leb, ltb, length, get_or, take, eq-eqb, ne_eqb, eqb-true, leb-true, leb-false, lt-ltb, le-ltb, not-true, not-false, AllOf, every, empty, by-test, and_left, and_right, and_both, never, and_assoc}
use Rattle.std.specs.Prelude.{Some}
use Rattle.words.specs.Words.{words, bytes}
use Rattle.words.proofs.Views.{length-words}
use Rattle.postings.specs.declared.Posting.{Posting}
use Rattle.postings.specs.Merge.{pairs}
use Rattle.answers.specs.declared.Refusal.{Refusal}
use Rattle.answers.specs.Answers.{refuse, done, refused}
use Rattle.answers.specs.Numbers.{refusal_number}
use Rattle.state.specs.declared.Partition.{Partition}
use Rattle.state.specs.declared.Partitions.{Partitions}
use Rattle.state.specs.declared.State.{State}
use Rattle.state.specs.Views.{blocks, finished, partitions_of}
use Rattle.state.specs.Levels.{due_levels, oldest}
use Rattle.state.specs.Rules.{state_rule}
use Rattle.state.specs.Probe.{Store}
use Rattle.state.proofs.Kept.{state-kept}
use Rattle.levels.proofs.Runs.{due-first, oldest-length}
use Rattle.card.specs.Blocks.{no_block, free_blocks}
use Rattle.card.specs.Chains.{blocks_for, chain, chain_rule}
use Rattle.partitions.specs.Layout.{length_of}
use Rattle.partitions.specs.Reading.{in_partitions}
use Rattle.partitions.specs.Formed.{partition_rule, partitions_formed, lists_rule}
use Rattle.partitions.specs.Terms.{Readable}
use Rattle.inputs.specs.declared.Totals.{Totals}
use Rattle.inputs.specs.declared.Batch.{Batch}
use Rattle.inputs.specs.Judging.{inputs_formed, judged_of, Small, all_in_range}
use Rattle.inputs.proofs.Judged.{judged-some}
use Rattle.drafts.specs.Drafted.{stands_apart}
use Rattle.admission.specs.Admission.{first_of, card_tests}
use Rattle.admission.proofs.Laws.{barred, granted}
use Rattle.windows.specs.Promises.{Gives, store_of}
use Rattle.windows.proofs.Outcomes.{stopped, passed, given}
use Rattle.flushes.proofs.Flushes.{gives-by, refuses}
use Rattle.plans.specs.declared.Output.{Output}
use Rattle.plans.specs.Merging.{due_in, inputs, taking, result, output_length, output_blocks, is_last}
use Rattle.plans.specs.Step.{in_progress, output_rule, step_formed, output_chain_on, last_of, stepped_on, written_on, stepping, step_of}
use Rattle.plans.specs.Acting.{stands_on, standing, Judged, Acts, length_from, next_state, third_on}
use Rattle.levels.proofs.Choosing.{level_of, finished-of, due-some}
use Rattle.plans.proofs.Merged.{oldest-part, oldest-few, part-all, all-readable}
use Rattle.plans.proofs.Drafting.{terms-told, postings-told, lowest-told, highest-told, pairs-told}
use Rattle.plans.proofs.Refusing.{empty-told, blocks-told}

-- Refusals 1 and 2 -------------------------------------------------------------------------------------------------------

module _ (s : State) (card : List ℕ) where
  abbrev tests : List Bool
  tests = card_tests (state_rule s) s.lengths card

  -- what is judged first refuses
  pub step-barred : (why : Refusal) → refusal_number why ≡ first_of (1 ∷ 2 ∷ []) tests → Gives (store_of s card) (step_of (store_of s card)) (refused (refusal_number why)) (store_of s card)
  unfolding step_of
  step-barred why e =
      gives-by (step_of (store_of s card)) (refuse (refusal_number why))
      (barred (3 ∷ []) (not (step_formed (words card) s) ∷ []) (stepping s (words card) (taking (words card) s)) (1 ∷ 2 ∷ []) tests why e)
      (refuses (refusal_number why))

  -- or the rest decides
  pub step-granted : 0 ≡ first_of (1 ∷ 2 ∷ []) tests → step_of (store_of s card) ≡ third_on s card
  unfolding step_of
  step-granted e = granted (3 ∷ []) (not (step_formed (words card) s) ∷ []) (stepping s (words card) (taking (words card) s)) (1 ∷ 2 ∷ []) tests refl refl e

-- Judged -----------------------------------------------------------------------------------------------------------------

module _ (s : State) (card : List ℕ) (rule : state_rule s ≡ true) (same : length card ≡ s.lengths.card) where
  pub card-long : length (words card) ≡ 1024 * blocks s
  card-long = omega (arith, length-words card, (state-kept s rule).lengths.card, same)

  pub card-words : length card % 4 ≡ 0
  card-words = omega (arith, (state-kept s rule).lengths.card, same)

  pub judged : partitions_formed (words card) (blocks s) (finished s.partitions) ≡ true → inputs_formed (words card) (inputs s) ≡ true
      → (is : Partitions) (t : Totals) → is ≡ partitions_of (inputs s) → Some t ≡ judged_of (words card) (finished is) → Small t → Judged (words card) s is t
  unfolding inputs_formed taking
  judged p i is t x y z =
      let k = state-kept s rule in
      let W = words card in
      let f : finished is ≡ inputs s = ap finished x ∙ finished-of (inputs s) in
      record {
        long = card-long;
        few = k.lengths.most_blocks;
        used = k.partitions.used;
        form = k.partitions.form;
        formed = p;
        are = x;
        range = and_right (every (lists_rule W) (inputs s)) _ i;
        totals = (judged-some W (inputs s) t (y ∙ ap (judged_of W) f)).1;
        small = z;
      }

  -- the inputs can be read before they are judged
  pub inputs_read : partitions_formed (words card) (blocks s) (finished s.partitions) ≡ true → (is : Partitions) → is ≡ partitions_of (inputs s)
      → (is.used ≤ 8) × AllOf (Readable (words card)) (finished is)
  unfolding partitions_formed
  inputs_read p is x =
      let k = state-kept s rule in
      let fin = finished s.partitions in
      let part = oldest-part (due_in s) fin in
      let f : finished is ≡ inputs s = ap finished x ∙ finished-of (inputs s) in (
        rw x (oldest-few (due_in s) fin),
        rw f
            (part-all (inputs s) fin part (Readable (words card))
            (all-readable (words card) (blocks s) card-long k.lengths.most_blocks fin (and_left (every (partition_rule (words card) (blocks s)) fin) _ p))),
      )

-- Refusal 3 --------------------------------------------------------------------------------------------------------------

or-second : (a b c : Bool) → b ≡ true → ((a || b) || c) ≡ true
or-second true b c e = refl
or-second false b c e = rw e

or-third : (a b c : Bool) → c ≡ true → ((a || b) || c) ≡ true
or-third true b c e = refl
or-third false true c e = refl
or-third false false c e = e

module _ (W : List ℕ) (s : State) where
  -- the blocks of an output that is in order stand
  stands-held : output_rule W s (taking W s) ≡ true → standing W s ≡ true
  unfolding output_rule stands_on
  stands-held e =
      let r = result (taking W s) in
      let b = s.merge.first in
      let a = and_right (not (is_last (taking W s) s.merge.steps)) _ e in
      let l : s.merge.length ≡ output_length r = eqb-true _ _ (and_left (eqb s.merge.length (output_length r)) _ a) in
      let c = and_right (eqb s.merge.length (output_length r)) _ a in
      by-test (empty r)
      (λ y. let z : s.merge.length ≡ 0 = l ∙ rw y in or-second (eqb s.merge.steps 0) (eqb (blocks_for s.merge.length) 0) _ (rw z))
      (λ y. let z : s.merge.length ≡ length_of r = l ∙ rw y in
      let d = rw y at c in
      let m = blocks_for (length_of r) in
      let f = and_right (chain_rule W (blocks s) b m) _ d in
      or-third (eqb s.merge.steps 0) (eqb (blocks_for s.merge.length) 0) _
      (rw z (and_both (chain_rule W (blocks s) b m) _ (and_left (chain_rule W (blocks s) b m) _ d) (and_left (stands_apart W b m (finished s.partitions)) _ f))))

  -- and those of none do
  stands-idle : eqb s.merge.steps 0 ≡ true → standing W s ≡ true
  unfolding stands_on
  stands-idle e = rw e

  pub formed-first : partitions_formed W (blocks s) (finished s.partitions) ≡ false → step_formed W s ≡ false
  unfolding step_formed
  formed-first e = rw e

  module _ (p : partitions_formed W (blocks s) (finished s.partitions) ≡ true) where
    formed-rest : step_formed W s ≡ (inputs_formed W (inputs s) && (not (in_progress s) || output_rule W s (taking W s)))
    unfolding step_formed inputs_formed taking
    formed-rest = rw p (sym (and_assoc (every (lists_rule W) (inputs s)) (all_in_range (pairs (in_partitions W (inputs s)))) _))

    pub formed-inputs : inputs_formed W (inputs s) ≡ false → step_formed W s ≡ false
    formed-inputs e = formed-rest ∙ rw e

    pub formed-stands : standing W s ≡ false → step_formed W s ≡ false
    formed-stands n =
        by-test (in_progress s)
        (λ y. by-test (output_rule W s (taking W s))
        (λ o. never (sym n ∙ stands-held o))
        (λ o. formed-rest ∙ rw (y, o) (by-test (inputs_formed W (inputs s)) (λ q. rw q) (λ q. rw q))))
        (λ y. never (sym n ∙ stands-idle (not-false _ y)))

    pub formed-idle : inputs_formed W (inputs s) ≡ true → in_progress s ≡ false → step_formed W s ≡ true
    formed-idle e f = formed-rest ∙ rw (e, f)

    pub formed-output : inputs_formed W (inputs s) ≡ true → in_progress s ≡ true → step_formed W s ≡ output_rule W s (taking W s)
    formed-output e f = formed-rest ∙ rw (e, f)

-- Lists ------------------------------------------------------------------------------------------------------------------

-- the oldest partitions are some where a level is due
oldest-none : (ps : List Partition) (vs : List ℕ) → due_levels level_of ps ≡ vs → eqb (length (oldest level_of vs ps)) 0 ≡ empty vs
oldest-none ps [] e = refl
oldest-none ps (v ∷ vs) e =
    let l = oldest-length level_of ps v vs (due-first level_of ps v vs e).1 in
    ne_eqb (length (oldest level_of (v ∷ vs) ps)) 0 (λ z. omega (arith, due-some v))

-- a state and a card make a store
same_store : {s : State} {card : List ℕ} (after : Store) → after.state ≡ s → after.card ≡ card → after ≡ record { state = s; card = card }
same_store after x y = rw (← x, ← y)

first-of : (W : List ℕ) (b n : ℕ) → (n ≡ 0 → b ≡ no_block) → b ≡ get_or (chain W b n) 0 no_block
unfolding chain
first-of W b zero h = h refl
first-of W b (suc n) h = refl

-- What is left -----------------------------------------------------------------------------------------------------------

module _ (W : List ℕ) (s : State) (is : Partitions) (t : Totals) (g : Judged W s is t) where
  abbrev ps : List Posting
  ps = taking W s

  abbrev j : ℕ
  j = s.merge.steps

  -- the state, as the definition has it
  pub state-told : (o : Output) (bs : List ℕ) → o.first ≡ get_or bs 0 no_block → o.taken ≡ cond (in_progress s) s.taken (last_of s.taken bs)
      → next_state s (is_last ps (suc j)) t o ≡ stepped_on s ps (suc j) bs
  unfolding next_state stepped_on length_of
  state-told o bs e f =
      rw (empty-told W s is t g, e, f)
      (by-test (empty (result ps))
      (λ y. rw y)
      (λ y. rw (y, terms-told W s is t g, postings-told W s is t g, lowest-told W s is t g, highest-told W s is t g)))

  -- inputs are there exactly where a level is due
  pub none-due : eqb is.used 0 ≡ empty (due_in s)
  none-due = ap (λ (p : Partitions). eqb p.used 0) g.are ∙ oldest-none (finished s.partitions) (due_in s) refl

  -- Outcomes ---------------------------------------------------------------------------------------------------------------

  module _ (card : List ℕ) where
    abbrev before : Store
    before = store_of s card

    module _ (idle : in_progress s ≡ false) where
      abbrev n : ℕ
      n = blocks_for (length_from t)

      -- too few blocks are free
      pub begin-few : leb n (length (free_blocks W (blocks s) s.taken)) ≡ false → Gives before (stepping s W ps) (refused 12) before
      unfolding stepping
      begin-few e =
          let l = leb-false n (length (free_blocks W (blocks s) s.taken)) e in
          stopped _ 12 _ (rw (idle, ← blocks-told W s is t g) (lt-ltb (length (free_blocks W (blocks s) s.taken)) n (omega arith)))

      module _ (e : leb n (length (free_blocks W (blocks s) s.taken)) ≡ true) where
        enough : (not (in_progress s) && ltb (length (free_blocks W (blocks s) s.taken)) (output_blocks (result ps))) ≡ false
        enough =
            let l = leb-true n (length (free_blocks W (blocks s) s.taken)) e in
            rw (idle, ← blocks-told W s is t g) (le-ltb (length (free_blocks W (blocks s) s.taken)) n (omega arith))

        -- no level is due
        pub begin-none : is.used ≡ 0 → Gives before (stepping s W ps) (refused 13) before
        unfolding stepping
        begin-none z = passed _ 12 _ enough (stopped _ 13 _ (rw (idle, sym none-due ∙ eq-eqb is.used 0 z)))

        -- the merge has begun
        pub begin-done : (is.used ≡ 0 → ⊥) → (k : ℕ) → k ≡ n → (after : Store)
            → after.state ≡ stepped_on s ps (suc j) (take k (free_blocks W (blocks s) s.taken))
            → after.card ≡ bytes (written_on W s ps (suc j) (take k (free_blocks W (blocks s) s.taken)))
            → Gives before (stepping s W ps) done after
        unfolding stepping output_chain_on
        begin-done z k q after x y =
            let m = q ∙ blocks-told W s is t g in
            passed _ 12 _ enough
            (passed _ 13 _ (rw (idle, sym none-due ∙ ne_eqb is.used 0 z))
            (given _ (same_store after (rw (idle, ← m) x) (rw (idle, ← m) y))))

    module _ (busy : in_progress s ≡ true) where
      -- the merge has gone on
      pub go-done : (k : ℕ) → k ≡ blocks_for (length_from t) → (after : Store)
          → after.state ≡ stepped_on s ps (suc j) (chain W s.merge.first k)
          → after.card ≡ bytes (written_on W s ps (suc j) (chain W s.merge.first k))
          → Gives before (stepping s W ps) done after
      unfolding stepping output_chain_on
      go-done k e after x y =
          let m = e ∙ blocks-told W s is t g in
          passed _ 12 _ (rw busy)
          (passed _ 13 _ (rw busy)
          (given _ (same_store after (rw (busy, ← m) x) (rw (busy, ← m) y))))

  -- a step of a merge that is in order has pairs left
  pub rule-early : output_rule W s ps ≡ true → 16 * j < t.pairs
  unfolding output_rule
  rule-early e = omega (arith, pairs-told W s is t g, leb-false (length ps) (16 * j) (not-true _ (and_left (not (leb (length ps) (16 * j))) _ e)))

  -- the first block of the output, or none
  pub first-told : (o : Output) (b : Batch) → Acts W s o b → o.first ≡ get_or (chain W o.first o.blocks) 0 no_block
  first-told o b a = first-of W o.first o.blocks a.none
