-- The merge step on bytes is that on lists.
use Rattle.lists.proofs.Prelude.{Bool, true, false, ◌||◌, ◌&&◌, not, cond, true≢false, List, [], ◌∷◌, ◌≡◌, refl, sym, ap, ap₂, ◌∙◌, subst, ℕ, suc, ◌+◌, ◌*◌, ◌/◌, ◌<◌, arith, eqb, ltb, leb, length, get_or, eqb-false, ltb-true, ltb-false, lt-ltb, le-ltb, every, empty, by-test, and_left, and_right, and_both, every_map, Bool·not-not}
use Rattle.words.specs.Words.{words, bytes}
use Rattle.words.proofs.Views.{words-bytes, length-bytes}
use Rattle.postings.specs.declared.Posting.{Posting}
use Rattle.postings.specs.Merge.{pairs, nonzero}
use Rattle.state.specs.declared.Lengths.{Lengths}
use Rattle.state.specs.declared.Partition.{Partition}
use Rattle.state.specs.declared.State.{State}
use Rattle.state.specs.Views.{no_merge, blocks, register_size, finished, partitions_of, with_partitions, with_taken, with_merge}
use Rattle.state.specs.Levels.{oldest, replaced}
use Rattle.state.specs.Probe.{Store, Probe}
use Rattle.state.proofs.Kept.{lengths-kept}
use Rattle.card.specs.Blocks.{no_block, free_blocks}
use Rattle.blocks.specs.Writes.{store, release}
use Rattle.partitions.specs.Reading.{postings_of}
use Rattle.partitions.specs.Formed.{partitions_formed, chains_of, list_rule, lists_rule, in_range, Writable}
use Rattle.partitions.specs.Layout.{encode}
use Rattle.plans.specs.Merging.{due_in, inputs, taking, result, output_length, output_blocks, progress, is_last, output_level, output_record, output_content}
use Rattle.plans.specs.Step.{in_progress, output_rule, step_formed, output_chain_on, last_of, stepped_on, written_on, stepping, step_of}
use Rattle.engine.specs.Calls.{Step, with_store, probe_call}
use Rattle.plans.proofs.Merged.{oldest-part, part-every}
use Rattle.accounts.specs.Account.{Portion, Account, blocks_of, blocks_in, due_of, inputs_of, merged, blocks_ahead, stepped_account, stepping as account_stepping}
use Rattle.accounts.specs.Lists.{Lists, inputs_rule, call_rule, with_account, pursued}
use Rattle.accounts.proofs.Stored.{level_of, step-ends, step-goes}
use Rattle.accounts.proofs.Steps.{progress-due}
use Rattle.decoded.specs.Portions.{portion_on, tells}
use Rattle.decoded.proofs.Reached.{lists-told}
use Rattle.decoded.proofs.Holds.{Holds, Stored, due-is, inputs_are, taking-is}
use Rattle.decoded.proofs.Unused.{result-is, free-left}
use Rattle.decoded.proofs.Flushing.{Same, both_leave, same-carry, refusing, passing, Fine}
use Rattle.decoded.proofs.WindowCalls.{stored-store, no-first, no_second}
use Rattle.decoded.proofs.Outputs.{Output, step-output, last_on}
use Rattle.decoded.proofs.Stepped.{holds-stepped}
use Rattle.decoded.proofs.Merged.{holds-merged}

module _ (s : State) (W : List ℕ) (e : Lists) (h : Holds s W e) (fine : Fine (blocks s) e) where
  abbrev a : Account
  a = e.account

  abbrev ps : List Posting
  ps = taking W s

  -- ---- refusal 3

  step-formed : inputs_rule a ≡ true → step_formed W s ≡ true
  unfolding step_formed inputs_rule
  step-formed rule =
      let rest = and_right (every (λ (p : Portion). list_rule p.postings) (oldest level_of (due_of a) a.partitions)) _ rule in
      and_both (partitions_formed W (blocks s) (finished s.partitions)) _ h.formed
      (and_both (every (lists_rule W) (inputs s)) _
      (lists-told W (inputs s) (part-every (inputs s) (finished s.partitions) (oldest-part (due_in s) (finished s.partitions)) (λ p. tells p (postings_of W p)) h.sizes)
      ∙ sym (every_map (λ (p : Portion). list_rule p.postings) (portion_on W) (inputs s)) ∙ ap (every (λ (p : Portion). list_rule p.postings)) (inputs_are s W a h.portions)
      ∙ and_left (every (λ (p : Portion). list_rule p.postings) (oldest level_of (due_of a) a.partitions)) _ rule)
      (and_both (every (λ p. in_range p.count) ps) _
      (ap (every (λ p. in_range p.count)) (taking-is s W a h.portions) ∙ and_left (every (λ p. in_range p.count) (pairs (inputs_of a))) _ rest)
      (by-test (in_progress s)
      (λ y. ap (λ t. not t || output_rule W s ps) y ∙ h.output y)
      (λ n. ap (λ t. not t || output_rule W s ps) n))))

  -- ---- refusals 12 and 13

  going-is : in_progress s ≡ not (eqb a.steps 0)
  going-is = ap (λ n. not (eqb n 0)) h.steps

  twelve-is : (not (in_progress s) && ltb (length (free_blocks W (blocks s) s.taken)) (output_blocks (result ps))) ≡ (eqb a.steps 0 && ltb (blocks s) (blocks_in a + blocks_of (merged a)))
  twelve-is =
      by-test (eqb a.steps 0)
      (λ y. ap (λ t. not t && ltb (length (free_blocks W (blocks s) s.taken)) (output_blocks (result ps))) (going-is ∙ ap not y)
      ∙ room y ∙ sym (ap (λ t. t && ltb (blocks s) (blocks_in a + blocks_of (merged a))) y))
      (λ n. ap (λ t. not t && ltb (length (free_blocks W (blocks s) s.taken)) (output_blocks (result ps))) (going-is ∙ ap not n)
      ∙ sym (ap (λ t. t && ltb (blocks s) (blocks_in a + blocks_of (merged a))) n))
    where
      less : (x m k n : ℕ) → x + m ≡ n → ltb x k ≡ ltb n (m + k)
      less x m k n q =
          by-test (ltb x k)
          (λ y. y ∙ sym (lt-ltb n (m + k) (omega (arith, ltb-true x k y))))
          (λ z. z ∙ sym (le-ltb n (m + k) (omega (arith, ltb-false x k z))))

      room : eqb a.steps 0 ≡ true → ltb (length (free_blocks W (blocks s) s.taken)) (output_blocks (result ps)) ≡ ltb (blocks s) (blocks_in a + blocks_of (merged a))
      room y =
          ap (ltb (length (free_blocks W (blocks s) s.taken))) (result-is s W e h fine.parts)
          ∙ less (length (free_blocks W (blocks s) s.taken)) (blocks_in a) (blocks_of (merged a)) (blocks s) (omega (arith, free-left s W e h fine.parts, idle y))
        where
          idle : eqb a.steps 0 ≡ true → blocks_ahead a ≡ 0
          idle y = unfold blocks_ahead in ap (λ t. cond t 0 (blocks_of (merged a))) y

  thirteen-is : (not (in_progress s) && empty (due_in s)) ≡ (eqb a.steps 0 && empty (due_of a))
  thirteen-is = ap₂ (λ t (us : List ℕ). not t && empty us) going-is (due-is s W a h.portions) ∙ ap (λ t. t && empty (due_of a)) (Bool·not-not (eqb a.steps 0))

  -- ---- what is left

  -- a step that is not refused finds a due level
  some-due : (eqb a.steps 0 && empty (due_of a)) ≡ false → (us : List ℕ) → due_in s ≡ us → us ≡ [] → ⊥
  some-due thirteen us q z =
      by-test (eqb a.steps 0)
      (λ y. true≢false (sym (ap empty none) ∙ sym (ap (λ t. t && empty (due_of a)) y) ∙ thirteen))
      (λ n. let d = eqb-false a.steps 0 n in progress-due a fine.progress (omega arith) none)
    where
      none : due_of a ≡ []
      none = sym (due-is s W a h.portions) ∙ q ∙ z

  last-is : is_last ps (suc s.merge.steps) ≡ leb (length (pairs (inputs_of a))) (16 * suc a.steps)
  last-is = ap₂ (λ (l : List Posting) (j : ℕ). leb (length l) (16 * suc j)) (taking-is s W a h.portions) h.steps

  result-same : result ps ≡ merged a
  unfolding merged
  result-same = ap nonzero (taking-is s W a h.portions)

  fine-result : empty (result ps) ≡ false → Writable (result ps)
  fine-result z = subst Writable (sym result-same) (fine.writable (ap empty (sym result-same) ∙ z))

  pub stepped-holds : (not (in_progress s) && ltb (length (free_blocks W (blocks s) s.taken)) (output_blocks (result ps))) ≡ false → (eqb a.steps 0 && empty (due_of a)) ≡ false
      → Holds (stepped_on s ps (suc s.merge.steps) (output_chain_on W s ps)) (written_on W s ps (suc s.merge.steps) (output_chain_on W s ps)) (with_account e (stepped_account a))
  unfolding stepped_on written_on output_content
  stepped-holds twelve thirteen = go (is_last ps j) refl
    where
      j : ℕ
      j = suc s.merge.steps

      bs : List ℕ
      bs = output_chain_on W s ps

      out : Output W s bs
      out = step-output s W e h twelve

      t : ℕ
      t = cond (in_progress s) s.taken (last_of s.taken bs)

      low : t < blocks s
      low = by-test (in_progress s)
          (λ y. subst (λ m. m < blocks s) (sym (ap (λ u. cond u s.taken (last_of s.taken bs)) y)) h.taken)
          (λ n. subst (λ m. m < blocks s) (sym (ap (λ u. cond u s.taken (last_of s.taken bs)) n)) (last_on (blocks s) s.taken bs h.taken out.on))

      same_inputs : (v : ℕ) (vs : List ℕ) → due_in s ≡ v ∷ vs → inputs s ≡ oldest (λ (p : Partition). p.level) (v ∷ vs) (finished s.partitions)
      same_inputs v vs due = ap (λ us. oldest (λ (p : Partition). p.level) us (finished s.partitions)) due

      ended : is_last ps j ≡ true → (us : List ℕ) → due_in s ≡ us
          → Holds (with_taken (with_merge (with_partitions s (partitions_of (replaced (λ (p : Partition). p.level) (due_in s) (finished s.partitions) (output_record s (result ps) (get_or bs 0 no_block))))) no_merge) t)
          (release (store W bs (encode (output_level s) (result ps))) (chains_of W (inputs s))) (with_account e (stepped_account a))
      ended y [] q = absurd (some-due thirteen [] q refl)
      ended y (v ∷ vs) q =
          subst (λ ins. Holds (with_taken (with_merge (with_partitions s (partitions_of (replaced (λ (p : Partition). p.level) (due_in s) (finished s.partitions) (output_record s (result ps) (get_or bs 0 no_block))))) no_merge) t)
          (release (store W bs (encode (output_level s) (result ps))) (chains_of W ins)) (with_account e (stepped_account a))) (sym (same_inputs v vs q))
          (subst (λ b. Holds (with_taken (with_merge (with_partitions s (partitions_of (replaced (λ (p : Partition). p.level) (due_in s) (finished s.partitions) (output_record s (result ps) (get_or bs 0 no_block))))) no_merge) t)
          (release (store W bs (encode (output_level s) (result ps))) (chains_of W (oldest (λ (p : Partition). p.level) (v ∷ vs) (finished s.partitions)))) (with_account e b)) (sym (step-ends a (sym last-is ∙ y)))
          (holds-merged s W e h bs out t low v vs q fine-result))

      went : is_last ps j ≡ false → Holds (with_taken (with_merge s (record { first = get_or bs 0 no_block; length = output_length (result ps); steps = j })) t) (store W bs (progress ps j)) (with_account e (stepped_account a))
      went n =
          subst (λ b. Holds (with_taken (with_merge s (record { first = get_or bs 0 no_block; length = output_length (result ps); steps = j })) t) (store W bs (progress ps j)) (with_account e b)) (sym (step-goes a (sym last-is ∙ n)))
          (holds-stepped s W e h bs out t low n)

      go : (u : Bool) → is_last ps j ≡ u
          → Holds
          (with_taken
          (cond u
          (with_merge (with_partitions s (partitions_of (replaced (λ (p : Partition). p.level) (due_in s) (finished s.partitions) (output_record s (result ps) (get_or bs 0 no_block))))) no_merge)
          (with_merge s (record { first = get_or bs 0 no_block; length = output_length (result ps); steps = j })))
          t)
          (cond u (release (store W bs (cond u (encode (output_level s) (result ps)) (progress ps j))) (chains_of W (inputs s))) (store W bs (cond u (encode (output_level s) (result ps)) (progress ps j))))
          (with_account e (stepped_account a))
      go true y = ended y (due_in s) refl
      go false n = went n

-- ---- the call

pub step_same : {ls : Lengths} (p : Probe) (e : Lists) → Stored ls p e → Fine (blocks p.state) e → call_rule e Step ≡ true → Same (Stored ls) (probe_call p Step) (pursued (blocks p.state) (register_size p.state) e Step)
unfolding probe_call step_of pursued stepping account_stepping
step_same {ls} p e k fine rule =
    same-carry R (Stored ls) (with_store p) (λ q e' r. r)
    (passing R _ 1 _ _ (no-first p e k fine)
    (passing R _ 2 _ _ (no_second p e k fine)
    (passing R _ 3 _ _ (ap not (step-formed s W e k.holds fine (unfold call_rule in rule)))
    (refusing R _ _ 12 _ _ (twelve-is s W e k.holds fine) λ twelve.
    refusing R _ _ 13 _ _ (thirteen-is s W e k.holds fine) λ thirteen.
    both_leave (left (twelve-is s W e k.holds fine ∙ twelve) thirteen)))))
  where
    R : Store → Lists → Type 0
    R q e' = Stored ls (with_store p q) e'

    s : State
    s = p.state

    W : List ℕ
    W = words p.card

    ps : List Posting
    ps = taking W s

    s' : State
    s' = stepped_on s ps (suc s.merge.steps) (output_chain_on W s ps)

    W' : List ℕ
    W' = written_on W s ps (suc s.merge.steps) (output_chain_on W s ps)

    left : (not (in_progress s) && ltb (length (free_blocks W (blocks s) s.taken)) (output_blocks (result ps))) ≡ false → (eqb e.account.steps 0 && empty (due_of e.account)) ≡ false
        → Stored ls (with_store p (record { state = s'; card = bytes W' })) (with_account e (stepped_account e.account))
    left twelve thirteen =
        stored-store p e (with_account e (stepped_account e.account)) (record { state = s'; card = bytes W' }) k
        (subst (λ X. Holds s' X (with_account e (stepped_account e.account))) (sym (words-bytes W')) there)
        same-lengths
        (length-bytes W' ∙ omega (arith, there.long, ap (λ (l : Lengths). l.card / 4096) same-lengths, (lengths-kept s.lengths k.holds.lengths).card, k.card))
        refl
      where
        there : Holds s' W' (with_account e (stepped_account e.account))
        there = stepped-holds s W e k.holds fine twelve thirteen

        same-lengths : s'.lengths ≡ s.lengths
        same-lengths = unfold stepped_on in go (is_last ps (suc s.merge.steps))
          where
            go : (u : Bool) → (cond u
                (with_merge (with_partitions s (partitions_of (replaced (λ (q : Partition). q.level) (due_in s) (finished s.partitions) (output_record s (result ps) (get_or (output_chain_on W s ps) 0 no_block))))) no_merge)
                (with_merge s (record { first = get_or (output_chain_on W s ps) 0 no_block; length = output_length (result ps); steps = suc s.merge.steps }))).lengths ≡ s.lengths
            go true = refl
            go false = refl
