-- A merge begins: on its blocks, linked and all ones, the output stands as after no step.
use Rattle.lists.proofs.Prelude.{Bool, true, false, not, List, [], ◌∷◌, ◌≡◌, refl, sym, ap, ◌∙◌, ℕ, suc, ◌+◌, ◌-◌, ◌*◌, ◌<◌, ◌≤◌, arith, eqb, ltb, length, get_or, take, drop, replicate, length-replicate, replicate-append-replicate, length-take-le, eqb-true, eqb-false, every, elem, empty, different, by-test, and_left, and_right, and_both, different-take, every_take, every_append, different-join, empty-none}
use Rattle.words.specs.Words.{all_ones}
use Rattle.postings.specs.declared.Posting.{Posting}
use Rattle.postings.specs.Merge.{nonzero, pairs}
use Rattle.state.specs.declared.Partition.{Partition}
use Rattle.state.specs.declared.Partitions.{Partitions}
use Rattle.state.specs.declared.State.{State}
use Rattle.state.specs.Views.{padded, blocks, finished}
use Rattle.card.specs.Blocks.{no_block, is_free, free_blocks, on_card}
use Rattle.card.specs.Chains.{blocks_for, chain, content}
use Rattle.blocks.specs.Writes.{store}
use Rattle.blocks.proofs.FreeBlocks.{free_on, free-free, free-different}
use Rattle.blocks.proofs.Stores.{Agree, apart, length-store}
use Rattle.blocks.proofs.Stored.{chain-stored, rule-stored, content-stored}
use Rattle.partitions.specs.Layout.{length_of}
use Rattle.partitions.specs.Reading.{chain_of}
use Rattle.partitions.specs.Formed.{chains_of}
use Rattle.partitions.proofs.Kept.{AgreeAll, chains-kept, all-kept, formed-kept, store_keeps, rules-apart}
use Rattle.partitions.proofs.Lengths.{length-encode}
use Rattle.inputs.specs.declared.Totals.{Totals}
use Rattle.inputs.specs.declared.Batch.{Batch}
use Rattle.inputs.specs.Judging.{totals_of, all_in_range}
use Rattle.inputs.specs.Ahead.{batched}
use Rattle.outputs.proofs.Contents.{store-twice}
use Rattle.plans.specs.declared.Output.{Output}
use Rattle.plans.specs.Merging.{inputs, taking, result, output_blocks, progress, is_last, output_level, output_content}
use Rattle.plans.specs.Step.{last_of, written_on}
use Rattle.plans.specs.Acting.{Drafted, Judged, Acts, length_from}
use Rattle.plans.proofs.Merged.{part-all}
use Rattle.plans.proofs.Progress.{front, progress-none, progress-room, result-room, last_taken}
use Rattle.plans.proofs.Drafting.{rules, chains-apart, part}
use Rattle.plans.proofs.Refusing.{blocks-told, some-there}

-- Lists ------------------------------------------------------------------------------------------------------------------

every-chains : (t : ℕ → Bool) (W : List ℕ) (qs : List Partition) → every (λ q. every t (chain_of W q)) qs ≡ true → every t (chains_of W qs) ≡ true
unfolding chains_of
every-chains t W [] e = refl
every-chains t W (q ∷ qs) e =
    every_append t (chain_of W q) (chains_of W qs) ∙ and_both (every t (chain_of W q)) _ (and_left _ _ e) (every-chains t W qs (and_right (every t (chain_of W q)) _ e))

-- the last of blocks that were taken
pub last-at : (t : ℕ) (bs : List ℕ) → 1 ≤ length bs → last_of t bs ≡ get_or bs (length bs - 1) 0
last-at t [] h = absurd (omega arith)
last-at t (b ∷ []) h = refl
last-at t (b ∷ c ∷ bs) h =
    let e : suc (suc (length bs)) - 1 ≡ suc (length bs - 0) = omega arith in
    let z : length bs - 0 ≡ suc (length bs) - 1 = omega arith in
    last-at b (c ∷ bs) (omega arith) ∙ rw (e, z)

-- the first, whatever stands for none
pub first-at : (bs : List ℕ) → 1 ≤ length bs → get_or bs 0 0 ≡ get_or bs 0 no_block
first-at [] h = absurd (omega arith)
first-at (b ∷ bs) h = refl

-- Free blocks that are taken --------------------------------------------------------------------------------------------

-- n free blocks of a card of so many
pub record Free (W : List ℕ) (count n : ℕ) (bs : List ℕ) : Type 0 where
  pub many : length bs ≡ n
  pub on : on_card count bs ≡ true
  pub new : different bs ≡ true
  pub free : every (is_free W) bs ≡ true

-- the next ones are
pub next-free : (W : List ℕ) (count taken n : ℕ) → n ≤ length (free_blocks W count taken) → Free W count n (take n (free_blocks W count taken))
next-free W count taken n h =
    let f = free_blocks W count taken in
    record {
      many = length-take-le n f h;
      on = every_take (λ b. ltb b count) n f (free_on W count taken);
      new = different-take n f (free-different W count taken);
      free = every_take (is_free W) n f (free-free W count taken);
    }

module _ (W : List ℕ) (s : State) (is : Partitions) (t : Totals) (g : Judged W s is t) (n : ℕ) (many : n ≡ blocks_for (length_from t)) (bs : List ℕ) (f : Free W (blocks s) n bs) where
  abbrev W₁ : List ℕ
  W₁ = store W bs []

  abbrev fin : List Partition
  fin = finished s.partitions

  clear : every (λ q. apart (chain_of W q) bs) fin ≡ true
  clear = rules-apart W bs (blocks s) fin g.long (omega (arith, g.few)) (rules W s is t g) f.free

  all-agree : AgreeAll W₁ W fin
  all-agree = store_keeps W bs [] fin clear

  agree : AgreeAll W₁ W (inputs s)
  agree = part-all (inputs s) fin (part W s is t g) (λ q. Agree W₁ W (chain_of W q)) all-agree

  -- the inputs give the same pairs
  pub same-pairs : taking W₁ s ≡ taking W s
  unfolding taking
  same-pairs = ap pairs (all-kept W₁ W (inputs s) agree)

  -- and are judged as before
  pub judged-linked : Judged W₁ s is t
  judged-linked =
      record {
        long = length-store W bs [] ∙ g.long;
        few = g.few;
        used = g.used;
        form = g.form;
        formed = formed-kept W₁ W (blocks s) fin all-agree ∙ g.formed;
        are = g.are;
        range = ap all_in_range same-pairs ∙ g.range;
        totals = g.totals ∙ ap totals_of (sym same-pairs);
        small = g.small;
      }

  many-told : n ≡ output_blocks (result (taking W s))
  many-told = many ∙ blocks-told W s is t g

  module _ (h : 0 < n) where
    some : empty (result (taking W s)) ≡ false
    some = some-there W s is t g (λ z. omega (arith, many))

    room : front (taking W s) ≤ 1023 * n
    room = omega (arith, result-room (taking W s) n many-told some)

    linked : (b : ℕ) → b ≡ get_or bs 0 0 → chain W₁ b n ≡ bs
    linked b e = rw (e, ← f.many) (chain-stored W bs [] (blocks s) g.long f.on f.new)

    -- all ones are what no step has written
    ones : content W₁ bs ≡ padded (1023 * n) all_ones (progress (taking W s) 0)
    ones =
        let k = front (taking W s) in
        let l = length-replicate k all_ones in
        let e : 1023 * length bs - 0 ≡ k + (1023 * n - length (replicate k all_ones)) = omega (arith, room, ap (λ (m : ℕ). 1023 * m) f.many) in
        content-stored W bs [] (blocks s) g.long f.on f.new (omega arith)
        ∙ ap (λ (m : ℕ). replicate m all_ones) e
        ∙ sym (replicate-append-replicate k (1023 * n - length (replicate k all_ones)) all_ones)
        ∙ ap (padded (1023 * n) all_ones) (sym (progress-none (taking W s)))

    drafted-linked : (b : ℕ) → b ≡ get_or bs 0 0 → s.merge.steps ≡ 0 → Drafted W₁ s (taking W₁ s) b n
    drafted-linked b e z =
        let k = chains-kept W₁ W fin all-agree in
        record {
          rule = rw (e, ← f.many) (rule-stored W bs [] (blocks s) g.long f.on f.new (omega (arith, f.many)));
          apart = rw (linked b e, k) (different-join bs (chains_of W fin) f.new (chains-apart W s is t g) (every-chains (λ d. not (elem d bs)) W fin clear));
          full = ap (content W₁) (linked b e) ∙ ones
              ∙ ap (λ (m : ℕ). padded (1023 * n) all_ones (progress (taking W s) m)) (sym z)
              ∙ ap (λ (l : List Posting). padded (1023 * n) all_ones (progress l s.merge.steps)) (sym same-pairs);
        }

    -- the content has room
    content-fits : (j : ℕ) → length (output_content s (taking W s) j) ≤ 1023 * length bs
    unfolding output_content length_of
    content-fits j =
        by-test (is_last (taking W s) j)
        (λ y. rw y (omega (arith, length-encode (output_level s) (result (taking W s)), result-room (taking W s) n many-told some, ap (λ (m : ℕ). 1023 * m) f.many)))
        (λ y. rw y (omega (arith, progress-room (taking W s) n j many-told some, ap (λ (m : ℕ). 1023 * m) f.many)))

    -- what is stored to the linked blocks is stored to the free ones
    stored-linked : (b j : ℕ) → b ≡ get_or bs 0 0 → written_on W₁ s (taking W₁ s) j (chain W₁ b n) ≡ written_on W s (taking W s) j bs
    unfolding written_on
    stored-linked b j e =
        let c = output_content s (taking W s) j in
        let u = store-twice W bs (blocks s) g.long (record { on = f.on; new = f.new; some = omega (arith, f.many) }) [] c (content-fits j) in
        let k = chains-kept W₁ W (inputs s) agree in
        rw (linked b e, same-pairs, u, k)

  -- Either way ---------------------------------------------------------------------------------------------------------------

  none-bs : n ≡ 0 → bs ≡ []
  none-bs z = empty-none bs (omega (arith, f.many, z))

  none-same : n ≡ 0 → W₁ ≡ W
  unfolding store
  none-same z = rw (none-bs z)

  first-bs : 0 < n → (b : ℕ) → b ≡ get_or bs 0 no_block → b ≡ get_or bs 0 0
  first-bs h b e = e ∙ sym (first-at bs (omega (arith, f.many)))

  -- the output stands as after no step
  pub acts-linked : (o : Output) (b : Batch) → o.first ≡ get_or bs 0 no_block → o.blocks ≡ n → o.written ≡ 0 → s.merge.steps ≡ 0
      → batched b ≡ nonzero (take 16 (taking W s)) → b.taken ≡ length (take 16 (taking W s)) → b.used ≤ 16 → Acts W₁ s o b
  unfolding nonzero
  acts-linked o b e m w z x k u =
      record {
        blocks = m ∙ many-told ∙ ap (λ (l : List Posting). output_blocks (result l)) (sym same-pairs);
        none = λ y. e ∙ rw (none-bs (sym m ∙ y));
        draft = λ y. rw m (drafted-linked (omega (arith, m)) o.first (first-bs (omega (arith, m)) o.first e) z);
        written = w ∙ ap (λ (k : ℕ). length (nonzero (take (16 * k) (taking W₁ s)))) (sym z);
        batch = x
            ∙ ap (λ (k : ℕ). nonzero (take 16 (drop (16 * k) (taking W s)))) (sym z)
            ∙ ap (λ (l : List Posting). nonzero (take 16 (drop (16 * s.merge.steps) l))) (sym same-pairs);
        few = u;
        last = last_taken (taking W₁ s) s.merge.steps b.taken
            (k
            ∙ ap (λ (k : ℕ). length (take 16 (drop (16 * k) (taking W s)))) (sym z)
            ∙ ap (λ (l : List Posting). length (take 16 (drop (16 * s.merge.steps) l))) (sym same-pairs));
      }

  -- and what is written there is written to the free blocks
  pub written-linked : (b j : ℕ) → b ≡ get_or bs 0 no_block → written_on W₁ s (taking W₁ s) j (chain W₁ b n) ≡ written_on W s (taking W s) j bs
  unfolding chain
  written-linked b j e =
      by-test (eqb n 0)
      (λ y. let z = eqb-true n 0 y in
      rw (none-same z, z, none-bs z))
      (λ y. let h : 0 < n = omega (arith, eqb-false n 0 y) in stored-linked h b j (first-bs h b e))
