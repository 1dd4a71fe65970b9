-- A flush is read back as a finished partition, and every other one stays as it was.
use Rattle.lists.proofs.Prelude.{true, false, not, ◌&&◌, true≢false, List, [], ◌∷◌, ◌++◌, map, append-nil, ◌≡◌, refl, sym, ap, ap₂, ◌∙◌, ℕ, ◌*◌, ◌<◌, ◌≤◌, arith, ltb, leb, length, length-take-le, lt-ltb, le-leb, eq-eqb, every, elem, different, joined, by-test, and_left, and_right, and_both, every-from, every_append, every-elem, different-insert}
use Rattle.lists.proofs.Stores.{joined-append}
use Rattle.words.specs.Words.{all_ones}
use Rattle.postings.specs.declared.Posting.{Posting}
use Rattle.postings.specs.Order.{ordered}
use Rattle.postings.specs.Merge.{is_zero}
use Rattle.postings.specs.Spans.{lowest, highest}
use Rattle.postings.proofs.Spans.{lowest-some, span-some}
use Rattle.state.specs.declared.Windows.{Windows}
use Rattle.state.specs.declared.Buffer.{Buffer}
use Rattle.state.specs.declared.Partition.{Partition}
use Rattle.state.specs.Views.{buffered}
use Rattle.state.specs.Rules.{posting_rule, buffer_rule}
use Rattle.state.proofs.Kept.{posting-kept, buffer-kept}
use Rattle.card.specs.Blocks.{is_free, on_card}
use Rattle.blocks.specs.Writes.{store}
use Rattle.blocks.proofs.Stores.{apart}
use Rattle.partitions.specs.Layout.{encode, record_for}
use Rattle.partitions.specs.Reading.{chain_of, postings_of, in_partitions}
use Rattle.partitions.specs.Formed.{partition_rule, chains_of, partitions_formed, list_rule, lists_rule, in_range, Writable}
use Rattle.partitions.proofs.Lengths.{one_block}
use Rattle.partitions.proofs.Kept.{AgreeAll, chain-written, rule-written, postings-written, lists-written, chains-kept, all-kept, formed-kept, store_keeps, rules-apart}

-- what a buffer that keeps its rule holds can be written
pub buffer-writable : (w : Windows) (b : Buffer) → buffer_rule w b ≡ true → length b.postings ≡ 128 → 1 ≤ b.used → Writable (buffered b)
unfolding list_rule
buffer-writable w b e long h =
    let k = buffer-kept w b e in
    let r = k.rules in
    let n : length (buffered b) ≡ b.used = length-take-le b.used b.postings (omega (arith, k.used)) in
    record {
      some = omega arith;
      formed = and_both _ _ k.order
          (every-from (posting_rule w) (posting_rule w) (λ p. leb 1 p.window && not (is_zero p.count))
          (λ p u v. let q = posting-kept w p u in and_both _ _ (le-leb 1 p.window q.some) (rw q.counts)) (buffered b) r r);
      numbered = every-from (posting_rule w) (posting_rule w) (λ p. leb p.id 1023) (λ p u v. le-leb _ _ (posting-kept w p u).id) (buffered b) r r;
      fitting = every-from (posting_rule w) (posting_rule w) (λ p. in_range p.count) (λ p u v. le-leb _ _ (posting-kept w p u).small) (buffered b) r r;
    }

-- a list that may be used has no window 0
pub list-windows : (l : List Posting) → list_rule l ≡ true → every (λ q. leb 1 q.window) l ≡ true
unfolding list_rule
list-windows l e =
    let r = and_right (ordered l) _ e in
    every-from (λ (q : Posting). leb 1 q.window && not (is_zero q.count)) (λ (q : Posting). leb 1 q.window && not (is_zero q.count)) (λ q. leb 1 q.window) (λ q a b. and_left (leb 1 q.window) _ a) l r r

-- the windows of what can be written are those of a record
pub writable-span : (ps : List Posting) → Writable ps → (1 ≤ lowest ps) × (lowest ps ≤ highest ps)
writable-span ps w = (lowest-some ps (list-windows ps w.formed), span-some ps w.some)

-- the record of a flush to block b
abbrev pub flush_record : ℕ → List Posting → Partition
flush_record b ps = record_for b 0 ps

-- the card after it
abbrev pub flush_card : List ℕ → ℕ → List Posting → List ℕ
flush_card W b ps = store W (b ∷ []) (encode 0 ps)

-- no block of the partitions is b
apart-all : (W : List ℕ) (b : ℕ) (qs : List Partition) → every (λ q. apart (chain_of W q) (b ∷ [])) qs ≡ true → every (λ d. not (elem d (b ∷ []))) (chains_of W qs) ≡ true
unfolding chains_of
apart-all W b [] e = refl
apart-all W b (q ∷ qs) e =
    every_append (λ d. not (elem d (b ∷ []))) (chain_of W q) (joined (map (chain_of W) qs))
    ∙ and_both _ _ (and_left (apart (chain_of W q) (b ∷ [])) _ e) (apart-all W b qs (and_right (apart (chain_of W q) (b ∷ [])) _ e))

none_of : (b : ℕ) (l : List ℕ) → every (λ d. not (elem d (b ∷ []))) l ≡ true → elem b l ≡ false
none_of b l e =
    by-test (elem b l)
    (λ y. let a = every-elem (λ d. not (elem d (b ∷ []))) l b e y in absurd (true≢false (sym (rw (eq-eqb b b refl) at a))))
    (λ n. n)

module _ (W : List ℕ) (n b : ℕ) (ps : List Posting) (long : length W ≡ 1024 * n) (on : b < n) (few : length ps ≤ 128) where
  on-card : on_card n (b ∷ []) ≡ true
  on-card = and_both (ltb b n) true (lt-ltb b n on) refl

  -- its chain is the block
  pub flush-chain : chain_of (flush_card W b ps) (flush_record b ps) ≡ b ∷ []
  flush-chain = chain-written W (b ∷ []) n 0 ps long on-card refl (sym (one_block ps few))

  module _ (w : Writable ps) where
    -- it keeps the rule of a finished partition
    pub flush-rule : partition_rule (flush_card W b ps) n (flush_record b ps) ≡ true
    flush-rule = rule-written W (b ∷ []) n 0 ps long on-card refl (sym (one_block ps few)) w

    -- its postings are those that were buffered
    pub flush-postings : postings_of (flush_card W b ps) (flush_record b ps) ≡ ps
    flush-postings = postings-written W (b ∷ []) n 0 ps long on-card refl (sym (one_block ps few)) w

    -- and all its lists keep their rule
    pub flush-lists : lists_rule (flush_card W b ps) (flush_record b ps) ≡ true
    flush-lists = lists-written W (b ∷ []) n 0 ps long on-card refl (sym (one_block ps few)) w

    -- with other finished partitions
    module _ (qs : List Partition) (most : n ≤ all_ones) (free : is_free W b ≡ true) (formed : partitions_formed W n qs ≡ true) where
      others_apart : every (λ q. apart (chain_of W q) (b ∷ [])) qs ≡ true
      unfolding partitions_formed
      others_apart = rules-apart W (b ∷ []) n qs long most (and_left (every (partition_rule W n) qs) _ formed) (and_both (is_free W b) true free refl)

      -- every block of theirs stays
      pub flush-keeps : AgreeAll (flush_card W b ps) W qs
      flush-keeps = store_keeps W (b ∷ []) (encode 0 ps) qs others_apart

      -- all are well formed together
      pub flush-formed : partitions_formed (flush_card W b ps) n (qs ++ (flush_record b ps ∷ [])) ≡ true
      unfolding partitions_formed chains_of
      flush-formed =
          let W' = flush_card W b ps in
          let r = flush_record b ps in
          let f : partitions_formed W' n qs ≡ true = formed-kept W' W n qs flush-keeps ∙ formed in
          let c : chains_of W' (qs ++ (r ∷ [])) ≡ chains_of W qs ++ (b ∷ []) =
          joined-append (chain_of W') qs (r ∷ []) ∙ ap₂ (λ (x y : List ℕ). x ++ y) (chains-kept W' W qs flush-keeps) (append-nil (chain_of W' r) ∙ flush-chain) in
          let d : different (chains_of W qs) ≡ true = and_right (every (partition_rule W n) qs) _ formed in
          let z : elem b (chains_of W qs) ≡ false = none_of b (chains_of W qs) (apart-all W b qs others_apart) in
          and_both _ _
          (every_append (partition_rule W' n) qs (r ∷ [])
          ∙ and_both _ _ (and_left (every (partition_rule W' n) qs) _ f) (and_both (partition_rule W' n r) true flush-rule refl))
          (ap different c
          ∙ different-insert (chains_of W qs) [] b (ap (elem b) (append-nil (chains_of W qs)) ∙ z) (ap different (append-nil (chains_of W qs)) ∙ d))

      -- and hold what they held, and what was buffered
      pub flush-stored : in_partitions (flush_card W b ps) (qs ++ (flush_record b ps ∷ [])) ≡ in_partitions W qs ++ ps
      unfolding in_partitions
      flush-stored =
          let W' = flush_card W b ps in
          let r = flush_record b ps in
          joined-append (postings_of W') qs (r ∷ [])
          ∙ ap₂ (λ (x y : List Posting). x ++ y) (all-kept W' W qs flush-keeps) (append-nil (postings_of W' r) ∙ flush-postings)
