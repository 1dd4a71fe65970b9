-- A partition that is written to free blocks is read back, and every other one is read as before.
use Rattle.lists.proofs.Prelude.{true, ◌&&◌, List, [], ◌∷◌, ◌++◌, ◌≡◌, refl, sym, ap, ap₂, ◌∙◌, ℕ, ◌*◌, ◌-◌, ◌≤◌, arith, length, get_or, replicate, eq-eqb, every, different, AllOf, and_left, and_right, and_both, every-from}
use Rattle.words.specs.Words.{all_ones}
use Rattle.postings.specs.declared.Posting.{Posting}
use Rattle.postings.specs.Spans.{lowest, highest}
use Rattle.state.specs.declared.Partition.{Partition}
use Rattle.card.specs.Blocks.{is_free, on_card}
use Rattle.card.specs.Chains.{blocks_for, chain, chain_rule, content}
use Rattle.blocks.specs.Writes.{store, release}
use Rattle.blocks.proofs.Stores.{Agree, apart, store-agrees, release-agrees, chain-agree, rule-agree, content-agree}
use Rattle.blocks.proofs.FreeBlocks.{chain-taken, apart-free}
use Rattle.blocks.proofs.Stored.{chain-stored, rule-stored, content-stored}
use Rattle.partitions.specs.Layout.{length_of, encode, written_as}
use Rattle.partitions.specs.Reading.{chain_of, decode, postings_of, in_partitions}
use Rattle.partitions.specs.Formed.{header_rule, entries_rule, partition_rule, chains_of, partitions_formed, span_rule, lists_rule, list_rule, Writable}
use Rattle.partitions.proofs.Lookup.{rule-chain}
use Rattle.partitions.proofs.Lengths.{length-encode, blocks-hold, blocks-some}
use Rattle.partitions.proofs.Trips.{decode-encode}
use Rattle.partitions.proofs.Rules.{list-ordered, header-rule, entries-rule}

-- the record of what is written tells its windows
pub span-own : (bs : List ℕ) (level : ℕ) (ps : List Posting) → span_rule (written_as bs level ps) ps ≡ true
span-own bs level ps = rw (eq-eqb (lowest ps) (lowest ps) refl) (eq-eqb (highest ps) (highest ps) refl)

-- Written ----------------------------------------------------------------------------------------------------------

module _ (W bs : List ℕ) (n level : ℕ) (ps : List Posting) (long : length W ≡ 1024 * n) (on : on_card n bs ≡ true) (new : different bs ≡ true) (fits : length bs ≡ blocks_for (length_of ps)) where
  -- its blocks are those
  pub chain-written : chain_of (store W bs (encode level ps)) (written_as bs level ps) ≡ bs
  chain-written =
      ap (λ (k : ℕ). chain (store W bs (encode level ps)) (get_or bs 0 0) k) (sym fits) ∙ chain-stored W bs (encode level ps) n long on new

  -- its content is the partition's words and all ones
  pub content-written : content (store W bs (encode level ps)) (chain_of (store W bs (encode level ps)) (written_as bs level ps))
      ≡ encode level ps ++ replicate (1023 * length bs - length (encode level ps)) all_ones
  content-written =
      ap (content (store W bs (encode level ps))) chain-written
      ∙ content-stored W bs (encode level ps) n long on new (omega (arith, length-encode level ps, blocks-hold (length_of ps)))

  module _ (w : Writable ps) where
    -- the rule is kept
    pub rule-written : partition_rule (store W bs (encode level ps)) n (written_as bs level ps) ≡ true
    unfolding partition_rule
    rule-written =
        let c = store W bs (encode level ps) in
        let rest = replicate (1023 * length bs - length (encode level ps)) all_ones in
        let p = written_as bs level ps in
        and_both (chain_rule c n (get_or bs 0 0) (blocks_for (length_of ps))) _
        (ap (chain_rule c n (get_or bs 0 0)) (sym fits) ∙ rule-stored W bs (encode level ps) n long on new (omega (arith, blocks-some ps)))
        (rw content-written
        (and_both (header_rule p (encode level ps ++ rest)) _ (header-rule level ps rest p w.some refl refl (span-own bs level ps))
        (entries-rule level ps rest (list-ordered ps w.formed) w.numbered)))

    -- and the postings are read back
    pub postings-written : postings_of (store W bs (encode level ps)) (written_as bs level ps) ≡ ps
    unfolding postings_of
    postings-written =
        ap decode content-written
        ∙ decode-encode level ps (replicate (1023 * length bs - length (encode level ps)) all_ones) (list-ordered ps w.formed) w.fitting

    -- and all its lists keep their rule
    pub lists-written : lists_rule (store W bs (encode level ps)) (written_as bs level ps) ≡ true
    unfolding lists_rule
    lists-written =
        rw postings-written (and_both (list_rule ps) (span_rule (written_as bs level ps) ps) w.formed (span-own bs level ps))

-- Kept -------------------------------------------------------------------------------------------------------------

-- two cards that agree on a partition's blocks
module _ (W' W : List ℕ) (q : Partition) (a : Agree W' W (chain_of W q)) where
  -- its blocks are the same
  pub chain-kept : chain_of W' q ≡ chain_of W q
  chain-kept = chain-agree W' W q.first (blocks_for q.length) a

  -- its content is the same
  pub content-kept : content W' (chain_of W' q) ≡ content W (chain_of W q)
  content-kept = ap (content W') chain-kept ∙ content-agree W' W (chain_of W q) a

  -- it keeps the rule on both or on neither
  pub rule-kept : (n : ℕ) → partition_rule W' n q ≡ partition_rule W n q
  unfolding partition_rule
  rule-kept n =
      ap₂ ◌&&◌ (rule-agree W' W n q.first (blocks_for q.length) a)
      (ap (λ (c : List ℕ). header_rule q c && entries_rule c) content-kept)

  -- its postings are the same
  pub postings-kept : postings_of W' q ≡ postings_of W q
  unfolding postings_of
  postings-kept = ap decode content-kept

  -- all its lists keep their rule on both or on neither
  pub lists-kept : lists_rule W' q ≡ lists_rule W q
  unfolding lists_rule
  lists-kept = ap (λ (l : List Posting). list_rule l && span_rule q l) postings-kept

-- two cards that agree on the blocks of every partition of a list
abbrev pub AgreeAll : List ℕ → List ℕ → List Partition → Type 0
AgreeAll W' W qs = AllOf (λ q. Agree W' W (chain_of W q)) qs

module _ (W' W : List ℕ) where
  -- their blocks are the same
  pub chains-kept : (qs : List Partition) → AgreeAll W' W qs → chains_of W' qs ≡ chains_of W qs
  unfolding AllOf chains_of
  chains-kept [] a = refl
  chains-kept (q ∷ qs) a = ap₂ (λ (r s : List ℕ). r ++ s) (chain-kept W' W q a.0) (chains-kept qs a.1)

  -- their postings are the same
  pub all-kept : (qs : List Partition) → AgreeAll W' W qs → in_partitions W' qs ≡ in_partitions W qs
  unfolding AllOf in_partitions
  all-kept [] a = refl
  all-kept (q ∷ qs) a = ap₂ (λ (r s : List Posting). r ++ s) (postings-kept W' W q a.0) (all-kept qs a.1)

  rules-kept : (n : ℕ) (qs : List Partition) → AgreeAll W' W qs → every (partition_rule W' n) qs ≡ every (partition_rule W n) qs
  unfolding AllOf
  rules-kept n [] a = refl
  rules-kept n (q ∷ qs) a = ap₂ ◌&&◌ (rule-kept W' W q a.0 n) (rules-kept n qs a.1)

  -- they are well formed on both or on neither
  pub formed-kept : (n : ℕ) (qs : List Partition) → AgreeAll W' W qs → partitions_formed W' n qs ≡ partitions_formed W n qs
  unfolding partitions_formed
  formed-kept n qs a = ap₂ ◌&&◌ (rules-kept n qs a) (ap different (chains-kept qs a))

-- blocks of no partition of the list: storing to them and releasing them keeps every one
pub store_keeps : (W bs c : List ℕ) (qs : List Partition) → every (λ q. apart (chain_of W q) bs) qs ≡ true → AgreeAll (store W bs c) W qs
unfolding AllOf
store_keeps W bs c [] e = tt
store_keeps W bs c (q ∷ qs) e =
    (store-agrees W bs c (chain_of W q) (and_left _ _ e), store_keeps W bs c qs (and_right (apart (chain_of W q) bs) _ e))

-- the same for a release
pub release-keeps : (W bs : List ℕ) (qs : List Partition) → every (λ q. apart (chain_of W q) bs) qs ≡ true → AgreeAll (release W bs) W qs
unfolding AllOf
release-keeps W bs [] e = tt
release-keeps W bs (q ∷ qs) e =
    (release-agrees W bs (chain_of W q) (and_left _ _ e), release-keeps W bs qs (and_right (apart (chain_of W q) bs) _ e))

-- free blocks are blocks of no partition that keeps the rule
pub rule-apart : (W bs : List ℕ) (n : ℕ) (q : Partition) → length W ≡ 1024 * n → n ≤ all_ones → partition_rule W n q ≡ true → every (is_free W) bs ≡ true
    → apart (chain_of W q) bs ≡ true
rule-apart W bs n q long m e f =
    apart-free W (chain_of W q) bs (chain-taken W n q.first (blocks_for q.length) long m (rule-chain W n q e)) f

-- nor of any of many
pub rules-apart : (W bs : List ℕ) (n : ℕ) (qs : List Partition) → length W ≡ 1024 * n → n ≤ all_ones → every (partition_rule W n) qs ≡ true
    → every (is_free W) bs ≡ true → every (λ q. apart (chain_of W q) bs) qs ≡ true
rules-apart W bs n qs long m e f =
    every-from (partition_rule W n) (partition_rule W n) (λ q. apart (chain_of W q) bs) (λ q a b. rule-apart W bs n q long m a f) qs e e
