-- All that is stored has keys, on whatever state and card the code may be given.
use Rattle.lists.proofs.Prelude.{Bool, true, List, [], ◌∷◌, map, ◌≡◌, refl, ◌∙◌, ℕ, suc, ◌+◌, ◌*◌, ◌/◌, ◌≤◌, arith, leb, ltb, length, take, drop, le-leb, ltb-true, lt-ltb, every, joined, up_to, and_left, and_right, and_both, every_append, every_take, every_drop, every-from}
use Rattle.words.specs.Words.{words, Below}
use Rattle.words.proofs.Views.{words-below}
use Rattle.postings.specs.Pack.{posted}
use Rattle.state.specs.declared.Partition.{Partition}
use Rattle.state.specs.declared.State.{State}
use Rattle.state.specs.Views.{blocks, buffered, finished}
use Rattle.state.specs.Rules.{posting_rule, state_rule}
use Rattle.state.proofs.Kept.{state-kept, posting-kept}
use Rattle.card.specs.Blocks.{block, content_of}
use Rattle.card.specs.Chains.{blocks_for, chain_rule, content}
use Rattle.partitions.specs.Reading.{field, entry_number, entry_count, entry_start, posting_words, list_of, decode, chain_of, postings_of, in_partitions, stored}
use Rattle.partitions.specs.Formed.{header_rule, ascending, partition_rule, partitions_formed}
use Rattle.scans.specs.Keys.{is_keyed}
use Rattle.sums.specs.Tally.{counts_of}
use Rattle.sums.proofs.Windowed.{counts-pass}

-- is a number one of 32 bits
abbrev small : ℕ → Bool
small x = ltb x 4294967296

small_all : (l : List ℕ) → Below 4294967296 l → every small l ≡ true
small_all [] b = refl
small_all (x ∷ l) b = and_both (small x) _ (lt-ltb x 4294967296 (b 0)) (small_all l (λ i. b (suc i)))

small-content : (W bs : List ℕ) → every small W ≡ true → every small (content W bs) ≡ true
unfolding content
small-content W [] e = refl
small-content W (b ∷ bs) e =
    every_append small (content_of W b) (content W bs)
    ∙ and_both (every small (content_of W b)) _ (every_take small 1023 (block W b) (every_take small 1024 (drop (1024 * b) W) (every_drop small (1024 * b) W e))) (small-content W bs e)

-- under an identifier of the register, the postings of such words
posted-keyed : (i : ℕ) → leb i 1023 ≡ true → (l : List ℕ) → every small l ≡ true → every is_keyed (map (posted i) l) ≡ true
posted-keyed i h [] e = refl
posted-keyed i h (x ∷ l) e =
    and_both (is_keyed (posted i x)) _ (and_both (leb i 1023) _ h (le-leb (x / 65536) 65535 (omega (arith, ltb-true x 4294967296 (and_left (small x) _ e))))) (posted-keyed i h l (and_right (small x) _ e))

lists-keyed : (c : List ℕ) → every small c ≡ true → (js : List ℕ) → every (λ j. leb (entry_number c j) 1023) js ≡ true → every is_keyed (joined (map (list_of c) js)) ≡ true
lists-keyed c e [] h = refl
lists-keyed c e (j ∷ js) h =
    every_append is_keyed (list_of c j) (joined (map (list_of c) js))
    ∙ and_both (every is_keyed (list_of c j)) _
    (posted-keyed (entry_number c j) (and_left (leb (entry_number c j) 1023) _ h) (take (entry_count c j) (drop (entry_start c j) (posting_words c)))
    (every_take small (entry_count c j) (drop (entry_start c j) (posting_words c)) (every_drop small (entry_start c j) (posting_words c) (every_drop small (8 + 3 * field c 0) c e))))
    (lists-keyed c e js (and_right (leb (entry_number c j) 1023) _ h))

module _ (W : List ℕ) (n : ℕ) (e : every small W ≡ true) where
  partition-keyed : (p : Partition) → partition_rule W n p ≡ true → every is_keyed (postings_of W p) ≡ true
  unfolding partition_rule postings_of decode
  partition-keyed p r =
      let c = content W (chain_of W p) in
      let a = and_right (header_rule p c) _ (and_right (chain_rule W n p.first (blocks_for p.length)) _ r) in
      lists-keyed c (small-content W (chain_of W p) e) (up_to (field c 0)) (and_left (every (λ j. leb (entry_number c j) 1023) (up_to (field c 0))) _ (and_right (ascending (map (entry_number c) (up_to (field c 0)))) _ a))

  partitions-keyed : (ps : List Partition) → every (partition_rule W n) ps ≡ true → every is_keyed (joined (map (postings_of W) ps)) ≡ true
  partitions-keyed [] r = refl
  partitions-keyed (p ∷ ps) r =
      every_append is_keyed (postings_of W p) (joined (map (postings_of W) ps))
      ∙ and_both (every is_keyed (postings_of W p)) _ (partition-keyed p (and_left (partition_rule W n p) _ r)) (partitions-keyed ps (and_right (partition_rule W n p) _ r))

-- all that is stored has keys
stored-keyed : (s : State) (W : List ℕ) → every small W ≡ true → s.windows.last ≤ 65535 → state_rule s ≡ true → partitions_formed W (blocks s) (finished s.partitions) ≡ true → every is_keyed (stored W s) ≡ true
unfolding stored in_partitions partitions_formed
stored-keyed s W e last rule parts =
    every_append is_keyed (joined (map (postings_of W) (finished s.partitions))) (buffered s.buffer)
    ∙ and_both (every is_keyed (joined (map (postings_of W) (finished s.partitions)))) _ (partitions-keyed W (blocks s) e (finished s.partitions) (and_left (every (partition_rule W (blocks s)) (finished s.partitions)) _ parts))
    (every-from (posting_rule s.windows) (posting_rule s.windows) is_keyed
    (λ p a b. let k = posting-kept s.windows p a in and_both (leb p.id 1023) _ (le-leb _ _ k.id) (le-leb p.window 65535 (omega (arith, k.given)))) (buffered s.buffer) (state-kept s rule).buffer.rules (state-kept s rule).buffer.rules)

-- and so have a window's counts
pub counts-keyed : (s : State) (card : List ℕ) → Below 256 card → s.windows.last ≤ 65535 → state_rule s ≡ true → partitions_formed (words card) (blocks s) (finished s.partitions) ≡ true
    → (w : ℕ) → every is_keyed (counts_of w (stored (words card) s)) ≡ true
counts-keyed s card bytes last rule parts w =
    counts-pass w (stored (words card) s) is_keyed (λ q c e. e) (stored-keyed s (words card) (small_all (words card) (words-below card bytes)) last rule parts)
