-- What a header's rule says, and where its words lie.
use Rattle.lists.proofs.Prelude.{true, List, inl, ◌≡◌, sym, ap, ◌∙◌, ℕ, ◌+◌, ◌*◌, ◌<◌, ◌≤◌, arith, length, get_or, drop, length-take, get_or-take, get_or-drop}
use Rattle.state.specs.declared.Partition.{Partition}
use Rattle.card.specs.Chains.{blocks_for, chain, content}
use Rattle.card.specs.Cursors.{word_in, InCard, Chained, ahead_at}
use Rattle.card.proofs.Cursors.{length-ahead}
use Rattle.card.proofs.Chains.{chained_more}
use Rattle.card.proofs.Seeking.{ahead-chain}
use Rattle.partitions.specs.Layout.{total_length}
use Rattle.partitions.specs.Reading.{field, chain_of}
use Rattle.partitions.specs.Formed.{header_rule}
use Rattle.partitions.specs.Headers.{header_in, header_words}
use Rattle.partitions.proofs.Lookup.{headed}

-- the content of a chain
module _ (W : List ℕ) (b n : ℕ) (g : Chained W b n) where
  -- its first block is on the card
  pub first_block : 0 < n → InCard W b
  first_block h = (chained_more W b n h g).0

  -- a word of the first block
  pub first_word : (j : ℕ) → 0 < n → j < 1023 → get_or (content W (chain W b n)) j 0 ≡ word_in W b j
  unfolding ahead_at
  first_word j h l =
      let c = content W (chain W b n) in
      let e = ap (λ (r : List ℕ). get_or r 0 0) (ahead-chain W 1 n b j (inl l) (omega arith) g).0 in
      let z : j + 0 ≡ j = omega arith in
      sym (e ∙ get_or-take 1 (drop j c) 0 0 (omega arith) ∙ get_or-drop j c 0 0 ∙ ap (λ (k : ℕ). get_or c k 0) z)

  -- it has 1,023 words to a block
  pub content-room : 1023 * n ≤ length (content W (chain W b n))
  content-room =
      let c = content W (chain W b n) in
      let e = ap length (ahead-chain W (1023 * n) n b 0 (inl (omega arith)) (omega arith) g).0 in
      omega (arith, e, length-ahead W (record { block = b; word = 0; left = 1023 * n }), length-take (1023 * n) c)

-- the header in a partition's first block is that of its content
pub header-in : (W : List ℕ) (p : Partition) → Chained W p.first (blocks_for p.length) → 0 < blocks_for p.length
    → header_rule p (header_words (header_in W p.first)) ≡ header_rule p (content W (chain_of W p))
header-in W p g h =
    let w : (j : ℕ) → j < 1023 → get_or (content W (chain_of W p)) j 0 ≡ word_in W p.first j = λ j l. first_word W p.first (blocks_for p.length) g j h l in
    rw (w 0 (omega arith), w 1 (omega arith), w 2 (omega arith), w 3 (omega arith), w 4 (omega arith), w 5 (omega arith), w 6 (omega arith), w 7 (omega arith))

-- what a readable header says of the space that entries and postings take
pub record Room (W : List ℕ) (p : Partition) : Type 0 where
  pub some : 0 < blocks_for p.length
  pub blocks : 8 + 3 * field (content W (chain_of W p)) 0 + field (content W (chain_of W p)) 1 ≤ 1023 * blocks_for p.length
  pub words : 8 + 3 * field (content W (chain_of W p)) 0 + field (content W (chain_of W p)) 1 ≤ length (content W (chain_of W p))
  pub bytes : p.length ≡ total_length (field (content W (chain_of W p)) 0) (field (content W (chain_of W p)) 1)
  pub terms : 1 ≤ field (content W (chain_of W p)) 0

-- a header that keeps the rule has that room
pub header-room : (W : List ℕ) (p : Partition) → Chained W p.first (blocks_for p.length) → header_rule p (content W (chain_of W p)) ≡ true → Room W p
header-room W p g e =
    let f = headed p (content W (chain_of W p)) e in
    let r = content-room W p.first (blocks_for p.length) g in
    record { some = omega arith; blocks = omega arith; words = omega arith; bytes = f.long; terms = f.terms }
