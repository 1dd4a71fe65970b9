-- Header, entries and postings written to a chain that holds nothing are the partition stored.
use Rattle.lists.proofs.Prelude.{true, List, [], ◌++◌, map, append_assoc, ◌≡◌, refl, ap, ◌∙◌, ℕ, ◌+◌, ◌*◌, ◌≤◌, arith, leb, length, length-append, length-map, every, joined, up_to, length-joined}
use Rattle.postings.specs.declared.Posting.{Posting}
use Rattle.postings.specs.Order.{ordered}
use Rattle.postings.specs.Sums.{under}
use Rattle.postings.specs.Spans.{lowest, highest}
use Rattle.blocks.specs.Writes.{store}
use Rattle.partitions.specs.Layout.{identifiers_of, term_count, header, entry_of, word_of, encode}
use Rattle.outputs.specs.Contents.{written}
use Rattle.outputs.specs.Entries.{entries_onward}
use Rattle.outputs.proofs.Contents.{Blocks, store-past}
use Rattle.outputs.proofs.Entries.{entries_by}

module _ (W bs : List ℕ) (n : ℕ) (long : length W ≡ 1024 * n) (b : Blocks bs n) (ps : List Posting) (o : ordered ps ≡ true)
    (small : every (λ p. leb p.id 1023) ps ≡ true) (room : 8 + 3 * term_count ps + length ps ≤ 1023 * length bs) where
  pub partition-stored : (level : ℕ) (counts : List ℕ) → counts ≡ map (λ i. length (under i ps)) (up_to 1024)
      → written
      (written (written (store W bs []) bs 0 (header level (term_count ps) (length ps) (lowest ps) (highest ps))) bs 8 (entries_onward 0 0 counts))
      bs
      (8 + 3 * term_count ps)
      (map word_of ps)
      ≡ store W bs (encode level ps)
  unfolding encode
  partition-stored level counts e =
      let hs = header level (term_count ps) (length ps) (lowest ps) (highest ps) in
      let es = joined (map (entry_of ps) (identifiers_of ps)) in
      let ws = map word_of ps in
      let le : length es ≡ 3 * term_count ps = length-joined (entry_of ps) 3 (λ x. refl) (identifiers_of ps) in
      let lw : length ws ≡ length ps = length-map ps word_of in
      let lf : length (hs ++ es) ≡ 8 + 3 * term_count ps = length-append hs es ∙ (omega arith) in
      rw (entries_by ps o small counts e, store-past W bs n long b [] hs (omega arith), store-past W bs n long b hs es (omega arith), ← lf)
      (store-past W bs n long b (hs ++ es) ws (omega arith) ∙ ap (store W bs) (append_assoc hs es ws))
