-- A free block whose link names none is a chain of one: a partition written along it is stored.
use Rattle.lists.proofs.Prelude.{true, List, [], ◌∷◌, map, ◌≡◌, refl, ◌∙◌, ℕ, ◌+◌, ◌*◌, ◌≤◌, arith, ltb, leb, length, set, lt-ltb, AllOf, every, and_both}
use Rattle.words.specs.Words.{words}
use Rattle.words.proofs.Views.{length-words}
use Rattle.postings.specs.declared.Posting.{Posting}
use Rattle.postings.specs.Order.{ordered}
use Rattle.postings.specs.Spans.{lowest, highest}
use Rattle.card.specs.Blocks.{is_free}
use Rattle.card.specs.Chains.{chain}
use Rattle.card.specs.Cursors.{InCard, Chained}
use Rattle.blocks.specs.Writes.{store}
use Rattle.partitions.specs.Layout.{term_count, header, word_of, encode}
use Rattle.partitions.proofs.Counts.{numbers}
use Rattle.partitions.proofs.Lengths.{terms-most}
use Rattle.outputs.specs.Contents.{written}
use Rattle.outputs.specs.Entries.{entries_onward}
use Rattle.outputs.proofs.Contents.{Blocks}
use Rattle.outputs.proofs.Free.{link-stored}
use Rattle.outputs.proofs.Whole.{partition-stored}

-- a block of the card is a chain of one on every card as long
pub alone-chained : (c c' : List ℕ) (b : ℕ) → length c' ≡ length c → InCard (words c) b → Chained (words c') b 1
unfolding AllOf chain
alone-chained c c' b e g = (record { few = g.few; inside = omega (arith, g.inside, length-words c, length-words c') }, tt)

module _ (W : List ℕ) (n b : ℕ) (ps : List Posting) (long : length W ≡ 1024 * n) (g : InCard W b) (free : is_free W b ≡ true) (few : length ps ≤ 128)
    (o : ordered ps ≡ true) (small : every (λ p. leb p.id 1023) ps ≡ true) where
  -- the link is set, then header, entries and postings are written
  pub alone-stored : (W₁ W₂ W₃ W₄ counts ws : List ℕ) (terms used low high : ℕ) → terms ≡ term_count ps → used ≡ length ps → low ≡ lowest ps → high ≡ highest ps → counts ≡ numbers ps → ws ≡ map word_of ps
      → W₁ ≡ set W (1024 * b + 1023) 65534 → W₂ ≡ written W₁ (chain W₁ b 1) 0 (header 0 terms used low high) → W₃ ≡ written W₂ (chain W₂ b 1) 8 (entries_onward 0 0 counts)
      → W₄ ≡ written W₃ (chain W₃ b 1) (8 + 3 * terms) ws → W₄ ≡ store W (b ∷ []) (encode 0 ps)
  unfolding chain
  alone-stored W₁ W₂ W₃ W₄ counts ws terms used low high t u lo hi c w e₁ e₂ e₃ e₄ =
      let bs : Blocks (b ∷ []) n = record { on = and_both (ltb b n) true (lt-ltb b n (omega (arith, g.inside))) refl; new = refl; some = omega arith } in
      let start : W₁ ≡ store W (b ∷ []) [] = e₁ ∙ link-stored W b g.inside free in
      e₄ ∙ rw (e₃, e₂, start, t, u, lo, hi, w) (partition-stored W (b ∷ []) n long bs ps o small (omega (arith, terms-most ps)) 0 counts c)
