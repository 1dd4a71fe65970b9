-- The head of a reader: what is there, and what is taken of it under a key.
use Rattle.lists.proofs.Prelude.{Bool, true, false, cond, ◌&&◌, List, [], ◌∷◌, ◌≡◌, refl, ℕ, zero, suc, ◌<◌, arith, ltb, eqb, lt-ltb, le-ltb, eq-eqb}
use Rattle.keyed.specs.Keys.{rest, head_val, head_fine}
use Rattle.postings.specs.Pack.{word_count, is_posting}
use Rattle.card.specs.Cursors.{head_of}
use Rattle.partitions.specs.declared.Reader.{Reader}
use Rattle.partitions.specs.Readers.{GoodReader, first_ahead, moved_reader}
use Rattle.partitions.proofs.Readers.{reader-more, reader-none}
use Rattle.kway.proofs.Stored.{fine-rule}
use Rattle.scans.specs.Keys.{item_of}
use Rattle.scans.specs.Items.{items, head_key, rest_reader}

module _ (W : List ℕ) where
  -- the head, and what comes after it
  pub items_more : (r : Reader) → 0 < r.postings.left → GoodReader W r → items W r ≡ item_of (first_ahead W r) ∷ items W (moved_reader W r)
  unfolding items
  items_more r h g = rw (reader-more W r h g)

  -- a spent reader has no head
  pub items-none : (r : Reader) → r.postings.left ≡ 0 → items W r ≡ []
  unfolding items
  items-none r e = rw (reader-none W r e)

  -- past the head under a key
  pub items-rest : (k : ℕ) (r : Reader) → GoodReader W r → items W (rest_reader W k r) ≡ rest k (items W r)
  unfolding rest_reader
  items-rest k r g = go r.postings.left refl
    where
      pick : (t : Bool) → items W (cond t (moved_reader W r) r) ≡ cond t (items W (moved_reader W r)) (items W r)
      pick true = refl
      pick false = refl

      go : (n : ℕ) → r.postings.left ≡ n → items W (cond (ltb 0 r.postings.left && eqb (head_key W r) k) (moved_reader W r) r) ≡ rest k (items W r)
      go zero e = rw (le-ltb 0 r.postings.left (omega arith), items-none r e)
      go (suc n) e = let h : 0 < r.postings.left = omega arith in rw (lt-ltb 0 r.postings.left h, pick (eqb (head_key W r) k), items_more r h g)

  module _ (k : ℕ) (r : Reader) where
    module _ (h : 0 < r.postings.left) (g : GoodReader W r) where
      -- a head with the key is taken
      pub take_head : head_key W r ≡ k
          → (moved_reader W r ≡ rest_reader W k r) × (word_count (head_of W r.postings) ≡ head_val k (items W r)) × (is_posting (head_of W r.postings) ≡ head_fine k (items W r))
      unfolding rest_reader
      take_head e =
          let t = eq-eqb _ _ e in
          let n = items_more r h g in
          (rw (lt-ltb 0 r.postings.left h, t), rw (n, t), rw (n, t) (fine-rule r.id (head_of W r.postings)))
