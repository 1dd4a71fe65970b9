-- A free block is all ones, so what is put to it is its content and its link.
use Rattle.lists.proofs.Prelude.{true, List, [], ◌∷◌, ◌++◌, inr, ◌≡◌, sym, ◌∙◌, ℕ, ◌+◌, ◌*◌, ◌-◌, ◌/◌, ◌<◌, ◌≤◌, arith, length, set, replicate, length-append, length-replicate, sets, get_or-sets-out}
use Rattle.lists.proofs.Stores.{sets-append, sets_same}
use Rattle.words.specs.Words.{all_ones}
use Rattle.card.specs.Blocks.{no_block, is_free}
use Rattle.blocks.specs.Writes.{put_block, store}
use Rattle.blocks.proofs.FreeBlocks.{free-word}

module _ (W : List ℕ) (b : ℕ) (inside : 1024 * b + 1023 < length W) (free : is_free W b ≡ true) where
  -- a block put to a free one is its content, word by word, and its link
  pub put-free : (c : List ℕ) (next : ℕ) → length c ≤ 1023 → put_block W b c next ≡ set (sets W (1024 * b) c) (1024 * b + 1023) next
  put-free c next h =
      let i = 1024 * b in
      let k = 1023 - length c in
      let r = replicate k all_ones in
      let n : i + length (c ++ r) ≡ i + 1023 = omega (arith, length-append c r, length-replicate k all_ones) in
      let s : sets W i (c ++ r) ≡ sets W i c =
      sets-append W i c r
      ∙ sets_same all_ones 0 k (sets W i c) (i + length c)
      (λ j p q. let d : j / 1024 ≡ b = omega arith in
      get_or-sets-out c W i j 0 (inr p) ∙ free-word W j (omega arith) (rw d free)) in
      sets-append W i (c ++ r) (next ∷ []) ∙ rw (n, s)

  -- so a free block whose link names none is a chain of one that holds nothing
  pub link-stored : set W (1024 * b + 1023) no_block ≡ store W (b ∷ []) []
  unfolding store
  link-stored = sym (put-free [] no_block (omega arith))
