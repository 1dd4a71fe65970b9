-- Free blocks linked one to the next, in the order of taking.
use Rattle.lists.proofs.Prelude.{true, false, not, ◌&&◌, List, [], ◌∷◌, ◌++◌, ◌≡◌, refl, sym, ap, ◌∙◌, ℕ, suc, ◌+◌, ◌-◌, ◌*◌, ◌<◌, ◌≤◌, add-one, arith, eqb, ltb, length, get_or, set, take, drop, length-set, length-append, drop_of_length-le, drop-cons, get_or-take, get_or-set_same, drop-set-lt, length-take-le, eqb-true, eqb-false, ltb-true, ltb-false, keep, every, by-test, and_left, and_right, part-set, every_append, keep-others, keep-both}
use Rattle.words.specs.Words.{all_ones}
use Rattle.card.specs.Blocks.{no_block, block, link, is_free, after_taken, free_blocks}
use Rattle.blocks.specs.Writes.{put_block, store}
use Rattle.blocks.proofs.FreeBlocks.{free-at, free-free, free-different, free-link}
use Rattle.outputs.proofs.Free.{put-free}
use Rattle.outputs.proofs.Turning.{free-turned}

-- a free block's link is set
module _ (W : List ℕ) (n b next : ℕ) (long : length W ≡ 1024 * n) (h : b < n) (l : next < all_ones) (free : is_free W b ≡ true) where
  abbrev W' : List ℕ
  W' = set W (1024 * b + 1023) next

  pub length-linked : length W' ≡ 1024 * n
  length-linked = length-set W (1024 * b + 1023) next ∙ long

  others-kept : (d : ℕ) → (b ≡ d → ⊥) → block W' d ≡ block W d
  others-kept d y =
      by-test (ltb b d)
      (λ t. let q = ltb-true b d t in ap (λ (r : List ℕ). take 1024 r) (drop-set-lt (1024 * d) W (1024 * b + 1023) next (omega arith)))
      (λ f. let q = ltb-false b d f in part-set W (1024 * d) 1024 (1024 * b + 1023) next (omega (arith, y)))

  -- it is free no more
  now-taken : is_free W' b ≡ false
  now-taken =
      by-test (is_free W' b)
      (λ y. let e = free-link W' n b length-linked h y in
      let f : link W' b ≡ next = get_or-set_same W (1024 * b + 1023) next 0 (omega arith) in absurd (omega arith))
      (λ f. f)

  free-others : (d : ℕ) → is_free W' d ≡ (not (eqb d b) && is_free W d)
  free-others d =
      by-test (eqb d b)
      (λ y. rw (y, eqb-true d b y) now-taken)
      (λ f. rw f (ap (every (eqb all_ones)) (others-kept d (λ e. eqb-false d b f (sym e)))))

  -- the other free blocks stay free
  pub free-linked : (last : ℕ) (rest : List ℕ) → free_blocks W n last ≡ (rest ++ (b ∷ [])) ++ (last ∷ []) → free_blocks W' n last ≡ rest ++ (last ∷ [])
  unfolding free_blocks
  free-linked last rest e =
      keep-both (λ d. not (eqb d b)) (is_free W) (is_free W') free-others (after_taken n last)
      ∙ ap (keep (λ d. not (eqb d b))) e
      ∙ keep-others rest b last (rw e at (free-different W n last))

  -- a block put to it without content is its link
  pub put-link : put_block W b [] next ≡ W'
  put-link = put-free W b (omega arith) free [] next (omega arith)

-- count of the m wanted free blocks are found, the last of them `last`; all but that one are linked, and linking the others gives the whole
pub record Linking (W₀ : List ℕ) (n taken m : ℕ) (W : List ℕ) (last count : ℕ) : Type 0 where
  pub some : 1 ≤ count
  pub most : count ≤ m
  pub on : last < n
  pub long : length W ≡ 1024 * n
  pub found : last ≡ get_or (free_blocks W₀ n taken) (count - 1) 0
  pub free : free_blocks W n last ≡ drop count (free_blocks W₀ n taken) ++ (last ∷ [])
  pub rest : store W₀ (take m (free_blocks W₀ n taken)) [] ≡ store W (drop (count - 1) (take m (free_blocks W₀ n taken))) []

module _ (W₀ : List ℕ) (n taken m : ℕ) (t : taken < n) (small : n ≤ 4096) (long₀ : length W₀ ≡ 1024 * n) (enough : m ≤ length (free_blocks W₀ n taken)) where
  abbrev F : List ℕ
  F = free_blocks W₀ n taken

  -- the first is found
  pub linking-start : (first : ℕ) → 1 ≤ m → first ≡ get_or F 0 0 → Linking W₀ n taken m W₀ first 1
  linking-start first h e =
      let k : 0 < length F = omega arith in
      record {
        some = omega arith;
        most = h;
        on = omega (arith, e, (free-at W₀ n taken 0 k).0);
        long = long₀;
        found = e;
        free = free-turned W₀ n taken first (drop 1 F) t (drop-cons F 0 0 k ∙ rw e);
        rest = refl;
      }

  module _ (W : List ℕ) (last count : ℕ) (w : Linking W₀ n taken m W last count) where
    -- some block is found
    pub linking-some : 1 ≤ length (free_blocks W n last)
    linking-some = omega (arith, ap length w.free, length-append (drop count F) (last ∷ []))

    last-free : is_free W last ≡ true
    last-free =
        let e = rw w.free at (free-free W n last) in
        and_left _ _ (and_right (every (is_free W) (drop count F)) _ (sym (every_append (is_free W) (drop count F) (last ∷ [])) ∙ e))

    pub linking-in : 1024 * last + 1023 < length W
    linking-in = omega (arith, w.on, w.long)

    module _ (h : count < m) (next : ℕ) (e : next ≡ get_or (free_blocks W n last) 0 0) where
      turn : drop count F ≡ get_or F count 0 ∷ drop (suc count) F
      turn = drop-cons F count 0 (omega arith)

      is-next : next ≡ get_or F count 0
      is-next = e ∙ rw (w.free, turn)

      -- one more
      pub linking-on : (W₁ : List ℕ) → W₁ ≡ set W (1024 * last + 1023) next → Linking W₀ n taken m W₁ next (count + 1)
      unfolding store
      linking-on W₁ x =
          let k = (free-at W₀ n taken count (omega arith)).0 in
          let nb : next < n = omega (arith, is-next) in
          let q : count + 1 - 1 ≡ count = omega arith in
          let g = free-turned W n last next (drop (suc count) F ++ (last ∷ [])) w.on (w.free ∙ rw (turn, is-next)) in
          let c₁ : suc (count - 1) ≡ count = omega (arith, w.some) in
          let lm : length (take m F) ≡ m = length-take-le m F enough in
          let r₁ : drop (count - 1) (take m F) ≡ last ∷ drop count (take m F) =
          drop-cons (take m F) (count - 1) 0 (omega (arith, w.some)) ∙ rw (get_or-take m F (count - 1) 0 (omega (arith, w.some)), c₁, ← w.found) in
          let r₂ : drop count (take m F) ≡ next ∷ drop (suc count) (take m F) =
          drop-cons (take m F) count 0 (omega arith) ∙ rw (get_or-take m F count 0 h, ← is-next) in
          let p = put-link W n last next w.long w.on (omega arith) last-free in
          record {
            some = omega arith;
            most = omega arith;
            on = nb;
            long = rw x (length-linked W n last next w.long w.on (omega arith) last-free);
            found = rw q is-next;
            free = rw (x, add-one count) (free-linked W n last next w.long w.on (omega arith) last-free next (drop (suc count) F) g);
            rest = w.rest ∙ rw (q, r₁, r₂) (ap (λ (U : List ℕ). store U (next ∷ drop (suc count) (take m F)) []) (p ∙ sym x));
          }

    -- all are found, and the last is linked to none
    pub linking-end : count ≡ m → (W₁ : List ℕ) → W₁ ≡ set W (1024 * last + 1023) no_block → W₁ ≡ store W₀ (take m F) []
    unfolding store
    linking-end h W₁ x =
        let lm : length (take m F) ≡ m = length-take-le m F enough in
        let c₁ : suc (count - 1) ≡ count = omega (arith, w.some) in
        let lc : length (take m F) ≤ count = omega arith in
        let r₀ : drop count (take m F) ≡ [] = drop_of_length-le (take m F) lc in
        let r₁ : drop (count - 1) (take m F) ≡ last ∷ [] =
        drop-cons (take m F) (count - 1) 0 (omega (arith, w.some)) ∙ rw (get_or-take m F (count - 1) 0 (omega (arith, w.some)), c₁, ← w.found, r₀) in
        let p = put-link W n last no_block w.long w.on (omega arith) last-free in
        sym (w.rest ∙ rw r₁ (p ∙ sym x))
