-- What is stored along blocks is read back: the chain, its rule, and the content with its padding.
use Rattle.lists.proofs.Prelude.{true, false, not, List, [], ◌∷◌, ◌++◌, append-nil, ◌≡◌, refl, sym, ap, ap₂, ◌∙◌, ℕ, suc, ◌+◌, ◌*◌, ◌-◌, ◌<◌, ◌≤◌, arith, ltb, length, get_or, take, drop, replicate, length-append, length-replicate, length-drop, sets, take_at, get_or_at, take_all, ltb-true, not-true, lt-ltb, eq-eqb, elem, different, and_left, and_right, and_both, sets-back, pad-split}
use Rattle.words.specs.Words.{all_ones}
use Rattle.card.specs.Blocks.{no_block, block, content_of, link, on_card}
use Rattle.card.specs.Chains.{chain, chain_rule, content}
use Rattle.blocks.specs.Writes.{put_block, store}
use Rattle.card.proofs.Links.{link-block}
use Rattle.blocks.proofs.Stores.{length-laid, short, length-put, store_apart}

-- One block --------------------------------------------------------------------------------------------------------

-- the words that a block is written with: content, all ones, and the link
abbrev laid : List ℕ → ℕ → List ℕ
laid c next = c ++ replicate (1023 - length c) all_ones ++ (next ∷ [])

-- their content, and their link
laid-content : (c : List ℕ) (next : ℕ) → length c ≤ 1023 → take 1023 (laid c next) ≡ c ++ replicate (1023 - length c) all_ones
laid-content c next h =
    take_at (c ++ replicate (1023 - length c) all_ones) (next ∷ []) 1023
    (omega (arith, length-append c (replicate (1023 - length c) all_ones), length-replicate (1023 - length c) all_ones))

laid-link : (c : List ℕ) (next : ℕ) → length c ≤ 1023 → get_or (laid c next) 1023 0 ≡ next
laid-link c next h =
    get_or_at (c ++ replicate (1023 - length c) all_ones) next [] 0 1023
    (omega (arith, length-append c (replicate (1023 - length c) all_ones), length-replicate (1023 - length c) all_ones))

module _ (W : List ℕ) (b n : ℕ) (long : length W ≡ 1024 * n) (h : b < n) where
  -- a block of the card that was written over
  pub block_back : (vs : List ℕ) → length vs ≡ 1024 → block (sets W (1024 * b) vs) b ≡ vs
  block_back vs e = sets-back W (1024 * b) 1024 vs e (omega arith)

-- Many blocks ------------------------------------------------------------------------------------------------------

-- the block that the blocks bs link the one before them to
abbrev next_of : List ℕ → ℕ
next_of [] = no_block
next_of (d ∷ bs) = d

-- the first of the blocks after a store
first_block : (W : List ℕ) (b : ℕ) (bs c : List ℕ) (n : ℕ) → length W ≡ 1024 * n → b < n → elem b bs ≡ false
    → block (store W (b ∷ bs) c) b ≡ laid (take 1023 c) (next_of bs)
unfolding store
first_block W b [] c n long h m = block_back W b n long h (laid (take 1023 c) no_block) (length-laid all_ones (take 1023 c) no_block (short c))
first_block W b (d ∷ bs) c n long h m =
    store_apart (put_block W b (take 1023 c) d) (d ∷ bs) (drop 1023 c) b m
    ∙ block_back W b n long h (laid (take 1023 c) d) (length-laid all_ones (take 1023 c) d (short c))

module _ (W : List ℕ) (b : ℕ) (bs c : List ℕ) (n : ℕ) (long : length W ≡ 1024 * n) (h : b < n) (m : elem b bs ≡ false) where
  first-link : link (store W (b ∷ bs) c) b ≡ next_of bs
  first-link =
      link-block (store W (b ∷ bs) c) b ∙ ap (λ (r : List ℕ). get_or r 1023 0) (first_block W b bs c n long h m)
      ∙ laid-link (take 1023 c) (next_of bs) (short c)

  first-content : content_of (store W (b ∷ bs) c) b ≡ take 1023 c ++ replicate (1023 - length (take 1023 c)) all_ones
  first-content = ap (λ (r : List ℕ). take 1023 r) (first_block W b bs c n long h m) ∙ laid-content (take 1023 c) (next_of bs) (short c)

-- what is asked of the blocks, for the first and for the rest
head-on : (n b : ℕ) (bs : List ℕ) → on_card n (b ∷ bs) ≡ true → b < n
head-on n b bs o = ltb-true b n (and_left (ltb b n) _ o)

rest-on : (n b : ℕ) (bs : List ℕ) → on_card n (b ∷ bs) ≡ true → on_card n bs ≡ true
rest-on n b bs o = and_right (ltb b n) _ o

head-new : (b : ℕ) (bs : List ℕ) → different (b ∷ bs) ≡ true → elem b bs ≡ false
head-new b bs d = not-true (elem b bs) (and_left (not (elem b bs)) _ d)

rest-different : (b : ℕ) (bs : List ℕ) → different (b ∷ bs) ≡ true → different bs ≡ true
rest-different b bs d = and_right (not (elem b bs)) _ d

-- the chain is the blocks
pub chain-stored : (W bs c : List ℕ) (n : ℕ) → length W ≡ 1024 * n → on_card n bs ≡ true → different bs ≡ true
    → chain (store W bs c) (get_or bs 0 0) (length bs) ≡ bs
unfolding store chain
chain-stored W [] c n long o d = refl
chain-stored W (b ∷ []) c n long o d = refl
chain-stored W (b ∷ e ∷ bs) c n long o d =
    let W' = put_block W b (take 1023 c) e in
    let l : length W' ≡ 1024 * n = length-put W b (take 1023 c) e ∙ long in
    let k = first-link W b (e ∷ bs) c n long (head-on n b (e ∷ bs) o) (head-new b (e ∷ bs) d) in
    ap (λ (r : List ℕ). b ∷ r)
    (ap (λ (j : ℕ). chain (store W' (e ∷ bs) (drop 1023 c)) j (suc (length bs))) k
    ∙ chain-stored W' (e ∷ bs) (drop 1023 c) n l (rest-on n b (e ∷ bs) o) (rest-different b (e ∷ bs) d))

-- and keeps the rule of chains
pub rule-stored : (W bs c : List ℕ) (n : ℕ) → length W ≡ 1024 * n → on_card n bs ≡ true → different bs ≡ true → 1 ≤ length bs
    → chain_rule (store W bs c) n (get_or bs 0 0) (length bs) ≡ true
unfolding store chain_rule
rule-stored W [] c n long o d s = absurd (omega arith)
rule-stored W (b ∷ []) c n long o d s =
    let h = head-on n b [] o in
    let k = first-link W b [] c n long h refl in
    and_both (ltb b n) _ (lt-ltb b n h) (eq-eqb _ no_block k)
rule-stored W (b ∷ e ∷ bs) c n long o d s =
    let W' = put_block W b (take 1023 c) e in
    let l : length W' ≡ 1024 * n = length-put W b (take 1023 c) e ∙ long in
    let h = head-on n b (e ∷ bs) o in
    let k = first-link W b (e ∷ bs) c n long h (head-new b (e ∷ bs) d) in
    and_both (ltb b n) _ (lt-ltb b n h)
    (ap (λ (j : ℕ). chain_rule (store W' (e ∷ bs) (drop 1023 c)) n j (suc (length bs))) k
    ∙ rule-stored W' (e ∷ bs) (drop 1023 c) n l (rest-on n b (e ∷ bs) o) (rest-different b (e ∷ bs) d) (omega arith))

-- the content is what was stored, padded
pub content-stored : (W bs c : List ℕ) (n : ℕ) → length W ≡ 1024 * n → on_card n bs ≡ true → different bs ≡ true → length c ≤ 1023 * length bs
    → content (store W bs c) bs ≡ c ++ replicate (1023 * length bs - length c) all_ones
unfolding store content
content-stored W [] [] n long o d s = refl
content-stored W [] (x ∷ c) n long o d s = absurd (omega arith)
content-stored W (b ∷ []) c n long o d s =
    let t : take 1023 c ≡ c = take_all 1023 c (omega arith) in
    append-nil _ ∙ first-content W b [] c n long (head-on n b [] o) refl ∙ rw t
content-stored W (b ∷ e ∷ bs) c n long o d s =
    let W' = put_block W b (take 1023 c) e in
    let l : length W' ≡ 1024 * n = length-put W b (take 1023 c) e ∙ long in
    let k = suc (length bs) in
    let m : 1023 * suc k ≡ 1023 + 1023 * k = omega arith in
    ap₂ (λ (r s : List ℕ). r ++ s) (first-content W b (e ∷ bs) c n long (head-on n b (e ∷ bs) o) (head-new b (e ∷ bs) d))
    (content-stored W' (e ∷ bs) (drop 1023 c) n l (rest-on n b (e ∷ bs) o) (rest-different b (e ∷ bs) d) (omega (arith, length-drop 1023 c)))
    ∙ pad-split all_ones 1023 (1023 * k) c ∙ ap (λ (j : ℕ). c ++ replicate (j - length c) all_ones) (sym m)
