-- Words written into the content of blocks: what that does to a card on which they hold a stored content.
use Rattle.lists.proofs.Prelude.{true, false, true≢false, List, [], ◌∷◌, ◌++◌, append-nil, append_assoc, ◌≡◌, refl, sym, ap, ◌∙◌, ℕ, suc, ◌+◌, ◌-◌, ◌*◌, ◌/◌, ◌%◌, ◌<◌, ◌≤◌, arith, eqb, ltb, length, get_or, set, take, replicate, length-append, length-set, sets, length-sets, get_or-set_same, get_or-set_other, drop-set-lt, ext_get_or, eqb-true, eqb-false, ltb-true, ltb-false, eq-eqb, elem, different, by-test, elem-place, part-set, every-at}
use Rattle.lists.proofs.Distinct.{different-at}
use Rattle.lists.proofs.Padding.{padded-add, padded-set}
use Rattle.lists.proofs.Places.{any_at}
use Rattle.words.specs.Words.{all_ones}
use Rattle.card.specs.Blocks.{block, on_card}
use Rattle.card.specs.Chains.{chain, chain_rule, content}
use Rattle.blocks.specs.Writes.{store}
use Rattle.card.proofs.Links.{chained-link, length-content, content-at}
use Rattle.blocks.proofs.Stores.{length-store, store_apart}
use Rattle.blocks.proofs.Stored.{chain-stored, rule-stored, content-stored}
use Rattle.blocks.proofs.ByteRule.{word_kept}
use Rattle.outputs.specs.Contents.{spot_of, written}
use Rattle.outputs.proofs.Writing.{chain-set, rule-set}

-- A card that is a store -------------------------------------------------------------------------------------------

-- blocks bs of a card of n blocks: on the card, different, at least one
pub record Blocks (bs : List ℕ) (n : ℕ) : Type 0 where
  pub on : on_card n bs ≡ true
  pub new : different bs ≡ true
  pub some : 1 ≤ length bs

-- on W' blocks bs are chained and hold this content, and every other block is as on W
pub record Holds (W W' bs c : List ℕ) (n : ℕ) : Type 0 where
  pub long : length W' ≡ length W
  pub links : chain W' (get_or bs 0 0) (length bs) ≡ bs
  pub rule : chain_rule W' n (get_or bs 0 0) (length bs) ≡ true
  pub full : content W' bs ≡ c ++ replicate (1023 * length bs - length c) all_ones
  pub others : (d : ℕ) → elem d bs ≡ false → block W' d ≡ block W d

module _ (W bs : List ℕ) (n : ℕ) (long : length W ≡ 1024 * n) (b : Blocks bs n) where
  -- a store is such a card
  pub store-holds : (c : List ℕ) → length c ≤ 1023 * length bs → Holds W (store W bs c) bs c n
  store-holds c room =
      record {
        long = length-store W bs c;
        links = chain-stored W bs c n long b.on b.new;
        rule = rule-stored W bs c n long b.on b.new b.some;
        full = content-stored W bs c n long b.on b.new room;
        others = store_apart W bs c;
      }

  -- and there is one such card alone
  module _ (c W₁ W₂ : List ℕ) (h₁ : Holds W W₁ bs c n) (h₂ : Holds W W₂ bs c n) where
    same_word : (k j : ℕ) → j < length bs → get_or bs j 0 ≡ k / 1024 → get_or W₁ k 0 ≡ get_or W₂ k 0
    same_word k j h e =
        let z : 1024 * get_or bs j 0 + k % 1024 ≡ k = omega arith in
        by-test (ltb (k % 1024) 1023)
        (λ y. let l = ltb-true (k % 1024) 1023 y in
        let a₁ = rw z at (content-at W₁ n bs (h₁.long ∙ long) b.on j (k % 1024) h l) in
        let a₂ = rw z at (content-at W₂ n bs (h₂.long ∙ long) b.on j (k % 1024) h l) in
        sym a₁ ∙ ap (λ (x : List ℕ). get_or x (1023 * j + k % 1024) 0) (h₁.full ∙ sym h₂.full) ∙ a₂)
        (λ f. let q : k % 1024 ≡ 1023 = omega (arith, ltb-false (k % 1024) 1023 f) in
        let g : 1024 * get_or bs j 0 + 1023 ≡ k = omega arith in
        let l₁ = chained-link W₁ bs n (get_or bs 0 0) h₁.links h₁.rule j h in
        let l₂ = chained-link W₂ bs n (get_or bs 0 0) h₂.links h₂.rule j h in
        rw g at (l₁ ∙ sym l₂))

    pub holds_same : W₁ ≡ W₂
    holds_same =
        ext_get_or 0 W₁ W₂ (h₁.long ∙ sym h₂.long)
        (λ k l. by-test (elem (k / 1024) bs)
        (λ y. let p = elem-place bs (k / 1024) y in same_word k p.0 p.1.0 p.1.1)
        (λ f. word_kept W W₁ k (h₁.others (k / 1024) f) ∙ sym (word_kept W W₂ k (h₂.others (k / 1024) f))))

  -- so a card on which the blocks hold a content is that content stored
  pub holds-store : (c W' : List ℕ) → length c ≤ 1023 * length bs → Holds W W' bs c n → W' ≡ store W bs c
  holds-store c W' room h = holds_same c W' (store W bs c) h (store-holds c room)

-- One word ---------------------------------------------------------------------------------------------------------

module _ (bs : List ℕ) (n : ℕ) (b : Blocks bs n) (k v : ℕ) (h : k < 1023 * length bs) where
  place : k / 1023 < length bs
  place = omega arith

  on-card : get_or bs (k / 1023) 0 < n
  on-card = ltb-true (get_or bs (k / 1023) 0) n (every-at (λ d. ltb d n) bs 0 b.on (k / 1023) place)

  module _ (W : List ℕ) (long : length W ≡ 1024 * n) where
    abbrev U' : List ℕ
    U' = set W (spot_of bs k) v

    length-spot : length U' ≡ length W
    length-spot = length-set W (spot_of bs k) v

    -- a word of the content is set
    content-spot : content U' bs ≡ set (content W bs) k v
    content-spot =
        let l = length-content W n bs long b.on in
        let l' = length-content U' n bs (length-spot ∙ long) b.on in
        ext_get_or 0 (content U' bs) (set (content W bs) k v) (l' ∙ sym (length-set (content W bs) k v ∙ l))
        (λ i p. let q : i < 1023 * length bs = omega arith in
        let e : 1023 * (i / 1023) + i % 1023 ≡ i = omega arith in
        let a' = rw e at (content-at U' n bs (length-spot ∙ long) b.on (i / 1023) (i % 1023) (omega arith) (omega arith)) in
        let a = rw e at (content-at W n bs long b.on (i / 1023) (i % 1023) (omega arith) (omega arith)) in
        by-test (eqb i k)
        (λ y. let s = eqb-true i k y in
        let o = on-card in
        rw s (rw s at a' ∙ get_or-set_same W (spot_of bs k) v 0 (omega arith) ∙ sym (get_or-set_same (content W bs) k v 0 (omega arith))))
        (λ f. let s = eqb-false i k f in
        a'
        ∙ get_or-set_other W (spot_of bs k) (1024 * get_or bs (i / 1023) 0 + i % 1023) v 0
        (λ t. s (let u : get_or bs (i / 1023) 0 ≡ get_or bs (k / 1023) 0 = omega arith in
        let w = different-at bs (i / 1023) (k / 1023) b.new (omega arith) place u in omega arith))
        ∙ sym a ∙ sym (get_or-set_other (content W bs) k i v 0 s)))

    -- every other block stays
    block-spot : (d : ℕ) → elem d bs ≡ false → block U' d ≡ block W d
    block-spot d m =
        let e = get_or bs (k / 1023) 0 in
        let y : e ≡ d → ⊥ = λ q. true≢false (sym (any_at (λ i. eqb i d) bs 0 (k / 1023) place (eq-eqb e d q)) ∙ m) in
        by-test (ltb e d)
        (λ t. let l = ltb-true e d t in ap (λ (r : List ℕ). take 1024 r) (drop-set-lt (1024 * d) W (spot_of bs k) v (omega arith)))
        (λ f. let l = ltb-false e d f in part-set W (1024 * d) 1024 (spot_of bs k) v (omega (arith, y)))

  -- the blocks hold the content with that word set
  module _ (W U c : List ℕ) (long : length W ≡ 1024 * n) (g : Holds W U bs c n) where
    abbrev U₁ : List ℕ
    U₁ = set U (spot_of bs k) v

    long-spot : length U ≡ 1024 * n
    long-spot = g.long ∙ long

    holds-spot : (c' : List ℕ) → set (c ++ replicate (1023 * length bs - length c) all_ones) k v ≡ c' ++ replicate (1023 * length bs - length c') all_ones
        → Holds W U₁ bs c' n
    holds-spot c' e =
        let d = get_or bs (k / 1023) 0 in
        let r : k % 1023 < 1023 = omega arith in
        record {
          long = length-spot U long-spot ∙ g.long;
          links = chain-set U d (k % 1023) v r (get_or bs 0 0) (length bs) ∙ g.links;
          rule = rule-set U d (k % 1023) v r n (get_or bs 0 0) (length bs) ∙ g.rule;
          full = content-spot U long-spot ∙ ap (λ (l : List ℕ). set l k v) g.full ∙ e;
          others = λ d m. block-spot U long-spot d m ∙ g.others d m;
        }

    -- where it is a word of it
    holds-set : k < length c → length c ≤ 1023 * length bs → Holds W U₁ bs (set c k v) n
    holds-set q r = holds-spot (set c k v) (padded-set all_ones (1023 * length bs) c _ k v refl q)

    -- or comes past it
    holds-add : k ≡ length c → Holds W U₁ bs (c ++ (v ∷ [])) n
    holds-add q = holds-spot (c ++ (v ∷ [])) (padded-add all_ones (1023 * length bs) c _ k v refl q (omega arith))

-- Many words -------------------------------------------------------------------------------------------------------

module _ (W bs : List ℕ) (n : ℕ) (long : length W ≡ 1024 * n) (b : Blocks bs n) where
  -- words written over words of the content
  pub holds-over : (U c : List ℕ) (k : ℕ) (vs : List ℕ) → length c ≤ 1023 * length bs → k + length vs ≤ length c → Holds W U bs c n
      → Holds W (written U bs k vs) bs (sets c k vs) n
  holds-over U c k [] room h g = g
  holds-over U c k (v ∷ vs) room h g =
      holds-over (set U (spot_of bs k) v) (set c k v) (suc k) vs (omega (arith, length-set c k v)) (omega (arith, length-set c k v))
      (holds-set bs n b k v (omega arith) W U c long g (omega arith) room)

  -- words written past the content
  pub holds-past : (U c vs : List ℕ) → length c + length vs ≤ 1023 * length bs → Holds W U bs c n → Holds W (written U bs (length c) vs) bs (c ++ vs) n
  holds-past U c [] room g = rw append-nil g
  holds-past U c (v ∷ vs) room g =
      let e : length (c ++ (v ∷ [])) ≡ suc (length c) = omega (arith, length-append c (v ∷ [])) in
      let r = holds-past (set U (spot_of bs (length c)) v) (c ++ (v ∷ [])) vs (omega arith) (holds-add bs n b (length c) v (omega arith) W U c long g refl) in
      rw (e, append_assoc) at r

  -- Stored content -----------------------------------------------------------------------------------------------------

  -- words written past a stored content
  pub store-past : (c vs : List ℕ) → length c + length vs ≤ 1023 * length bs → written (store W bs c) bs (length c) vs ≡ store W bs (c ++ vs)
  store-past c vs room =
      holds-store W bs n long b (c ++ vs) (written (store W bs c) bs (length c) vs) (omega (arith, length-append c vs))
      (holds-past (store W bs c) c vs room (store-holds W bs n long b c (omega arith)))

  -- words written over words of it
  pub store-over : (c : List ℕ) (k : ℕ) (vs : List ℕ) → length c ≤ 1023 * length bs → k + length vs ≤ length c → written (store W bs c) bs k vs ≡ store W bs (sets c k vs)
  store-over c k vs room h =
      holds-store W bs n long b (sets c k vs) (written (store W bs c) bs k vs) (omega (arith, length-sets c k vs))
      (holds-over (store W bs c) c k vs room h (store-holds W bs n long b c room))

  -- what is stored over a stored content
  pub store-twice : (c d : List ℕ) → length d ≤ 1023 * length bs → store (store W bs c) bs d ≡ store W bs d
  store-twice c d room =
      let l = length-store W bs c in
      let g = store-holds (store W bs c) bs n (l ∙ long) b d room in
      holds-store W bs n long b d (store (store W bs c) bs d) room
      (record { long = g.long ∙ l; links = g.links; rule = g.rule; full = g.full; others = λ e m. g.others e m ∙ store_apart W bs c e m })
