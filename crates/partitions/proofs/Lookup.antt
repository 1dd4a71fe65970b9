-- What the rules say of a partition that is read: its header, its entries, and the postings of one identifier.
use Rattle.lists.proofs.Prelude.{true, ◌&&◌, List, [], ◌∷◌, map, ◌≡◌, refl, sym, ap, ◌∙◌, ℕ, zero, suc, ◌+◌, ◌*◌, ◌<◌, ◌≤◌, arith, eqb, ltb, leb, length, get_or, take, drop, length-map, length-take, length-drop, ltb-true, leb-true, eqb-true, eq-eqb, ne_eqb, every, total_by, same, up_to, and_left, and_right, every-at, same_true, every-up_to, length-rising, total-rising, up_to-at, total-map, length-all}
use Rattle.postings.specs.Pack.{posted}
use Rattle.postings.specs.Sums.{under}
use Rattle.state.specs.declared.Partition.{Partition}
use Rattle.card.specs.Chains.{blocks_for, chain_rule, content}
use Rattle.card.proofs.Links.{length-chain, rule-on, length-content}
use Rattle.partitions.specs.Layout.{total_length}
use Rattle.partitions.specs.Reading.{field, entry_number, entry_count, entry_start, posting_words, list_of, decode, chain_of, postings_of}
use Rattle.partitions.specs.Formed.{header_rule, ascending, running, entries_rule, partition_rule}
use Rattle.partitions.proofs.Lengths.{blocks-hold}

-- The three parts of the rule --------------------------------------------------------------------------------------

module _ (W : List ℕ) (limit : ℕ) (p : Partition) (e : partition_rule W limit p ≡ true) where
  -- the rule of its chain
  pub rule-chain : chain_rule W limit p.first (blocks_for p.length) ≡ true
  unfolding partition_rule
  rule-chain = and_left (chain_rule W limit p.first (blocks_for p.length)) _ e

  rule-words : (header_rule p (content W (chain_of W p)) && entries_rule (content W (chain_of W p))) ≡ true
  unfolding partition_rule
  rule-words = and_right (chain_rule W limit p.first (blocks_for p.length)) _ e

  -- of its header
  pub rule-header : header_rule p (content W (chain_of W p)) ≡ true
  rule-header = and_left (header_rule p (content W (chain_of W p))) _ rule-words

  -- and of its entries
  pub rule-entries : entries_rule (content W (chain_of W p)) ≡ true
  rule-entries = and_right (header_rule p (content W (chain_of W p))) _ rule-words

-- The header -------------------------------------------------------------------------------------------------------

-- what a header says that keeps the rule
pub record Headed (p : Partition) (c : List ℕ) : Type 0 where
  pub terms : 1 ≤ field c 0
  pub postings : 1 ≤ field c 1
  pub entries : field c 2 ≡ 32
  pub lists : field c 3 ≡ 32 + 12 * field c 0
  pub total : field c 4 ≡ total_length (field c 0) (field c 1)
  pub long : p.length ≡ total_length (field c 0) (field c 1)
  pub level : field c 5 ≡ p.level
  pub lowest : field c 6 ≡ p.lowest
  pub highest : field c 7 ≡ p.highest

-- the rule says all of it
pub headed : (p : Partition) (c : List ℕ) → header_rule p c ≡ true → Headed p c
headed p c e =
    let e1 = and_right (leb 1 (field c 0)) _ e in
    let e2 = and_right (leb 1 (field c 1)) _ e1 in
    let e3 = and_right (eqb (field c 2) 32) _ e2 in
    let e4 = and_right (eqb (field c 3) (32 + 12 * field c 0)) _ e3 in
    let e5 = and_right (eqb (field c 4) (total_length (field c 0) (field c 1))) _ e4 in
    let e6 = and_right (eqb (field c 4) p.length) _ e5 in
    let e7 = and_right (eqb (field c 5) p.level) _ e6 in
    let t = eqb-true (field c 4) (total_length (field c 0) (field c 1)) (and_left _ _ e4) in
    record {
      terms = leb-true 1 (field c 0) (and_left _ _ e);
      postings = leb-true 1 (field c 1) (and_left _ _ e1);
      entries = eqb-true (field c 2) 32 (and_left _ _ e2);
      lists = eqb-true (field c 3) (32 + 12 * field c 0) (and_left _ _ e3);
      total = t;
      long = sym (eqb-true (field c 4) p.length (and_left _ _ e5)) ∙ t;
      level = eqb-true (field c 5) p.level (and_left _ _ e6);
      lowest = eqb-true (field c 6) p.lowest (and_left _ _ e7);
      highest = eqb-true (field c 7) p.highest (and_right (eqb (field c 6) p.lowest) _ e7);
    }

-- The entries ------------------------------------------------------------------------------------------------------

-- rising numbers, by their places
pub ascending-at : (l : List ℕ) → ascending l ≡ true → (i j : ℕ) → i < j → j < length l → get_or l i 0 < get_or l j 0
ascending-at [] o i j a b = absurd (omega arith)
ascending-at (n ∷ l) o i zero a b = absurd (omega arith)
ascending-at (n ∷ l) o zero (suc j) a b =
    ltb-true n (get_or l j 0) (every-at (ltb n) l 0 (and_left (every (ltb n) l) _ o) j (omega arith))
ascending-at (n ∷ l) o (suc i) (suc j) a b = ascending-at l (and_right (every (ltb n) l) _ o) i j (omega arith) (omega arith)

-- a sum so far and its count, by their places: the first sum, the next one, and the sum of all
running-first : (n : ℕ) (l : List ℕ) → 0 < length l → get_or (running n l) 0 0 ≡ n
running-first n [] h = absurd (omega arith)
running-first n (k ∷ l) h = refl

running-next : (n : ℕ) (l : List ℕ) (j : ℕ) → suc j < length l → get_or (running n l) (suc j) 0 ≡ get_or (running n l) j 0 + get_or l j 0
running-next n [] j h = absurd (omega arith)
running-next n (k ∷ l) zero h = running-first (n + k) l (omega arith)
running-next n (k ∷ l) (suc j) h = running-next (n + k) l j (omega arith)

running-within : (n : ℕ) (l : List ℕ) (j : ℕ) → j < length l → get_or (running n l) j 0 + get_or l j 0 ≤ n + total_by (λ k. k) l
running-within n [] j h = absurd (omega arith)
running-within n (k ∷ l) zero h = omega arith
running-within n (k ∷ l) (suc j) h = omega (arith, running-within (n + k) l j (omega arith))

-- what entries say that keep the rule
pub record Entered (c : List ℕ) : Type 0 where
  pub rise : (i j : ℕ) → i < j → j < field c 0 → entry_number c i < entry_number c j
  pub most : (j : ℕ) → j < field c 0 → entry_number c j ≤ 1023
  pub some : (j : ℕ) → j < field c 0 → 1 ≤ entry_count c j
  pub start : 0 < field c 0 → entry_start c 0 ≡ 0
  pub next : (j : ℕ) → suc j < field c 0 → entry_start c (suc j) ≡ entry_start c j + entry_count c j
  pub within : (j : ℕ) → j < field c 0 → entry_start c j + entry_count c j ≤ field c 1
  pub whole : total_by (entry_count c) (up_to (field c 0)) ≡ field c 1

-- the rule says all of it
pub entered : (c : List ℕ) → entries_rule c ≡ true → Entered c
entered c e =
    let k = field c 0 in
    let ns = map (entry_number c) (up_to k) in
    let cs = map (entry_count c) (up_to k) in
    let fs = map (entry_start c) (up_to k) in
    let e1 = and_right (ascending ns) _ e in
    let e2 = and_right (every (λ j. leb (entry_number c j) 1023) (up_to k)) _ e1 in
    let e3 = and_right (every (λ j. leb 1 (entry_count c j)) (up_to k)) _ e2 in
    let r : fs ≡ running 0 cs = same_true fs (running 0 cs) (and_left _ _ e3) in
    let t : total_by (entry_count c) (up_to k) ≡ field c 1 =
    eqb-true (total_by (entry_count c) (up_to k)) (field c 1) (and_right (same fs (running 0 cs)) _ e3) in
    let u : total_by (λ m. m) cs ≡ total_by (entry_count c) (up_to k) = total-map (λ m. m) (entry_count c) (up_to k) in
    let ln : length ns ≡ k = length-map (up_to k) (entry_number c) ∙ length-rising 0 k in
    let lc : length cs ≡ k = length-map (up_to k) (entry_count c) ∙ length-rising 0 k in
    let f : (j : ℕ) → j < k → entry_start c j ≡ get_or (running 0 cs) j 0 =
    λ j h. sym (up_to-at (entry_start c) k j 0 h) ∙ ap (λ (l : List ℕ). get_or l j 0) r in
    let n : (j : ℕ) → j < k → get_or cs j 0 ≡ entry_count c j = λ j h. up_to-at (entry_count c) k j 0 h in
    record {
      rise = λ i j a b.
          rw (up_to-at (entry_number c) k i 0 (omega arith), up_to-at (entry_number c) k j 0 b) at (ascending-at ns (and_left (ascending ns) _ e) i j a (omega arith));
      most = λ j h. leb-true (entry_number c j) 1023 (every-up_to (λ j. leb (entry_number c j) 1023) k (and_left _ _ e1) j h);
      some = λ j h. leb-true 1 (entry_count c j) (every-up_to (λ j. leb 1 (entry_count c j)) k (and_left _ _ e2) j h);
      start = λ h. f 0 h ∙ running-first 0 cs (omega arith);
      next = λ j h. omega (arith, f (suc j) h, f j (omega arith), n j (omega arith), running-next 0 cs j (omega arith));
      within = λ j h. omega (arith, f j h, n j h, running-within 0 cs j (omega arith));
      whole = t;
    }

-- One identifier ---------------------------------------------------------------------------------------------------

-- the postings of one entry under a number: all under its own
pub under-own : (i : ℕ) (ws : List ℕ) → under i (map (posted i) ws) ≡ map (posted i) ws
under-own i [] = refl
under-own i (w ∷ ws) = rw (eq-eqb i i refl, under-own i ws)

-- and none under another
pub under-other : (n i : ℕ) (ws : List ℕ) → (n ≡ i → ⊥) → under i (map (posted n) ws) ≡ []
under-other n i [] h = refl
under-other n i (w ∷ ws) h = rw (ne_eqb n i h) (under-other n i ws h)

-- How many ---------------------------------------------------------------------------------------------------------

-- where the content has the words that the header speaks of
module _ (c : List ℕ) (e : entries_rule c ≡ true) (h : 8 + 3 * field c 0 + field c 1 ≤ length c) where
  -- an entry's list is as long as it says
  pub length-list : (j : ℕ) → j < field c 0 → length (list_of c j) ≡ entry_count c j
  length-list j a =
      let d = drop (entry_start c j) (posting_words c) in
      omega (
        arith,
        (entered c e).within j a,
        length-map (take (entry_count c j) d) (posted (entry_number c j)),
        length-take (entry_count c j) d,
        length-drop (entry_start c j) (posting_words c),
        length-drop (8 + 3 * field c 0) c,
      )

  -- and there are as many postings as the header says
  pub length-decode : length (decode c) ≡ field c 1
  unfolding decode
  length-decode =
      length-all (list_of c) (up_to (field c 0))
      ∙ total-rising (λ j. length (list_of c j)) (entry_count c) 0 (field c 0) (λ j a b. length-list j (omega arith)) ∙ (entered c e).whole

-- On a card --------------------------------------------------------------------------------------------------------

module _ (W : List ℕ) (limit : ℕ) (p : Partition) (e : partition_rule W limit p ≡ true) where
  -- its blocks have all of its words
  pub words-room : length W ≡ 1024 * limit → 8 + 3 * field (content W (chain_of W p)) 0 + field (content W (chain_of W p)) 1 ≤ length (content W (chain_of W p))
  words-room long =
      let bs = chain_of W p in
      let on = rule-on W limit p.first (blocks_for p.length) (rule-chain W limit p e) in
      let h = headed p (content W bs) (rule-header W limit p e) in
      omega (
        arith,
        h.long,
        length-content W limit bs long on,
        length-chain W p.first (blocks_for p.length),
        blocks-hold p.length,
      )

  -- and it has as many postings as its header says
  pub length-postings : length W ≡ 1024 * limit → length (postings_of W p) ≡ field (content W (chain_of W p)) 1
  unfolding postings_of
  length-postings long = length-decode (content W (chain_of W p)) (rule-entries W limit p e) (words-room long)
