-- From the words that an identifier's heads have to come to what is stored under it.
use Rattle.lists.proofs.Prelude.{Bool, true, cond, ◌&&◌, and-true, List, [], ◌∷◌, ◌++◌, map, ◌≡◌, refl, sym, ap, ap₂, ◌∙◌, ℕ, zero, suc, ◌+◌, ◌-◌, ◌/◌, ◌%◌, ◌≤◌, arith, ltb, eqb, ℤ, pos, ◌+ℤ◌, +ℤ_idr, length, take, drop, length-append, length-map, lt-ltb, le-ltb, eq-eqb, ne_eqb, every, joined, total_by, AllOf, by-test, and_left, and_right, and_both, keep_append, every-keep, every_append, every_map, keep-joined, and-past-two}
use Rattle.keyed.specs.Keys.{falls, all_fall, sum_of, sums, over_keys}
use Rattle.keyed.specs.Groups.{Group, all_fall_all}
use Rattle.keyed.proofs.Walk.{over-same}
use Rattle.keyed.proofs.Groups.{Zero}
use Rattle.words.specs.Words.{Below}
use Rattle.postings.specs.declared.Posting.{Posting}
use Rattle.postings.specs.declared.Stretch.{Stretch}
use Rattle.postings.specs.Order.{ordered}
use Rattle.postings.specs.Pack.{word_window, is_posting, posted}
use Rattle.postings.specs.Sums.{sum, under, above, frequency, amount}
use Rattle.postings.proofs.Order.{ordered-next, keep-ordered}
use Rattle.postings.proofs.Sums.{sum-append, sum-under}
use Rattle.postings.proofs.Trips.{posting-window}
use Rattle.state.specs.declared.State.{State}
use Rattle.state.specs.Views.{buffered, finished}
use Rattle.state.specs.Shown.{shows_in, shown_in}
use Rattle.partitions.specs.Reading.{postings_of, in_partitions, stored}
use Rattle.partitions.specs.Formed.{list_rule, sums_in_range, identifier_formed}
use Rattle.kway.specs.Parts.{part, parts}
pub use Rattle.kway.proofs.Stored.{Small, rule, fine-rule, small_at}
use Rattle.heads.specs.Heads.{item_of, comes, coming, view}
use Rattle.terms.specs.Both.{both}
use Rattle.terms.specs.Judged.{total_z, ranges, unspread, spread_at, formed, risen}
use Rattle.terms.specs.Opening.{listed, Opens}
use Rattle.terms.proofs.Steps.{total-none}
use Rattle.terms.proofs.Ranges.{range, own, sums-range, over-two, over-down}

-- ---- words

-- a list falls where it keeps the rule and its first window is below the bound
falls-words : (i m x : ℕ) (xs : List ℕ) → falls m (map item_of (x ∷ xs)) ≡ (ltb (word_window x) m && list_rule (map (posted i) (x ∷ xs)))
unfolding list_rule
falls-words i m x [] = rw (fine-rule i x)
falls-words i m x (y ∷ xs) =
    rw (fine-rule i x, falls-words i (word_window x) y xs, ordered-next (posted i x) (posted i y) (map (posted i) xs), le-ltb i i (omega arith), eq-eqb i i refl)
    (ap (λ (t : Bool). ltb (word_window x) m && t) (and-past-two (rule (posted i x)) (ltb (word_window y) (word_window x)) (ordered (map (posted i) (y ∷ xs))) (every rule (map (posted i) (y ∷ xs)))))

falls-list : (i : ℕ) (xs : List ℕ) → AllOf Small xs → falls 65536 (map item_of xs) ≡ list_rule (map (posted i) xs)
unfolding AllOf list_rule
falls-list i [] g = refl
falls-list i (x ∷ xs) g = falls-words i 65536 x xs ∙ rw (lt-ltb (x / 65536) 65536 (omega (arith, g.0)))

sum-words : (i w : ℕ) (xs : List ℕ) → sum_of w (map item_of xs) ≡ sum (map (posted i) xs) i w
sum-words i w [] = refl
sum-words i w (x ∷ xs) = rw (eq-eqb i i refl, sum-words i w xs)

own-words : (i : ℕ) (xs : List ℕ) → AllOf Small xs → every (own i 65536) (map (posted i) xs) ≡ true
unfolding AllOf
own-words i [] g = refl
own-words i (x ∷ xs) g = rw (eq-eqb i i refl, lt-ltb (x / 65536) 65536 (omega (arith, g.0)), own-words i xs g.1)

-- of lists that fall, window 0 has no posting
zero-words : (m : ℕ) (xs : List ℕ) → falls m (map item_of xs) ≡ true → sum_of 0 (map item_of xs) ≡ pos 0
zero-words m [] e = refl
zero-words m (x ∷ xs) e =
    let f = and_right (ltb (word_window x) m) _ e in
    let h = posting-window x (and_left _ _ f) in
    rw (ne_eqb (word_window x) 0 (λ q. omega arith), zero-words (word_window x) xs (and_right (is_posting x) _ f))

-- ---- the words that a head has to come

module _ (W R : List ℕ) (small : Below 4294967296 W) (few : Below 4294967296 R) where
  small-list : (l : List ℕ) → Below 4294967296 l → AllOf Small l
  unfolding AllOf
  small-list [] f = tt
  small-list (x ∷ l) f = (f 0, small-list l (λ k. f (suc k)))

  small-drop : (n : ℕ) (l : List ℕ) → AllOf Small l → AllOf Small (drop n l)
  unfolding AllOf
  small-drop zero l f = f
  small-drop (suc n) [] f = f
  small-drop (suc n) (x ∷ l) f = small-drop n l f.1

  small-take : (n : ℕ) (l : List ℕ) → AllOf Small l → AllOf Small (take n l)
  unfolding AllOf
  small-take zero l f = tt
  small-take (suc n) [] f = f
  small-take (suc n) (x ∷ l) f = (f.0, small-take n l f.1)

  pub small-comes : (p n : ℕ) → AllOf Small (comes W R p n)
  unfolding comes
  small-comes p n =
      by-test (ltb p 4194304) (λ y. rw y (small_at W small n (p / 1024) (p % 1024)))
      (λ y. rw y (small-take n (drop (p - 4194304) R) (small-drop (p - 4194304) R (small-list R few))))

  -- ---- lists of them

  falls-lists : (i : ℕ) (hs : List (List ℕ)) → all_fall 65536 (map (view W R) hs) ≡ every list_rule (map (listed W R i) hs)
  unfolding view
  falls-lists i [] = refl
  falls-lists i (h ∷ hs) = ap₂ ◌&&◌ (falls-list i (coming W R h) (small-comes _ _)) (falls-lists i hs)

  own-lists : (i : ℕ) (hs : List (List ℕ)) → every (own i 65536) (joined (map (listed W R i) hs)) ≡ true
  own-lists i [] = refl
  own-lists i (h ∷ hs) = every_append (own i 65536) (listed W R i h) _ ∙ and_both _ _ (own-words i (coming W R h) (small-comes _ _)) (own-lists i hs)

module _ (W R : List ℕ) where
  sum-lists : (i w : ℕ) (hs : List (List ℕ)) → sums w (map (view W R) hs) ≡ sum (joined (map (listed W R i) hs)) i w
  unfolding view
  sum-lists i w [] = refl
  sum-lists i w (h ∷ hs) =
      rw (sum-words i w (coming W R h), sum-lists i w hs) (sym (sum-append i w (listed W R i h) (joined (map (listed W R i) hs))))

  size-lists : (i : ℕ) (hs : List (List ℕ)) → total_by length (map (view W R) hs) ≡ length (joined (map (listed W R i) hs))
  unfolding view
  size-lists i [] = refl
  size-lists i (h ∷ hs) =
      sym (length-append (listed W R i h) (joined (map (listed W R i) hs)) ∙ ap₂ ◌+◌ (length-map (coming W R h) (posted i) ∙ sym (length-map (coming W R h) item_of)) (sym (size-lists i hs)))

  zero-lists : (m : ℕ) (hs : List (List ℕ)) → all_fall m (map (view W R) hs) ≡ true → sums 0 (map (view W R) hs) ≡ pos 0
  unfolding view
  zero-lists m [] e = refl
  zero-lists m (h ∷ hs) e = rw (zero-words m (coming W R h) (and_left _ _ e), zero-lists m hs (and_right (falls m (map item_of (coming W R h))) _ e))

-- ---- the identifier as a whole: each list is its list in a finished partition, the run its part of the buffer

module _ (W R : List ℕ) (s : State) (i : ℕ) (H : List ℕ) (opens : Opens W R s i H) (small : Below 4294967296 W) (few : Below 4294967296 R)
    (order : ordered (buffered s.buffer) ≡ true) (rules : every rule (buffered s.buffer) ≡ true) where
  -- its heads: the lists', and the run's
  abbrev hs : List (List ℕ)
  hs = parts 4 s.partitions.used H

  abbrev last : List ℕ
  last = part 4 s.partitions.used H

  abbrev gs : List Group
  gs = both W R s.partitions.used H

  -- the open window's number
  abbrev o : ℕ
  o = s.windows.current

  -- the identifier's postings in the partitions, in the buffer, and in all
  abbrev inside : List Posting
  inside = under i (in_partitions W (finished s.partitions))

  abbrev beside : List Posting
  beside = under i (buffered s.buffer)

  abbrev whole : List Posting
  whole = under i (stored W s)

  joined-lists : joined (map (listed W R i) hs) ≡ inside
  unfolding in_partitions
  joined-lists = ap joined opens.lists ∙ sym (keep-joined (λ p. eqb p.id i) (postings_of W) (finished s.partitions))

  whole_parts : whole ≡ inside ++ beside
  unfolding stored
  whole_parts = keep_append (λ p. eqb p.id i) (in_partitions W (finished s.partitions)) (buffered s.buffer)

  sum_inside : (w : ℕ) → sums w (map (view W R) hs) ≡ sum inside i w
  sum_inside w = sum-lists W R i w hs ∙ ap (λ (l : List Posting). sum l i w) joined-lists

  sum-beside : (w : ℕ) → sum_of w (view W R last) ≡ sum beside i w
  unfolding view
  sum-beside w = sum-words i w (coming W R last) ∙ ap (λ (l : List Posting). sum l i w) opens.run

  sum-whole : (w : ℕ) → sum whole i w ≡ sum inside i w +ℤ sum beside i w
  sum-whole w = ap (λ (l : List Posting). sum l i w) whole_parts ∙ sum-append i w inside beside

  own-inside : every (own i 65536) inside ≡ true
  own-inside = ap (every (own i 65536)) (sym joined-lists) ∙ own-lists W R small few i hs

  own-beside : every (own i 65536) beside ≡ true
  own-beside = ap (every (own i 65536)) (sym opens.run) ∙ own-words i (coming W R last) (small-comes W R small few _ _)

  own-whole : every (own i 65536) whole ≡ true
  own-whole = ap (every (own i 65536)) whole_parts ∙ every_append (own i 65536) inside beside ∙ and_both _ _ own-inside own-beside

  run-falls : falls 65536 (view W R last) ≡ true
  unfolding view list_rule
  run-falls =
      falls-list i (coming W R last) (small-comes W R small few _ _) ∙ ap list_rule opens.run
      ∙ and_both (ordered beside) _ (keep-ordered (λ p. eqb p.id i) (buffered s.buffer) order) (every-keep (λ p. eqb p.id i) rule (buffered s.buffer) rules)

  -- the lists fall where they keep the rule of lists
  rule-lists : every (λ p. list_rule (under i (postings_of W p))) (finished s.partitions) ≡ all_fall_all 65536 gs
  rule-lists =
      sym (every_map list_rule (λ p. under i (postings_of W p)) (finished s.partitions))
      ∙ ap (every list_rule) (sym opens.lists)
      ∙ sym (falls-lists W R small few i hs)
      ∙ sym (rw run-falls (and-true (all_fall 65536 (map (view W R) hs))))

  -- every window's sums are in range where every pair's are
  rule-sums : (sums_in_range inside && sums_in_range whole) ≡ over_keys ranges true 65536 (λ w. map (sums w) gs)
  rule-sums =
      ap₂ ◌&&◌ (sums-range i 65536 inside own-inside)
      (sums-range i 65536 whole own-whole
      ∙ over-same range true 65536 (λ w. sum whole i w) (λ w. sum inside i w +ℤ (sum beside i w +ℤ pos 0)) (λ w h. sum-whole w ∙ ap (λ (z : ℤ). sum inside i w +ℤ z) (sym (+ℤ_idr (sum beside i w)))))
      ∙ sym (over-two (λ w. sum inside i w) (λ w. sum beside i w) 65536)
      ∙ over-same ranges true 65536 (λ w. sum inside i w ∷ sum beside i w ∷ []) (λ w. map (sums w) gs) (λ w h. ap₂ (λ (y z : ℤ). y ∷ z ∷ []) (sym (sum_inside w)) (sym (sum-beside w) ∙ sym (+ℤ_idr _)))

  pub formed-same : identifier_formed W s i ≡ formed gs
  unfolding identifier_formed formed
  formed-same = ap₂ ◌&&◌ rule-lists rule-sums

  pub total-same : (w : ℕ) → sum (stored W s) i w ≡ total_z (map (sums w) gs)
  total-same w =
      sym (sum-under i w (stored W s)) ∙ sum-whole w
      ∙ ap₂ (λ (y z : ℤ). y +ℤ z) (sym (sum_inside w)) (sym (sum-beside w) ∙ sym (+ℤ_idr _) ∙ sym (+ℤ_idr _))

  pub size_same : length whole ≡ total_by length (map (view W R) hs) + length (view W R last)
  unfolding view
  size_same =
      let a = size-lists W R i hs ∙ ap length joined-lists in
      let b : length (map item_of (coming W R last)) ≡ length beside = length-map (coming W R last) item_of ∙ sym (length-map (coming W R last) (posted i)) ∙ ap length opens.run in
      omega (arith, ap length whole_parts, length-append inside beside, a, b)

  module _ (ok : formed gs ≡ true) where
    pub lists-fall : all_fall 65536 (map (view W R) hs) ≡ true
    unfolding formed
    lists-fall = and_left _ _ (and_left (all_fall_all 65536 gs) _ ok)

    pub run-fall : falls 65536 (view W R last) ≡ true
    run-fall = run-falls

    -- nothing is stored of window 0
    pub none_at_zero : AllOf Zero (map (sums 0) gs)
    unfolding AllOf view
    none_at_zero = (zero-lists W R 65536 hs lists-fall, (rw (zero-words 65536 (coming W R last) run-falls), tt))

    pub risen-same : (t : Stretch) → risen (shows_in t o) gs ≡ record { windows = frequency (shown_in t s.windows) (stored W s) i; total = amount (shown_in t s.windows) (stored W s) i }
    unfolding frequency amount shown_in risen
    risen-same t =
        over-down (shows_in t o) (λ w. above (sum (stored W s) i w)) (λ w. map (sums w) gs) (λ w. ap above (total-same w))
        (ap above (total-same 0 ∙ total-none (map (sums 0) gs) none_at_zero)) 65535

-- ---- at most 65,535 windows count

few-windows : (shows : ℕ → Bool) (S : ℕ → List ℤ) → AllOf Zero (S 0) → (n : ℕ) → (over_keys (spread_at shows) unspread (suc n) S).windows ≤ n
unfolding over_keys
few-windows shows S z zero = by-test (shows 0) (λ y. rw (y, total-none (S 0) z) (omega arith)) (λ y. rw y (omega arith))
few-windows shows S z (suc n) = let h = few-windows shows S z n in by-test (ltb 0 (cond (shows (suc n)) (above (total_z (S (suc n)))) 0)) (λ y. rw y (omega arith)) (λ y. rw y (omega arith))

-- so F fits
pub risen-few : (shows : ℕ → Bool) (gs : List Group) → AllOf Zero (map (sums 0) gs) → (risen shows gs).windows ≤ 65535
unfolding risen
risen-few shows gs z = few-windows shows (λ w. map (sums w) gs) z 65535
