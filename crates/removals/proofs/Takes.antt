-- Counts taken back one by one, from the last to the first.
use Rattle.lists.proofs.Prelude.{true, not, List, [], ◌∷◌, map, foldr, ◌≡◌, refl, sym, ap, ◌∙◌, ℕ, zero, suc, ◌+◌, ◌<◌, ◌≤◌, add-one, arith, leb, ℤ, pos, negsuc, nat_abs, neg_ℤ, length, get_or, drop, drop_of_length-le, length-map, length-drop, drop-cons, get_or-take, length-take-le, leb-true, any, every, and_left, and_right, every-at}
use Rattle.postings.specs.declared.Posting.{Posting}
use Rattle.postings.specs.Order.{precedes, same_pair, ordered}
use Rattle.postings.specs.Merge.{is_zero, put, is_counted, nonzero, negated}
use Rattle.postings.proofs.Order.{any-before}
use Rattle.postings.proofs.Merge.{puts-ordered, nonzero-ordered}
use Rattle.state.specs.declared.Buffer.{Buffer}
use Rattle.state.specs.Views.{buffered, buffer_of}
use Rattle.buffer.specs.Canonical.{Canonical, Addable}
use Rattle.buffer.proofs.Canonical.{buffered-of, canonical-of}
use Rattle.buffer.proofs.Adding.{added-nonzero, added-back, addable-after, length-added-all}
use Rattle.sums.specs.declared.Counts.{Counts}
use Rattle.sums.specs.Views.{counts_in}
use Rattle.removals.specs.Taking.{opposite, taken_back, takeable, Takeable}

-- ---- an ordered list without a count of 0

-- loses nothing
pub nonzero-all : (l : List Posting) → ordered l ≡ true → every is_counted l ≡ true → nonzero l ≡ l
nonzero-all l o c = sym (added-back l o [] c)

-- what is ordered is ordered from any place on
pub drop-ordered : (i : ℕ) (l : List Posting) → ordered l ≡ true → ordered (drop i l) ≡ true
drop-ordered zero l o = o
drop-ordered (suc i) [] o = o
drop-ordered (suc i) (p ∷ l) o = drop-ordered i l (and_right (every (precedes p) l) _ o)

-- the pairs are those of the opposites
pub any-opposite : (q : Posting) (l : List Posting) → any (same_pair (opposite q)) (map opposite l) ≡ any (same_pair q) l
any-opposite q [] = refl
any-opposite q (p ∷ l) = rw (any-opposite q l)

-- no count of 0 becomes one
pub opposite-counts : (p : Posting) → is_counted p ≡ true → is_counted (opposite p) ≡ true
opposite-counts p e = cases p.count e
  where
    cases : (z : ℤ) → not (is_zero z) ≡ true → not (is_zero (neg_ℤ z)) ≡ true
    cases (pos zero) f = f
    cases (pos (suc n)) f = refl
    cases (negsuc n) f = refl

-- ---- the loop

module _ (l cs : List Posting) (o : ordered l ≡ true) where
  -- nothing is taken back yet
  pub none-back : (i : ℕ) → every is_counted l ≡ true → length cs ≤ i → l ≡ taken_back l cs i
  unfolding taken_back
  none-back i c h = rw (drop_of_length-le cs {i = i} h) (sym (nonzero-all l o c))

  -- one more
  pub one-back : (i : ℕ) (d : Posting) → i < length cs → nonzero (put (opposite (get_or cs i d)) (taken_back l cs (i + 1))) ≡ taken_back l cs i
  unfolding taken_back
  one-back i d h =
      rw (drop-cons cs i d h, add-one i)
      (added-nonzero (opposite (get_or cs i d)) (foldr put l (map opposite (drop (suc i) cs))) (puts-ordered (map opposite (drop (suc i) cs)) l o))

  -- all
  pub all_back : ordered cs ≡ true → every is_counted cs ≡ true → taken_back l cs 0 ≡ nonzero (foldr put l (negated cs))
  unfolding taken_back negated
  all_back r c = rw (nonzero-all cs r c)

  short_back : (i : ℕ) → length (taken_back l cs i) ≤ length (drop i cs) + length l
  unfolding taken_back
  short_back i = omega (arith, length-added-all l (map opposite (drop i cs)), length-map (drop i cs) opposite)

  order-back : (i : ℕ) → ordered (taken_back l cs i) ≡ true
  unfolding taken_back
  order-back i = nonzero-ordered _ (puts-ordered (map opposite (drop i cs)) l o)

  -- what is left is a buffer's content
  pub canonical-back : (i : ℕ) → length cs + length l ≤ 128 → Canonical (buffer_of (taken_back l cs i))
  canonical-back i h = canonical-of (taken_back l cs i) (order-back i) (omega (arith, short_back i, length-drop i cs))

  -- and the next count can be taken back
  pub addable-back : (i : ℕ) (d : Posting) → i < length cs → ordered cs ≡ true → every is_counted cs ≡ true → every (takeable l) cs ≡ true → length cs + length l ≤ 128
      → Addable (buffer_of (taken_back l cs (i + 1))) (opposite (get_or cs i d))
  unfolding taken_back
  addable-back i d h r c t n =
      let p = get_or cs i d in
      let f : takeable l p ≡ true = every-at (takeable l) cs d t i h in
      let s : ordered (p ∷ drop (suc i) cs) ≡ true = rw (drop-cons cs i d h) at (drop-ordered i cs r) in
      let k = length-map (drop (i + 1) cs) opposite in
      let m = length-drop (i + 1) cs in
      addable-after l (map opposite (drop (i + 1) cs)) (opposite p) o
      (any-opposite p (drop (i + 1) cs) ∙ rw (add-one i) (any-before p (drop (suc i) cs) (and_left (every (precedes p) (drop (suc i) cs)) _ s)))
      (opposite-counts p (every-at is_counted cs d c i h))
      (omega arith)
      (leb-true _ _ (and_right (leb (nat_abs p.count) 32767) _ f))

-- ---- the same over the arrays

module _ (b : Buffer) (c : Counts) (t : Takeable b c) (wide : length b.postings ≡ 128) (long : length c.postings ≡ 64) where
  used-length : length (counts_in c) ≡ c.used
  used-length = length-take-le c.used c.postings (omega (arith, t.few))

  -- the buffer before any count is taken back
  pub start-buffer : b ≡ buffer_of (taken_back (buffered b) (counts_in c) c.used)
  start-buffer =
      (t.canonical wide).clean ∙ ap buffer_of (none-back (buffered b) (counts_in c) (t.canonical wide).in_order c.used t.counted (omega (arith, used-length)))

  -- the buffer after all
  pub end-buffer : buffer_of (taken_back (buffered b) (counts_in c) 0) ≡ buffer_of (nonzero (foldr put (buffered b) (negated (counts_in c))))
  end-buffer = ap buffer_of (all_back (buffered b) (counts_in c) (t.canonical wide).in_order t.in_order t.some)

  module _ (i j : ℕ) (d : Posting) (e : i ≡ j + 1) (h : i ≤ c.used) where
    within : j < length (counts_in c)
    within = omega (arith, used-length)

    here : get_or (counts_in c) j d ≡ get_or c.postings j d
    here = get_or-take c.used c.postings j d (omega arith)

    -- the next count can be negated
    pub small_count : nat_abs (get_or c.postings j d).count ≤ 32767
    small_count =
        rw (← here) (leb-true _ _ (and_left (leb (nat_abs (get_or (counts_in c) j d).count) 32767) _ (every-at (takeable (buffered b)) (counts_in c) d t.within j within)))

    -- and then taken back
    pub next-addable : Addable (buffer_of (taken_back (buffered b) (counts_in c) i)) (opposite (get_or c.postings j d))
    next-addable =
        rw (e, ← here) (addable-back (buffered b) (counts_in c) (t.canonical wide).in_order j d within t.in_order t.some t.within t.room)

    -- which leaves the buffer one place further
    pub next-buffer : buffer_of (nonzero (put (opposite (get_or c.postings j d)) (buffered (buffer_of (taken_back (buffered b) (counts_in c) i))))) ≡ buffer_of (taken_back (buffered b) (counts_in c) j)
    next-buffer =
        rw (buffered-of (taken_back (buffered b) (counts_in c) i), e, ← here)
        (ap buffer_of (one-back (buffered b) (counts_in c) (t.canonical wide).in_order j d within))

  -- the buffer at any place is canonical
  pub buffer-canonical : (i : ℕ) → Canonical (buffer_of (taken_back (buffered b) (counts_in c) i))
  buffer-canonical i = canonical-back (buffered b) (counts_in c) (t.canonical wide).in_order i t.room
