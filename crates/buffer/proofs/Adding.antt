-- A posting added to an ordered list: what it does to sums, order and length, and that the order of adding does not matter.
use Rattle.lists.proofs.Prelude.{true, false, List, [], ◌∷◌, foldr, ◌≡◌, sym, ap, ◌∙◌, ℕ, suc, ◌+◌, ◌<◌, ◌≤◌, arith, ℤ, nat_abs, ◌+ℤ◌, +ℤ_idl, length, any, every, length-keep}
use Rattle.postings.specs.declared.Posting.{Posting}
use Rattle.postings.specs.Order.{same_pair, ordered}
use Rattle.postings.specs.Merge.{put, is_counted, nonzero}
use Rattle.postings.specs.Sums.{share, sum}
use Rattle.postings.proofs.Sums.{sum-put, sum-puts, sum-nonzero}
use Rattle.postings.proofs.Merge.{put-ordered, puts-ordered, nonzero-ordered, nonzero-counts, length-put, length-puts, sum-none, same-sums}
use Rattle.state.specs.Views.{buffer_of}
use Rattle.buffer.specs.Canonical.{Addable}
use Rattle.buffer.proofs.Canonical.{buffered-of}

length-nonzero : (l : List Posting) → length (nonzero l) ≤ length l
unfolding nonzero
length-nonzero l = length-keep is_counted l

-- ---- one posting

module _ (p : Posting) (l : List Posting) where
  -- every sum moves by the posting's share
  pub sum_added : (i w : ℕ) → sum (nonzero (put p l)) i w ≡ share p i w +ℤ sum l i w
  sum_added i w = sum-nonzero i w (put p l) ∙ sum-put i w p l

  -- at most one place more
  pub length-added : length (nonzero (put p l)) ≤ suc (length l)
  length-added = omega (arith, length-nonzero (put p l), length-put p l)

-- ---- many postings

-- two ordered lists of the same sums are the same without their counts of 0
pub nonzero-sums : (l m : List Posting) → ordered l ≡ true → ordered m ≡ true → ((i w : ℕ) → sum l i w ≡ sum m i w) → nonzero l ≡ nonzero m
nonzero-sums l m o r e =
    same-sums (nonzero l) (nonzero m) (nonzero-ordered l o) (nonzero-ordered m r) (nonzero-counts l) (nonzero-counts m)
    (λ i w. sum-nonzero i w l ∙ e i w ∙ sym (sum-nonzero i w m))

-- counts of 0 can go before a posting is put in as well as after
pub added-nonzero : (p : Posting) (l : List Posting) → ordered l ≡ true → nonzero (put p (nonzero l)) ≡ nonzero (put p l)
added-nonzero p l o =
    nonzero-sums (put p (nonzero l)) (put p l) (put-ordered p (nonzero l) (nonzero-ordered l o)) (put-ordered p l o)
    (λ i w. sum-put i w p (nonzero l) ∙ ap (λ (z : ℤ). share p i w +ℤ z) (sum-nonzero i w l) ∙ sym (sum-put i w p l))

-- a list without counts of 0 is its own
nonzero-self : (l : List Posting) → ordered l ≡ true → every is_counted l ≡ true → nonzero l ≡ l
nonzero-self l o c = same-sums (nonzero l) l (nonzero-ordered l o) o (nonzero-counts l) c (λ i w. sum-nonzero i w l)

module _ (l : List Posting) (o : ordered l ≡ true) where
  -- added one by one from the last to the first: the same as put in and then rid of counts of 0
  pub added-back : (ps : List Posting) → every is_counted l ≡ true → foldr (λ p m. nonzero (put p m)) l ps ≡ nonzero (foldr put l ps)
  added-back [] c = sym (nonzero-self l o c)
  added-back (p ∷ ps) c =
      ap (λ (m : List Posting). nonzero (put p m)) (added-back ps c) ∙ added-nonzero p (foldr put l ps) (puts-ordered ps l o)

  -- a pair that none of them has keeps its sum
  pub sum-added-all : (q : Posting) (ps : List Posting) → any (same_pair q) ps ≡ false → sum (nonzero (foldr put l ps)) q.id q.window ≡ sum l q.id q.window
  sum-added-all q ps e =
      sum-nonzero q.id q.window (foldr put l ps) ∙ sum-puts q.id q.window ps l ∙ rw (sum-none q ps e) (+ℤ_idl (sum l q.id q.window))

-- they take at most a place each
pub length-added-all : (l ps : List Posting) → length (nonzero (foldr put l ps)) ≤ length ps + length l
length-added-all l ps = omega (arith, length-nonzero (foldr put l ps), length-puts ps l)

-- where others are added already, none of its pair, an amount can be added that could be at first, while there is room for one more
pub addable-after : (l ps : List Posting) (p : Posting) → ordered l ≡ true → any (same_pair p) ps ≡ false → is_counted p ≡ true → length ps + length l < 128 → nat_abs (p.count +ℤ sum l p.id p.window) ≤ 32767 → Addable (buffer_of (nonzero (foldr put l ps))) p
addable-after l ps p o e f h g =
    let m = nonzero (foldr put l ps) in
    let k = length-added-all l ps in
    record {
      counted = rw (buffered-of m) (nonzero-counts (foldr put l ps));
      amount = f;
      room = λ n. omega arith;
      within = rw (buffered-of m, sum-added-all l o p ps e) g;
    }
