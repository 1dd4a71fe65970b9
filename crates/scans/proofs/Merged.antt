-- The pairs by falling key are the pairs of the postings in order.
use Rattle.lists.proofs.Prelude.{true, false, List, [], ◌∷◌, ◌++◌, map, foldr, ◌≡◌, refl, sym, ap, ◌∙◌, every, joined, by-test, and_left, and_right, and_both, every_append}
use Rattle.keyed.specs.Keys.{Pair, all_fall, key_pairs as keyed_pairs}
use Rattle.keyed.specs.Collect.{put_item as put_keyed, put_all, collect}
use Rattle.keyed.proofs.Collected.{pairs-collect}
use Rattle.postings.specs.declared.Posting.{Posting}
use Rattle.postings.specs.Order.{precedes, same_pair}
use Rattle.postings.specs.Merge.{put, pairs}
use Rattle.postings.proofs.Order.{same-swap, precedes-apart}
use Rattle.postings.proofs.Merge.{every-puts}
use Rattle.scans.specs.Keys.{key_of, item_of, is_keyed, posting_of}
use Rattle.scans.proofs.Keys.{bounds, key-of-id, key-of-window, key-pair, key-precedes}

-- a posting as a key with its sum
abbrev pub pair_of : Posting → Pair
pair_of p = record { key = key_of p.id p.window; sum = p.count }

-- and back
posting-pair : (p : Posting) → is_keyed p ≡ true → posting_of (pair_of p) ≡ p
posting-pair p e = let b = bounds p e in λ k. record { id = key-of-id p.id p.window b.window b.id k; window = key-of-window p.id p.window b.window k; count = p.count }

pub postings-pairs : (l : List Posting) → every is_keyed l ≡ true → map posting_of (map pair_of l) ≡ l
postings-pairs [] e = refl
postings-pairs (p ∷ l) e = rw (posting-pair p (and_left (is_keyed p) _ e), postings-pairs l (and_right (is_keyed p) _ e))

-- a posting put in by key is put in by its pair
put-keyed : (p : Posting) (l : List Posting) → is_keyed p ≡ true → every is_keyed l ≡ true → put_keyed (item_of p) (map pair_of l) ≡ map pair_of (put p l)
put-keyed p [] a e = refl
put-keyed p (q ∷ l) a e =
    let b = and_left (is_keyed q) _ e in
    let r = and_right (is_keyed q) _ e in
    by-test (same_pair p q)
    (λ y. let s = same-swap q p ∙ y in
    by-test (precedes p q)
    (λ z. let t : true ≡ false = sym y ∙ precedes-apart p q z in cc)
    (λ z. rw (key-precedes p q a b, z, key-pair q p b a, s, y)))
    (λ n. let s = same-swap q p ∙ n in
    by-test (precedes p q)
    (λ z. rw (key-precedes p q a b, z, n))
    (λ z. rw (key-precedes p q a b, z, key-pair q p b a, s, n, put-keyed p l a r)))

-- the keys of a list that is put together are those of its postings
puts-keyed : (l m : List Posting) → every is_keyed l ≡ true → every is_keyed m ≡ true → every is_keyed (foldr put m l) ≡ true
puts-keyed l m a b = every-puts is_keyed (λ q c t. t) l m a b

all-keyed : (l m : List Posting) → every is_keyed l ≡ true → every is_keyed m ≡ true → put_all (map item_of l) (map pair_of m) ≡ map pair_of (foldr put m l)
all-keyed [] m a b = refl
all-keyed (p ∷ l) m a b =
    let r = and_right (is_keyed p) _ a in
    ap (put_keyed (item_of p)) (all-keyed l m r b) ∙ put-keyed p (foldr put m l) (and_left (is_keyed p) _ a) (puts-keyed l m r b)

foldr-append : (l m : List Posting) → foldr put [] (l ++ m) ≡ foldr put (foldr put [] m) l
foldr-append [] m = refl
foldr-append (p ∷ l) m = ap (put p) (foldr-append l m)

joined-keyed : (ls : List (List Posting)) → every (every is_keyed) ls ≡ true → every is_keyed (joined ls) ≡ true
joined-keyed [] e = refl
joined-keyed (l ∷ ls) e = every_append is_keyed l (joined ls) ∙ and_both _ _ (and_left (every is_keyed l) _ e) (joined-keyed ls (and_right (every is_keyed l) _ e))

collect-keyed : (ls : List (List Posting)) → every (every is_keyed) ls ≡ true → collect (map (map item_of) ls) ≡ map pair_of (foldr put [] (joined ls))
collect-keyed [] e = refl
collect-keyed (l ∷ ls) e =
    let a = and_left (every is_keyed l) _ e in
    let r = and_right (every is_keyed l) _ e in
    ap (put_all (map item_of l)) (collect-keyed ls r)
    ∙ all-keyed l (foldr put [] (joined ls)) a (puts-keyed (joined ls) [] (joined-keyed ls r) refl)
    ∙ ap (map pair_of) (sym (foldr-append l (joined ls)))

module _ (ls : List (List Posting)) (keyed : every (every is_keyed) ls ≡ true) where
  -- every pair has a key of its own
  pub pairs-bound : every is_keyed (pairs (joined ls)) ≡ true
  unfolding pairs
  pairs-bound = puts-keyed (joined ls) [] (joined-keyed ls keyed) refl

  module _ (fall : all_fall 67108864 (map (map item_of) ls) ≡ true) where
    -- the pairs by falling key
    pub keyed-pairs : keyed_pairs 67108864 (map (map item_of) ls) ≡ map pair_of (pairs (joined ls))
    unfolding pairs
    keyed-pairs = pairs-collect 67108864 (map (map item_of) ls) fall ∙ collect-keyed ls keyed

    -- and as postings
    pub pairs-keyed : map posting_of (keyed_pairs 67108864 (map (map item_of) ls)) ≡ pairs (joined ls)
    pairs-keyed = ap (map posting_of) keyed-pairs ∙ postings-pairs (pairs (joined ls)) pairs-bound
