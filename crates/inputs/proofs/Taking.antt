-- The next pair at the heads of well formed inputs.
use Rattle.lists.proofs.Prelude.{true, List, [], ◌∷◌, map, ◌≡◌, refl, sym, ap, ◌∙◌, ℕ, suc, ◌<◌, ◌≤◌, arith, ltb, nat_abs, leb-true, ltb-true, lt-ltb, AllOf, every, and_left, and_right, and_both}
use Rattle.keyed.specs.Keys.{Item, falls, all_fall, key_pairs as keyed_pairs, topmost_from, rest, head_vals, heads_fine}
use Rattle.keyed.proofs.Walk.{under_top, top-falls, under, step_falls, pairs-none, pairs-step}
use Rattle.keyed.proofs.Collected.{pairs-collect}
use Rattle.words.specs.Words.{Below}
use Rattle.postings.specs.declared.Posting.{Posting}
use Rattle.partitions.specs.Formed.{list_rule, in_range}
use Rattle.kway.specs.Parts.{parts}
use Rattle.scans.specs.Keys.{posting_of}
use Rattle.scans.specs.Heads.{Kept, views}
use Rattle.scans.proofs.Keys.{lists-rule}
use Rattle.scans.proofs.Merged.{pairs-keyed}
use Rattle.inputs.specs.Judging.{all_in_range}
use Rattle.inputs.specs.Ahead.{posting_lists, pairs_ahead, Ready, Formed}
use Rattle.inputs.proofs.Views.{items-lists, lists-keyed}

-- lists that fall below a bound fall below a higher one
falls-up : (m n : ℕ) (l : List Item) → m ≤ n → falls m l ≡ true → falls n l ≡ true
falls-up m n [] h e = refl
falls-up m n (x ∷ l) h e =
    let a = ltb-true x.key m (and_left _ _ e) in
    and_both (ltb x.key n) _ (lt-ltb x.key n (omega arith)) (and_right (ltb x.key m) _ e)

all-fall-up : (m n : ℕ) (ls : List (List Item)) → m ≤ n → all_fall m ls ≡ true → all_fall n ls ≡ true
all-fall-up m n [] h e = refl
all-fall-up m n (l ∷ ls) h e = and_both (falls n l) _ (falls-up m n l h (and_left _ _ e)) (all-fall-up m n ls h (and_right (falls m l) _ e))

module _ (W : List ℕ) (small : Below 4294967296 W) (n : ℕ) where
  -- heads keep the rule of lists where their items fall
  falls-lists : (H : List ℕ) → AllOf (Kept W) (parts 10 n H) → all_fall 67108864 (views W n H) ≡ every list_rule (posting_lists W n H)
  falls-lists H g = ap (all_fall 67108864) (items-lists W n H) ∙ lists-rule (posting_lists W n H) (lists-keyed W small n H g)

  -- the pairs to come are those by falling key
  ahead-keyed : (H : List ℕ) → AllOf (Kept W) (parts 10 n H) → all_fall 67108864 (views W n H) ≡ true → pairs_ahead W n H ≡ map posting_of (keyed_pairs 67108864 (views W n H))
  unfolding pairs_ahead
  ahead-keyed H g e =
      let q = items-lists W n H in
      sym (ap (λ (l : List (List Item)). map posting_of (keyed_pairs 67108864 l)) q ∙ pairs-keyed (posting_lists W n H) (lists-keyed W small n H g) (rw q at e))

  module _ (H : List ℕ) (t : ℕ) (f : Formed W n H t) where
    all-fall : all_fall 67108864 (views W n H) ≡ true
    all-fall = falls-lists H f.ready.kept ∙ f.lists

    -- no key is too high
    pub top-low : t ≤ 67108864
    top-low = rw f.ready.top (top-falls 67108864 0 (views W n H) (omega arith) all-fall)

    -- none is left
    pub ahead_none : t ≡ 0 → pairs_ahead W n H ≡ []
    ahead_none z =
        let u = rw (sym f.ready.top ∙ z) at (under_top 0 (views W n H)) in
        ahead-keyed H f.ready.kept all-fall ∙ ap (map posting_of) (pairs-none 67108864 (views W n H) u)

    module _ (k : ℕ) (is : t ≡ suc k) where
      top : topmost_from 0 (views W n H) ≡ suc k
      top = sym f.ready.top ∙ is

      low : k < 67108864
      low = let h = top-low in omega arith

      abbrev pub first : Posting
      first = posting_of (record { key = k; sum = head_vals k (views W n H) })

      split : pairs_ahead W n H ≡ first ∷ map posting_of (keyed_pairs k (map (rest k) (views W n H)))
      split = ahead-keyed H f.ready.kept all-fall ∙ ap (map posting_of) (pairs-step 67108864 k (views W n H) top low all-fall)

      -- the first pair's sum fits
      pub first_range : nat_abs (head_vals k (views W n H)) ≤ 32767
      first_range = let s = f.sums in let q = ap all_in_range split in leb-true _ 32767 (and_left (in_range (head_vals k (views W n H))) _ (sym q ∙ s))

      module _ (H' : List ℕ) (t' : ℕ) (ready : Ready W n H' t') (moved : views W n H' ≡ map (rest k) (views W n H)) where
        fall-rest : all_fall k (views W n H') ≡ true
        fall-rest = rw moved (and_right (heads_fine k (views W n H)) _ (sym (step_falls 67108864 k (views W n H) (under k (views W n H) top) low) ∙ all-fall))

        fall-next : all_fall 67108864 (views W n H') ≡ true
        fall-next = all-fall-up k 67108864 (views W n H') (omega (arith, low)) fall-rest

        -- the first pair, and those of the moved heads
        pub ahead_more : pairs_ahead W n H ≡ first ∷ pairs_ahead W n H'
        ahead_more =
            split
            ∙ ap (λ (l : List Posting). first ∷ l)
            (ap (λ (l : List (List Item)). map posting_of (keyed_pairs k l)) (sym moved)
            ∙ ap (map posting_of) (pairs-collect k (views W n H') fall-rest ∙ sym (pairs-collect 67108864 (views W n H') fall-next))
            ∙ sym (ahead-keyed H' ready.kept fall-next))

        -- which are well formed too
        pub formed-more : Formed W n H' t'
        formed-more = record {
          ready = ready;
          lists = sym (falls-lists H' ready.kept) ∙ fall-next;
          sums = and_right (in_range (head_vals k (views W n H))) _ (sym (ap all_in_range ahead_more) ∙ f.sums);
        }
