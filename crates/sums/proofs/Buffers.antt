-- The buffer as one list by key: what is to come first, and what is taken of it under a key.
use Rattle.lists.proofs.Prelude.{true, cond, List, [], ◌∷◌, map, ◌≡◌, refl, sym, ap, ◌∙◌, ℕ, suc, ◌+◌, ◌<◌, ◌≤◌, add-one, arith, eqb, leb, ltb, pos, length, get_or, drop, drop_of_length-le, drop-cons, get_or-take, length-take-le, leb-true, eq-eqb, ne_eqb, eqb-true, eqb-false, ltb-true, ltb-false, every, by-test, and_left, every-at, every_drop}
use Rattle.keyed.specs.Keys.{Item, reach, rest, head_val, head_fine}
use Rattle.postings.specs.declared.Posting.{Posting}
use Rattle.state.specs.declared.Buffer.{Buffer}
use Rattle.state.specs.Views.{buffered, no_posting}
use Rattle.kway.proofs.Turns.{missed}
use Rattle.scans.specs.Keys.{key_of, item_of, is_keyed}
use Rattle.sums.specs.declared.Front.{Front}
use Rattle.sums.proofs.Tally.{is_fine, buffer_items, Walkable}

-- postings that are well formed have a well-formed head
fine-front : (k : ℕ) (l : List Posting) → every is_fine l ≡ true → head_fine k (map item_of l) ≡ true
fine-front k [] e = refl
fine-front k (p ∷ l) e =
    by-test (eqb (key_of p.id p.window) k) (λ y. rw (y, and_left (is_fine p) _ e)) (λ n. rw n)

-- f is what the list l has first
pub record Shown (l : List Item) (f : Front) : Type 0 where
  pub reach : f.reach ≡ reach l
  pub count : (k : ℕ) → cond (eqb f.reach (suc k)) f.count (pos 0) ≡ head_val k l

pub shown-under : {l : List Item} {f : Front} → Shown l f → (t k : ℕ) → t ≡ suc k → cond (eqb f.reach t) f.count (pos 0) ≡ head_val k l
shown-under {l} {f} s t k e = ap (λ (z : ℕ). cond (eqb f.reach z) f.count (pos 0)) e ∙ s.count k

shown-head : (x : Item) (l : List Item) (f : Front) → f.reach ≡ x.key + 1 → f.count ≡ x.val → Shown (x ∷ l) f
shown-head x l f e v = record {
  reach = e ∙ add-one x.key;
  count = λ k. by-test (eqb x.key k)
      (λ y. let q = eqb-true x.key k y in rw (y, eq-eqb f.reach (suc k) (omega arith), v))
      (λ n. let q = eqb-false x.key k n in rw (n, ne_eqb f.reach (suc k) (λ z. q (omega arith))));
}

module _ (b : Buffer) (ok : Walkable b) (i : ℕ) where
  -- the head is well formed
  pub buffer-fine : (k : ℕ) → head_fine k (buffer_items b i) ≡ true
  unfolding buffer_items
  buffer-fine k = fine-front k (drop i (buffered b)) (every_drop is_fine i (buffered b) ok.fine)

  module _ (len : length b.postings ≡ 128) where
    used-length : length (buffered b) ≡ b.used
    used-length = length-take-le b.used b.postings (omega (arith, ok.few))

    -- past the last nothing is to come
    buffer-none : b.used ≤ i → buffer_items b i ≡ []
    unfolding buffer_items
    buffer-none h = rw (drop_of_length-le (buffered b) {i = i} (omega (arith, used-length)))

    pub shown-none : b.used ≤ i → (f : Front) → f ≡ record { reach = 0; count = pos 0 } → Shown (buffer_items b i) f
    shown-none h f e = rw (e, buffer-none h) (record { reach = refl; count = λ k. rw (ne_eqb 0 (suc k) (λ z. omega arith)) })

    module _ (h : i < b.used) where
      abbrev here : Posting
      here = get_or b.postings i no_posting

      -- the head, and what comes after it
      buffer-more : buffer_items b i ≡ item_of here ∷ buffer_items b (i + 1)
      unfolding buffer_items
      buffer-more = rw (drop-cons (buffered b) i no_posting (omega (arith, used-length)), get_or-take b.used b.postings i no_posting h, add-one i)

      -- its identifier is one
      pub buffer-small : here.id ≤ 1023
      buffer-small =
          let e : is_keyed here ≡ true = rw (get_or-take b.used b.postings i no_posting h) at (every-at is_keyed (buffered b) no_posting ok.keyed i (omega (arith, used-length))) in
          leb-true _ _ (and_left (leb here.id 1023) _ e)

      pub shown-some : (f : Front) → f.reach ≡ key_of here.id here.window + 1 → f.count ≡ here.count → Shown (buffer_items b i) f
      shown-some f e v = rw buffer-more (shown-head (item_of here) (buffer_items b (i + 1)) f e v)

    -- it is taken under its key
    taken : (k : ℕ) → reach (buffer_items b i) ≡ suc k → (i + 1 ≤ b.used) × (buffer_items b (i + 1) ≡ rest k (buffer_items b i))
    taken k e =
        by-test (ltb i b.used)
        (λ y. let h = ltb-true i b.used y in
        let m = buffer-more h in
        let q : key_of (here h).id (here h).window ≡ k = omega (arith, sym (ap reach m) ∙ e) in
        (omega arith, rw (m, eq-eqb (key_of (here h).id (here h).window) k q)))
        (λ n. let z : reach (buffer_items b i) ≡ 0 = rw (buffer-none (ltb-false i b.used n)) in absurd (omega arith))

    -- and under no other: the place past the key k
    pub buffer-past : i ≤ b.used → (f : Front) → Shown (buffer_items b i) f → (t k : ℕ) → t ≡ suc k → (m : ℕ) → m ≡ cond (eqb f.reach t) (i + 1) i
        → (m ≤ b.used) × (buffer_items b m ≡ rest k (buffer_items b i))
    buffer-past low f s t k e m q =
        by-test (eqb f.reach t)
        (λ y. let r = eqb-true f.reach t y in rw (q, y) (taken k (sym s.reach ∙ r ∙ e)))
        (λ n. let r = eqb-false f.reach t n in rw (q, n) (low, (missed k (buffer_items b i) (λ z. r (omega (arith, s.reach)))).0))
