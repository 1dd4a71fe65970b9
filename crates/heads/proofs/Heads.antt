-- One head: put, taken, and moved.
use Rattle.lists.proofs.Prelude.{◌&&◌, List, [], ◌∷◌, map, ◌≡◌, refl, sym, ap, ◌∙◌, subst, ℕ, zero, suc, ◌+◌, ◌-◌, ◌*◌, ◌/◌, ◌%◌, ◌<◌, ◌≤◌, arith, eqb, ltb, length, get_or, set, take, drop, drop-cons, eq-eqb, ne_eqb, lt-ltb, le-ltb, ltb-true, ltb-false, by-test}
use Rattle.keyed.specs.Keys.{reach, rest, head_val, head_fine}
use Rattle.postings.specs.Pack.{word_count, word_window, is_posting}
use Rattle.card.specs.declared.Cursor.{Cursor}
use Rattle.card.specs.Blocks.{link}
use Rattle.card.specs.Cursors.{ahead_at, ahead, Good, head_of, moved_of}
use Rattle.card.proofs.Cursors.{ahead_more, in_block, in-card, link-in, good-moved}
use Rattle.kway.specs.Parts.{part}
use Rattle.kway.proofs.Parts.{first-of}
use Rattle.heads.specs.Heads.{item_of, cursor_at, word_at, comes, Lies, coming, view, Kept}

-- four numbers
quad : (P : List ℕ → Type 0) → ((a b c d : ℕ) → P (a ∷ b ∷ c ∷ d ∷ [])) → (h : List ℕ) → length h ≡ 4 → P h
quad P f [] e = absurd (omega arith)
quad P f (a ∷ []) e = absurd (omega arith)
quad P f (a ∷ b ∷ []) e = absurd (omega arith)
quad P f (a ∷ b ∷ c ∷ []) e = absurd (omega arith)
quad P f (a ∷ b ∷ c ∷ d ∷ []) e = f a b c d
quad P f (a ∷ b ∷ c ∷ d ∷ x ∷ l) e = absurd (omega arith)

-- a word, and others after it
pub record More (W R : List ℕ) (p n : ℕ) : Type 0 where
  pub after : List ℕ
  pub same : comes W R p n ≡ word_at W R p ∷ after

module _ (W R : List ℕ) where
  -- ---- the words from a place on

  -- none
  pub comes-none : (p n : ℕ) → n ≡ 0 → comes W R p n ≡ []
  unfolding comes ahead_at
  comes-none p n e = rw e (by-test (ltb p 4194304) (λ y. rw y) (λ y. rw y))

  place-word : (p n : ℕ) → head_of W (cursor_at p n) ≡ get_or W p 0
  place-word p n = let a : 1024 * (p / 1024) + p % 1024 ≡ p = omega arith in rw a

  -- a place on the card
  pub place_in : (p n : ℕ) → 0 < n → Lies W R p n → p < 4194304 → p < length W
  place_in p n h g f =
      let q = g.card h f in
      let a = in_block W (cursor_at p n) h q in
      let b = in-card W (cursor_at p n) h q in
      omega (arith, b.inside)

  -- the word, on the card and in the run
  pub word-card : (p x : ℕ) → p < 4194304 → x ≡ get_or W p 0 → x ≡ word_at W R p
  unfolding word_at
  word-card p x h e = rw (lt-ltb p 4194304 h) e

  pub word-run : (p x : ℕ) → 4194304 ≤ p → x ≡ get_or R (p - 4194304) 0 → x ≡ word_at W R p
  unfolding word_at
  word-run p x h e = rw (le-ltb p 4194304 h) e

  module _ (p n : ℕ) (h : 0 < n) (g : Lies W R p n) where
    -- on the card
    card-more : p < 4194304 → comes W R p n ≡ word_at W R p ∷ ahead W (moved_of W (cursor_at p n))
    unfolding comes word_at
    card-more f = rw (lt-ltb p 4194304 f, ahead_more W (cursor_at p n) h, place-word p n)

    -- in the run
    run_more : 4194304 ≤ p → comes W R p n ≡ word_at W R p ∷ take (n - 1) (drop (p + 1 - 4194304) R)
    unfolding comes word_at
    run_more f =
        let i : p - 4194304 < length R = omega (arith, (g.run h f).0) in
        let s : suc (p - 4194304) ≡ p + 1 - 4194304 = omega arith in
        let m : n ≡ suc (n - 1) = omega arith in
        rw (le-ltb p 4194304 f, drop-cons R (p - 4194304) 0 i, s) (cut n m)
      where
        cut : (k : ℕ) → k ≡ suc (n - 1) → take k (get_or R (p - 4194304) 0 ∷ drop (p + 1 - 4194304) R) ≡ get_or R (p - 4194304) 0 ∷ take (n - 1) (drop (p + 1 - 4194304) R)
        cut k e = rw e

    -- the first, and others after it
    pub comes-some : More W R p n
    comes-some =
        by-test (ltb p 4194304)
        (λ y. record { after = ahead W (moved_of W (cursor_at p n)); same = card-more (ltb-true p 4194304 y) })
        (λ y. record { after = take (n - 1) (drop (p + 1 - 4194304) R); same = run_more (ltb-false p 4194304 y) })

    -- the last one
    pub comes-last : n ≡ 1 → comes W R p n ≡ word_at W R p ∷ []
    unfolding ahead_at
    comes-last e =
        by-test (ltb p 4194304)
        (λ y. card-more (ltb-true p 4194304 y) ∙ ap {B = List ℕ} (λ l. word_at W R p ∷ l) (gone (moved_of W (cursor_at p n)) (by-test (eqb (p % 1024) 1022 && ltb 1 n) (λ z. rw z (omega arith)) (λ z. rw z (omega arith)))))
        (λ y. let z : n - 1 ≡ 0 = omega arith in run_more (ltb-false p 4194304 y) ∙ rw z)
      where
        gone : (c : Cursor) → c.left ≡ 0 → ahead W c ≡ []
        gone c q = rw q

    module _ (m : 1 < n) where
      -- the place after, in the run
      pub after_run : 4194304 ≤ p → Lies W R (p + 1) (n - 1) × (comes W R p n ≡ word_at W R p ∷ comes W R (p + 1) (n - 1))
      unfolding comes
      after_run f =
          let q = g.run h f in
          let a = q.0 in
          let b = q.1 in
          (record { card = λ x y. absurd (omega arith); run = λ x y. (omega arith, omega arith) }, run_more f ∙ rw (le-ltb (p + 1) 4194304 (omega arith)))

      module _ (f : p < 4194304) where
        good : Good W (cursor_at p n)
        good = g.card h f

        moved : (r : ℕ) → r < 4194304 → cursor_at r (n - 1) ≡ moved_of W (cursor_at p n) → Lies W R r (n - 1) × (comes W R p n ≡ word_at W R p ∷ comes W R r (n - 1))
        unfolding comes
        moved r b e = (
          record { card = λ x y. subst (Good W) (sym e) (good-moved W (cursor_at p n) h good); run = λ x y. absurd (omega arith) },
          card-more f ∙ ap {B = List ℕ} (λ l. word_at W R p ∷ l) (ap (ahead W) (sym e)) ∙ rw (lt-ltb r 4194304 b),
        )

        -- on the card: at a block's end its link is followed
        pub link-place : p % 1024 ≡ 1022 → p + 1 < length W
        link-place e = let b = in-card W (cursor_at p n) h good in omega (arith, b.inside)

        linked : (x : ℕ) → p % 1024 ≡ 1022 → x ≡ get_or W (p + 1) 0 → x ≡ link W (p / 1024)
        linked x e q = let a : 1024 * (p / 1024) + 1023 ≡ p + 1 = omega arith in rw a q

        pub link-few : (x : ℕ) → p % 1024 ≡ 1022 → x ≡ get_or W (p + 1) 0 → x < 4096
        link-few x e q = let b = link-in W (cursor_at p n) m good e in omega (arith, b.few, linked x e q)

        pub after-link : (x : ℕ) → p % 1024 ≡ 1022 → x ≡ get_or W (p + 1) 0 → Lies W R (1024 * x) (n - 1) × (comes W R p n ≡ word_at W R p ∷ comes W R (1024 * x) (n - 1))
        after-link x e q =
            let a : 1024 * x / 1024 ≡ x = omega arith in
            let b : 1024 * x % 1024 ≡ 0 = omega arith in
            moved (1024 * x) (omega (arith, link-few x e q)) (rw (eq-eqb _ _ e, lt-ltb 1 n m, a, b, linked x e q))

        pub after_next : (p % 1024 ≡ 1022 → ⊥) → Lies W R (p + 1) (n - 1) × (comes W R p n ≡ word_at W R p ∷ comes W R (p + 1) (n - 1))
        after_next e =
            let i = in_block W (cursor_at p n) h good in
            let a : (p + 1) / 1024 ≡ p / 1024 = omega arith in
            let b : (p + 1) % 1024 ≡ p % 1024 + 1 = omega arith in
            moved (p + 1) (omega arith) (rw (ne_eqb _ _ e, a, b))

  -- ---- a head is put

  abbrev none : List ℕ → List ℕ
  none h = set (set h 0 0) 3 0

  -- of a spent list
  pub put-none : (h : List ℕ) → length h ≡ 4 → Kept W R (none h) × (coming W R (none h) ≡ []) × (0 ≡ reach (view W R (none h)))
  unfolding view
  put-none h e = quad (λ h. Kept W R (none h) × (coming W R (none h) ≡ []) × (0 ≡ reach (view W R (none h)))) each h e
    where
      each : (a b c d : ℕ) → Kept W R (0 ∷ b ∷ c ∷ 0 ∷ []) × (coming W R (0 ∷ b ∷ c ∷ 0 ∷ []) ≡ []) × (0 ≡ reach (view W R (0 ∷ b ∷ c ∷ 0 ∷ [])))
      each a b c d =
          let n = comes-none c 0 refl in
          (record { four = refl; lies = record { card = λ x y. absurd (omega arith); run = λ x y. absurd (omega arith) }; word = λ h. absurd (omega arith); top = rw n }, n, rw n)

  abbrev one : List ℕ → ℕ → ℕ → ℕ → List ℕ
  one h p n x = set (set (set (set h 0 (x / 65536 + 1)) 1 x) 2 p) 3 n

  -- of another
  pub put_some : (h : List ℕ) → length h ≡ 4 → (p n x : ℕ) → 0 < n → x ≡ word_at W R p → Lies W R p n
      → Kept W R (one h p n x) × (coming W R (one h p n x) ≡ comes W R p n) × (x / 65536 + 1 ≡ reach (view W R (one h p n x)))
  unfolding view
  put_some h e p n x l w g = quad (λ h. Kept W R (one h p n x) × (coming W R (one h p n x) ≡ comes W R p n) × (x / 65536 + 1 ≡ reach (view W R (one h p n x)))) each h e
    where
      reached : x / 65536 + 1 ≡ reach (map item_of (comes W R p n))
      reached = let c = comes-some p n l g in rw (c.same, ← w) (omega arith)

      each : (a b c d : ℕ) → Kept W R ((x / 65536 + 1) ∷ x ∷ p ∷ n ∷ []) × (coming W R ((x / 65536 + 1) ∷ x ∷ p ∷ n ∷ []) ≡ comes W R p n) × (x / 65536 + 1 ≡ reach (view W R ((x / 65536 + 1) ∷ x ∷ p ∷ n ∷ [])))
      each a b c d = (record { four = refl; lies = g; word = λ h. w; top = reached }, refl, reached)

  -- ---- a head is taken

  module _ (h : List ℕ) (g : Kept W R h) (k : ℕ) (t : get_or h 0 0 ≡ k + 1) where
    -- there is one
    pub some : 0 < get_or h 3 0
    unfolding view
    some = go (get_or h 3 0) refl
      where
        go : (n : ℕ) → get_or h 3 0 ≡ n → 0 < get_or h 3 0
        go zero e = let z : reach (view W R h) ≡ 0 = rw (comes-none (get_or h 2 0) (get_or h 3 0) e) in absurd (omega (arith, z, g.top))
        go (suc n) e = omega arith

    -- what is taken, where xs come after it
    pub hit : (xs : List ℕ) → coming W R h ≡ word_at W R (get_or h 2 0) ∷ xs
        → (map item_of xs ≡ rest k (view W R h)) × (word_count (get_or h 1 0) ≡ head_val k (view W R h)) × (is_posting (get_or h 1 0) ≡ head_fine k (view W R h))
    unfolding view
    hit xs m =
        let r : reach (view W R h) ≡ suc (word_window (word_at W R (get_or h 2 0))) = rw m in
        let q = eq-eqb (word_window (word_at W R (get_or h 2 0))) k (omega (arith, r, g.top)) in
        let w = g.word some in
        (rw (m, q), rw (w, m, q), rw (w, m, q))

-- what a head is left with
pub viewed : (W R h xs : List ℕ) → coming W R h ≡ xs → view W R h ≡ map item_of xs
unfolding view
viewed W R h xs e = rw e

-- the reach of head i
pub reach-at : (W R H : List ℕ) (i : ℕ) → Kept W R (part 4 i H) → get_or H (4 * i) 0 ≡ reach (view W R (part 4 i H))
reach-at W R H i g = sym (first-of 4 i H (omega arith)) ∙ g.top
