-- What a test keeps of a list of identifiers, where one identifier is added to the list or changes its answer.
use Rattle.lists.proofs.Prelude.{Bool, true, false, not, cond, or-false, List, [], ◌∷◌, append-nil, ◌≡◌, refl, sym, ap, ◌∙◌, ℕ, suc, ◌≤◌, arith, length, length-append, eqb, ne_eqb, not-true, keep, any, same, down, by-test, and_left, and_right, or_right, or-none, same_true, same-swap, keep_append, any_append, keep-less, elem-down, eq-eqb}
use Rattle.lists.proofs.TopK.{different-down}
use Rattle.identifiers.specs.Names.{Name, among, distinct}
use Rattle.accounts.specs.Ledger.{including}

-- an identifier that is there and passes
pub any-among : (t : Name → Bool) (ms : List Name) (n : Name) → among n ms ≡ true → t n ≡ true → any t ms ≡ true
any-among t [] n e f = cc
any-among t (m ∷ ms) n e f =
    by-test (same m n)
    (λ y. rw (same_true m n y, f))
    (λ z. or_right (t m) _ (any-among t ms n (rw z at e) f))

-- ---- one identifier more, which does not pass

pub any-including : (t : Name → Bool) (ms : List Name) (n : Name) → (among n ms ≡ false → t n ≡ false) → any t (including ms n) ≡ any t ms
any-including t ms n h =
    by-test (among n ms) (λ y. rw y) (λ z. rw z (any_append t ms (n ∷ []) ∙ rw (h z, or-false (any t ms))))

pub keep-including : (t : Name → Bool) (ms : List Name) (n : Name) → (among n ms ≡ false → t n ≡ false) → keep t (including ms n) ≡ keep t ms
keep-including t ms n h =
    by-test (among n ms) (λ y. rw y) (λ z. rw z (keep_append t ms (n ∷ []) ∙ rw (h z) (append-nil (keep t ms))))

-- ---- one identifier that comes to pass

module _ (t u : Name → Bool) (n : Name) (else : (m : Name) → same n m ≡ false → u m ≡ t m) where
  -- where it is not there, nothing changes
  keep_apart : (ms : List Name) → among n ms ≡ false → keep u ms ≡ keep t ms
  keep_apart [] e = refl
  keep_apart (m ∷ ms) e =
      let d = or-none (same m n) _ e in
      rw (else m (same-swap n m ∙ d.0), keep_apart ms d.1)

  module _ (before : t n ≡ false) (now : u n ≡ true) where
    flip-there : (ms : List Name) → distinct ms ≡ true → among n ms ≡ true → length (keep u ms) ≡ suc (length (keep t ms))
    flip-there [] d e = cc
    flip-there (m ∷ ms) d e =
        by-test (same m n)
        (λ y. let q = same_true m n y in
        let f : among n ms ≡ false = sym (ap (λ x. among x ms) q) ∙ not-true _ (and_left (not (among m ms)) _ d) in
        rw (q, before, now, keep_apart ms f))
        (λ z. let f = flip-there ms (and_right (not (among m ms)) _ d) (rw z at e) in
        rw (else m (same-swap n m ∙ z)) (by-test (t m) (λ y. rw y (ap suc f)) (λ x. rw x f)))

    -- one more passes, whether it was there or comes to be
    pub flip : (ms : List Name) → distinct ms ≡ true → length (keep u (including ms n)) ≡ suc (length (keep t ms))
    flip ms d =
        by-test (among n ms)
        (λ y. rw y (flip-there ms d y))
        (λ z. rw z (ap length (keep_append u ms (n ∷ [])) ∙ length-append (keep u ms) (keep u (n ∷ [])) ∙ rw (now, keep_apart ms z) (omega arith)))

-- ---- one window less

pub keep_out : (t u : ℕ → Bool) (w m : ℕ) → 1 ≤ w → w ≤ m → t w ≡ true → ((v : ℕ) → u v ≡ cond (eqb w v) false (t v))
    → length (keep t (down m)) ≡ suc (length (keep u (down m)))
keep_out t u w m h k e d =
    keep-less t u w (λ v r. sym (d v ∙ rw (ne_eqb w v r))) e (d w ∙ rw (eq-eqb w w refl)) (down m) (different-down m) (elem-down m w h k)
