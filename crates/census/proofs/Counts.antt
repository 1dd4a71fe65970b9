-- How many windows are marked, and with one more.
use Rattle.lists.proofs.Prelude.{Bool, true, false, ◌&&◌, ◌||◌, not, or-false, and-false, List, ◌≡◌, refl, sym, ap, ◌∙◌, ℕ, zero, suc, ◌+◌, ◌≤◌, arith, eqb, ℤ, length, eqb-true, eqb-false, eq-eqb, ne_eqb, not-true, keep, down, by-test, and_left, and_right, never, keep-none, keep_same, any_none, length-keep, keep-less, elem-down}
use Rattle.lists.proofs.TopK.{different-down}
use Rattle.postings.specs.declared.Stretch.{Stretch}
use Rattle.postings.specs.Sums.{is_above}
use Rattle.state.specs.Shown.{shows_in}
use Rattle.census.specs.Marks.{marked, Covers, Unmarked, MarkStep}
use Rattle.census.proofs.Marks.{in-stretch}

pub length-down : (n : ℕ) → length (down n) ≡ n
unfolding down
length-down zero = refl
length-down (suc n) = ap suc (length-down n)

-- no more windows pass a test than there are
pub few-kept : (t : ℕ → Bool) → length (keep t (down 65535)) ≤ 65535
few-kept t = omega (arith, length-keep t (down 65535), length-down 65535)

-- how many windows that show in the stretch are marked
unfoldable pub counted : Stretch → ℕ → List ℕ → ℕ
counted t o M = length (keep (λ v. shows_in t o v && marked t M v) (down 65535))

module _ (t : Stretch) (o : ℕ) (M : List ℕ) where
  pub counted_none : Unmarked M → counted t o M ≡ 0
  unfolding counted
  counted_none u = ap length (keep-none (λ v. shows_in t o v && marked t M v) (down 65535) (any_none (λ v. shows_in t o v && marked t M v) (λ v. rw (u _) (and-false (shows_in t o v))) (down 65535)))

  pub counted-few : counted t o M ≤ 65535
  unfolding counted
  counted-few = few-kept (λ v. shows_in t o v && marked t M v)

  module _ (w : ℕ) (z : ℤ) (r : ℕ) (M' : List ℕ) (s : MarkStep t o w z M r M') where
    abbrev before : ℕ → Bool
    before v = shows_in t o v && marked t M v

    abbrev after : ℕ → Bool
    after v = shows_in t o v && marked t M' v

    -- the tests differ at the window alone
    other : (v : ℕ) → (w ≡ v → ⊥) → after v ≡ before v
    other v n =
        by-test (shows_in t o v)
        (λ y. rw y (s.marks v y ∙ rw (ne_eqb w v n) (or-false (marked t M v))))
        (λ f. rw f)

    -- and not there where it was marked, or is not to be
    own : ((shows_in t o w && is_above z) && not (marked t M w)) ≡ false → after w ≡ before w
    own e =
        by-test (shows_in t o w)
        (λ y. rw y (s.marks w y ∙ kept (marked t M w) (eqb w w) (is_above z) (rw y at e)))
        (λ f. rw f)
      where
        kept : (m q a : Bool) → (a && not m) ≡ false → (m || (q && a)) ≡ m
        kept true q a e = refl
        kept false q false e = and-false q
        kept false q true e = never (sym e)

    pub counted-more : Covers t M → w ≤ 65535 → counted t o M' ≡ counted t o M + r
    unfolding counted
    counted-more c h =
        by-test ((shows_in t o w && is_above z) && not (marked t M w))
        (λ y. let a = and_left (shows_in t o w && is_above z) _ y in
        let i = and_left (shows_in t o w) _ a in
        let u : marked t M w ≡ false = not-true _ (and_right (shows_in t o w && is_above z) _ y) in
        let one : r ≡ 1 = s.more ∙ rw y in
        let new : after w ≡ true = rw (i, s.marks w i, u, eq-eqb w w refl, and_right (shows_in t o w) _ a) in
        let l = in-stretch t o w z M i in
        let k = keep-less after before w other new (rw (i, u)) (down 65535) (different-down 65535) (elem-down 65535 w (omega (arith, c.some, l.0)) h) in
        omega arith)
        (λ n. let none : r ≡ 0 = s.more ∙ rw n in
        let k : length (keep after (down 65535)) ≡ length (keep before (down 65535)) = ap length (keep_same after before (each n) (down 65535)) in
        omega arith)
      where
        each : ((shows_in t o w && is_above z) && not (marked t M w)) ≡ false → (v : ℕ) → after v ≡ before v
        each n v = by-test (eqb w v) (λ y. let q = eqb-true w v y in rw (← q) (own n)) (λ f. other v (eqb-false w v f))
