-- The turns of the loop over heads that are moved in place, whatever a head is: `view` is what it has still to come.
use Prim.Native.Nat.{max}
use Rattle.lists.proofs.Prelude.{Bool, true, ◌&&◌, and_assoc, and-true, List, [], ◌∷◌, ◌++◌, map, ◌≡◌, refl, sym, ◌∙◌, ℕ, ◌+◌, ◌*◌, ◌≤◌, arith, ℤ, pos, negsuc, ◌+ℤ◌, +ℤ_assoc, +ℤ_idl, +ℤ_idr, length, ne_eqb}
use lib.Signed.{lt_z}
use lib.Signed.{mag}
use Rattle.lists.proofs.Sizes.{mag_sum}
use Rattle.keyed.specs.Keys.{Item, reach, topmost_from, rest, head_val, head_fine, head_vals, heads_fine}
use Rattle.postings.specs.Sums.{is_above}
use Rattle.kway.specs.Parts.{part, parts}
use Rattle.kway.proofs.Parts.{put_in, views-more, Moved, moved_none, now-more, moved_more}

-- a test by sign
pub above-test : (z : ℤ) → lt_z (pos 0) z ≡ is_above z
above-test (pos n) = refl
above-test (negsuc n) = refl

-- a list whose head has another key stays, and gives nothing
pub missed : (k : ℕ) (l : List Item) → (reach l ≡ k + 1 → ⊥) → (l ≡ rest k l) × (pos 0 ≡ head_val k l) × (true ≡ head_fine k l)
missed k [] e = (refl, refl, refl)
missed k (x ∷ l) e = let t = ne_eqb x.key k (λ q. e (omega arith)) in (rw t, rw t, rw t)

-- ---- one more list at the end

vals-more : (k : ℕ) (l : List (List Item)) (x : List Item) → head_vals k (l ++ (x ∷ [])) ≡ head_vals k l +ℤ head_val k x
vals-more k [] x = +ℤ_idr (head_val k x) ∙ sym (+ℤ_idl (head_val k x))
vals-more k (y ∷ l) x = rw (vals-more k l x) (sym (+ℤ_assoc (head_val k y) (head_vals k l) (head_val k x)))

fine_more : (k : ℕ) (l : List (List Item)) (x : List Item) → heads_fine k (l ++ (x ∷ [])) ≡ (heads_fine k l && head_fine k x)
fine_more k [] x = and-true (head_fine k x)
fine_more k (y ∷ l) x = rw (fine_more k l x) (sym (and_assoc (head_fine k y) (heads_fine k l) (head_fine k x)))

pub top-more : (t : ℕ) (l : List (List Item)) (x : List Item) → topmost_from t (l ++ (x ∷ [])) ≡ max (topmost_from t l) (reach x)
top-more t [] x = refl
top-more t (y ∷ l) x = top-more (max t (reach y)) l x

-- no list has a head
pub top-none : (view : List ℕ → List Item) (w : ℕ) (H : List ℕ) → 0 ≡ topmost_from 0 (map view (parts w 0 H))
unfolding parts
top-none view w H = refl

-- ---- what stands after i turns of taking the key k

pub record Turn (view : List ℕ → List Item) (K : List ℕ → Type 0) (w k : ℕ) (H₀ : List ℕ) (i : ℕ) (H : List ℕ) (sum : ℤ) (fine : Bool) (next : ℕ) : Type 0 where
  pub heads : Moved view K (rest k) w H₀ i H
  pub size : mag sum ≤ 32768 * i
  pub total : sum ≡ head_vals k (map view (parts w i H₀))
  pub formed : fine ≡ heads_fine k (map view (parts w i H₀))
  pub top : next ≡ topmost_from 0 (map view (parts w i H))

module _ (view : List ℕ → List Item) (K : List ℕ → Type 0) (w k : ℕ) (H₀ : List ℕ) where
  pub turn-none : Turn view K w k H₀ 0 H₀ (pos 0) true 0
  unfolding parts
  turn-none = record { heads = moved_none view K (rest k) w H₀; size = omega arith; total = refl; formed = refl; top = refl }

  pub turn_more : (i : ℕ) (H : List ℕ) (sum : ℤ) (fine : Bool) (next : ℕ) → Turn view K w k H₀ i H sum fine next → w * i + w ≤ length H₀
      → (h : List ℕ) (v : ℤ) (b : Bool) (r : ℕ) → length h ≡ w → K h
      → view h ≡ rest k (view (part w i H)) → v ≡ head_val k (view (part w i H)) → b ≡ head_fine k (view (part w i H)) → r ≡ reach (view h) → mag v ≤ 32767
      → Turn view K w k H₀ (i + 1) (put_in w H h i) (sum +ℤ v) (fine && b) (max next r)
  turn_more i H sum fine next t fits h v b r long g ev ec eb er small =
      let m = t.heads in
      let was = m.later i (omega arith) in
      let s = t.size in
      let z = mag_sum sum v in
      record {
        heads = moved_more view K (rest k) w H₀ i H m fits h long g (rw (← was) ev);
        size = omega arith;
        total = rw (views-more view w i H₀, vals-more k (map view (parts w i H₀)) (view (part w i H₀)), ← t.total, ec, was);
        formed = rw (views-more view w i H₀, fine_more k (map view (parts w i H₀)) (view (part w i H₀)), ← t.formed, eb, was);
        top = rw (now-more view K (rest k) w H₀ i H m fits h long, top-more 0 (map view (parts w i H)) (view h), ← t.top, er);
      }
