-- A part put back into an array: it stands in its place, and the others are as they were.
use Rattle.lists.proofs.Prelude.{List, [], ◌∷◌, ◌++◌, map, ⊎_elim, ◌≡◌, refl, sym, ap, ◌∙◌, ℕ, zero, suc, ◌+◌, ◌-◌, ◌*◌, ◌<◌, ◌≤◌, eq-or-lt_of_le, mul-suc, mul-le-mul_left, add-one, arith, length, add-zero, get_or, get_or-take, get_or-drop, take, drop, take-append-drop, length-drop, length-take-le, take_at, drop_at, take-append-le, drop-append-le, drop-drop, take-suc, AllOf, map-append}
use borrow.Rule.Slice.PartMut.{put_mid, same_len_mid, mid_len, drop_put}
use Rattle.kway.specs.Parts.{part, parts}

-- the array H with P as its part i
abbrev pub put_in : ℕ → List ℕ → List ℕ → ℕ → List ℕ
put_in w H P i = put_mid (w * i) (w * i + w - w * i) H P

-- the end of an earlier part
pub ends : (w j i : ℕ) → j < i → w * j + w ≤ w * i
ends w j i h = let a = mul-le-mul_left {m = suc j} {n = i} w h in let b = mul-suc w j in omega arith

-- the first number of a part
pub first-of : (w i : ℕ) (H : List ℕ) → 0 < w → get_or (part w i H) 0 0 ≡ get_or H (w * i) 0
first-of w i H h = get_or-take w (drop (w * i) H) 0 0 h ∙ get_or-drop (w * i) H 0 0 ∙ ap (λ (n : ℕ). get_or H n 0) (add-zero (w * i))

pub width : (w i : ℕ) → w * i + w - w * i ≡ w
width w i = omega arith

module _ (w : ℕ) (H P : List ℕ) (i : ℕ) (inside : w * i + w ≤ length H) (long : length P ≡ w) where
  abbrev after : List ℕ
  after = put_in w H P i

  front : length (take (w * i) H) ≡ w * i
  front = length-take-le (w * i) H (omega arith)

  pub put-length : length after ≡ length H
  put-length = same_len_mid (w * i) (w * i + w - w * i) H P (long ∙ sym (width w i) ∙ sym (mid_len (w * i) (w * i + w) H inside))

  pub put-here : part w i after ≡ P
  put-here = rw (drop_at (take (w * i) H) (P ++ drop (w * i + w - w * i) (drop (w * i) H)) (w * i) front) (take_at P _ w long)

  -- what stands before depends on the front alone
  earlier : (R : List ℕ) (j : ℕ) → j < i → part w j (take (w * i) H ++ R) ≡ part w j (take (w * i) H)
  earlier R j h =
      let l = length-drop (w * j) (take (w * i) H) in
      let e = ends w j i h in
      rw (drop-append-le (w * j) (take (w * i) H) R (omega (arith, front))) (take-append-le w (drop (w * j) (take (w * i) H)) R (omega (arith, front, l)))

  pub put-before : (j : ℕ) → j < i → part w j after ≡ part w j H
  put-before j h = earlier _ j h ∙ sym (earlier (drop (w * i) H) j h) ∙ ap (part w j) (take-append-drop (w * i) H)

  pub put-later : (j : ℕ) → i < j → part w j after ≡ part w j H
  put-later j h =
      let b = ends w i j h in
      let e : w * i + w + (w * j - (w * i + w)) ≡ w * j = omega arith in
      let on : (L : List ℕ) → drop (w * j) L ≡ drop (w * j - (w * i + w)) (drop (w * i + w) L) = λ L. sym (drop-drop (w * j - (w * i + w)) (w * i + w) L ∙ rw e) in
      rw (on after, on H, drop_put (w * i) (w * i + w) H P (omega arith) inside (long ∙ sym (width w i)))

-- ---- one more at the end

pub all_more : {A : Type 0} (P : A → Type 0) (l : List A) (x : A) → AllOf P l → P x → AllOf P (l ++ (x ∷ []))
unfolding AllOf
all_more P [] x a p = (p, tt)
all_more P (y ∷ l) x a p = (a.0, all_more P l x a.1 p)

all-less : {A : Type 0} (P : A → Type 0) (l : List A) (x : A) → AllOf P (l ++ (x ∷ [])) → AllOf P l × P x
unfolding AllOf
all-less P [] x a = (tt, a.0)
all-less P (y ∷ l) x a = let r = all-less P l x a.1 in ((a.0, r.0), r.1)

-- each of the first n
pub all-at : (K : List ℕ → Type 0) (w n : ℕ) (H : List ℕ) → AllOf K (parts w n H) → (i : ℕ) → i < n → K (part w i H)
unfolding parts
all-at K w zero H a i h = absurd (omega arith)
all-at K w (suc n) H a i h =
    let r = all-less K (parts w n H) (part w n H) a in
    ⊎_elim (λ q. rw q r.1) (λ q. all-at K w n H r.0 i q) (eq-or-lt_of_le {n = i} {m = n} (omega arith))

-- the first n are the same where each is
parts_same : (w n : ℕ) (H H' : List ℕ) → ((j : ℕ) → j < n → part w j H' ≡ part w j H) → parts w n H' ≡ parts w n H
unfolding parts
parts_same w zero H H' e = refl
parts_same w (suc n) H H' e = rw (parts_same w n H H' (λ j h. e j (omega arith)), e n (omega arith))

pub views-more : {X : Type 0} (view : List ℕ → X) (w n : ℕ) (H : List ℕ) → map view (parts w (n + 1) H) ≡ map view (parts w n H) ++ (view (part w n H) ∷ [])
unfolding parts
views-more view w n H = rw (add-one n) (map-append view (parts w n H) (part w n H ∷ []))

-- ---- parts that are moved in place, from the first on: view is what a part stands for, K what holds of it, f the move

pub record Moved {X : Type 0} (view : List ℕ → X) (K : List ℕ → Type 0) (f : X → X) (w : ℕ) (H₀ : List ℕ) (i : ℕ) (H : List ℕ) : Type 0 where
  pub long : length H ≡ length H₀
  pub later : (j : ℕ) → i ≤ j → part w j H ≡ part w j H₀
  pub kept : AllOf K (parts w i H)
  pub moved : map view (parts w i H) ≡ map f (map view (parts w i H₀))

module _ {X : Type 0} (view : List ℕ → X) (K : List ℕ → Type 0) (f : X → X) (w : ℕ) (H₀ : List ℕ) where
  pub moved_none : Moved view K f w H₀ 0 H₀
  unfolding parts AllOf
  moved_none = record { long = refl; later = λ j h. refl; kept = tt; moved = refl }

  module _ (i : ℕ) (H : List ℕ) (t : Moved view K f w H₀ i H) (fits : w * i + w ≤ length H₀) (h : List ℕ) (long : length h ≡ w) where
    inside : w * i + w ≤ length H
    inside = omega (arith, t.long)

    same : parts w i (put_in w H h i) ≡ parts w i H
    same = parts_same w i H (put_in w H h i) (put-before w H h i inside long)

    -- what the parts stand for, with the new one
    pub now-more : map view (parts w (i + 1) (put_in w H h i)) ≡ map view (parts w i H) ++ (view h ∷ [])
    now-more = views-more view w i (put_in w H h i) ∙ rw (same, put-here w H h i inside long)

    pub moved_more : K h → view h ≡ f (view (part w i H₀)) → Moved view K f w H₀ (i + 1) (put_in w H h i)
    unfolding parts
    moved_more g e = record {
      long = put-length w H h i inside long ∙ t.long;
      later = λ j l. put-later w H h i inside long j (omega arith) ∙ t.later j (omega arith);
      kept = rw (add-one i) (all_more K (parts w i (put_in w H h i)) (part w i (put_in w H h i)) (rw same t.kept) (rw (put-here w H h i inside long) g));
      moved = now-more ∙ rw (t.moved, e, views-more view w i H₀) (sym (map-append f (map view (parts w i H₀)) (view (part w i H₀) ∷ [])));
    }

-- ---- parts that are put one after another, from the first on, each for the same place of a list: view is what a part stands for, f what is to stand there

pub record Opened {X Y : Type 0} (view : List ℕ → X) (K : List ℕ → Type 0) (f : Y → X) (w long₀ : ℕ) (ys : List Y) (i : ℕ) (H : List ℕ) : Type 0 where
  pub long : length H ≡ long₀
  pub kept : AllOf K (parts w i H)
  pub shown : map view (parts w i H) ≡ map f (take i ys)

module _ {X Y : Type 0} (view : List ℕ → X) (K : List ℕ → Type 0) (f : Y → X) (w : ℕ) (ys : List Y) where
  pub opened-none : (H : List ℕ) → Opened view K f w (length H) ys 0 H
  unfolding parts AllOf
  opened-none H = record { long = refl; kept = tt; shown = refl }

  module _ (H : List ℕ) (i : ℕ) (h : List ℕ) (inside : w * i + w ≤ length H) (long : length h ≡ w) where
    others : parts w i (put_in w H h i) ≡ parts w i H
    others = parts_same w i H (put_in w H h i) (put-before w H h i inside long)

    -- what the parts stand for, with the new one
    pub shown-more : map view (parts w (i + 1) (put_in w H h i)) ≡ map view (parts w i H) ++ (view h ∷ [])
    shown-more = views-more view w i (put_in w H h i) ∙ rw (others, put-here w H h i inside long)

    pub opened-more : (long₀ : ℕ) → Opened view K f w long₀ ys i H → i < length ys → (d : Y) → K h → view h ≡ f (get_or ys i d) → Opened view K f w long₀ ys (i + 1) (put_in w H h i)
    unfolding parts
    opened-more long₀ t l d g e = record {
      long = put-length w H h i inside long ∙ t.long;
      kept = rw (add-one i) (all_more K (parts w i (put_in w H h i)) (part w i (put_in w H h i)) (rw others t.kept) (rw (put-here w H h i inside long) g));
      shown = shown-more ∙ rw (t.shown, e, add-one i, take-suc ys i d l) (sym (map-append f (take i ys) (get_or ys i d ∷ [])));
    }
