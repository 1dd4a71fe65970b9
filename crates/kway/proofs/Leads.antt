-- The list that leads: what is taken under a key that no other list has.
use Prim.Native.Nat.{max}
use Rattle.lists.proofs.Prelude.{true, and-true, List, [], ◌∷◌, ◌++◌, map, ⊎_elim, ◌≡◌, refl, sym, ap, ap₂, ◌∙◌, ℕ, zero, suc, ◌+◌, ◌*◌, ◌<◌, ◌≤◌, eq-or-lt_of_le, arith, pos, +ℤ_idl, +ℤ_idr, length, get_or, set, length-append, set-append_left, set-append_seam, get_or_at, AllOf, map-append, set-set, List·getD-append}
use Rattle.keyed.specs.Keys.{Item, reach, topmost_from, rest, head_val, head_fine, head_vals, heads_fine}
use Rattle.keyed.proofs.Walk.{Under, none, more, under_top}
use Rattle.kway.specs.Parts.{part, parts}
use Rattle.kway.specs.Leads.{Leads}
use Rattle.kway.proofs.Parts.{put_in, ends, put-here, put-before, put-later}
use Rattle.kway.proofs.Turns.{missed, top-more}

-- ---- lists that do not have the key

pub record Still (k : ℕ) (g : List (List Item)) : Type 0 where
  pub sum : head_vals k g ≡ pos 0
  pub fine : heads_fine k g ≡ true
  pub rests : map (rest k) g ≡ g

still-under : (k t : ℕ) (g : List (List Item)) → t ≤ k → Under t g → Still k g
still-under k t [] h none = record { sum = refl; fine = refl; rests = refl }
still-under k t (l ∷ g) h (more a u) =
    let r = still-under k t g h u in
    let m = missed k l (λ q. omega arith) in
    record { sum = rw (sym m.1, r.sum); fine = rw (sym m.2, r.fine); rests = ap₂ {C = List (List Item)} (λ x y. x ∷ y) (sym m.0) r.rests }

pub still-at : (k : ℕ) (g : List (List Item)) → topmost_from 0 g ≤ k → Still k g
still-at k g h = still-under k (topmost_from 0 g) g h (under_top 0 g)

-- ---- all but one do not have it

pub record Alone (k : ℕ) (ls : List (List Item)) (c : ℕ) : Type 0 where
  pub sum : head_vals k ls ≡ head_val k (get_or ls c [])
  pub fine : heads_fine k ls ≡ head_fine k (get_or ls c [])
  pub rests : map (rest k) ls ≡ set ls c (rest k (get_or ls c []))

alone-under : (k t : ℕ) (ls : List (List Item)) (c : ℕ) → c < length ls → t ≤ k → Under t (set ls c []) → Alone k ls c
alone-under k t [] c h q u = absurd (omega arith)
alone-under k t (l ∷ ls) zero h q (more a u) =
    let s = still-under k t ls q u in
    record { sum = rw s.sum (+ℤ_idr (head_val k l)); fine = rw s.fine (and-true (head_fine k l)); rests = ap {B = List (List Item)} (λ x. rest k l ∷ x) s.rests }
alone-under k t (l ∷ ls) (suc c) h q (more a u) =
    let r = alone-under k t ls c (omega arith) q u in
    let m = missed k l (λ e. omega arith) in
    record { sum = rw (sym m.1, r.sum) (+ℤ_idl _); fine = rw (sym m.2, r.fine); rests = ap₂ {C = List (List Item)} (λ x y. x ∷ y) (sym m.0) r.rests }

-- ---- the greatest key, with another list in one place

top-larger : (t r : ℕ) (ls : List (List Item)) → topmost_from (max t r) ls ≡ max (topmost_from t ls) r
top-larger t r [] = refl
top-larger t r (l ∷ ls) = let s : max (max t r) (reach l) ≡ max (max t (reach l)) r = omega arith in rw s (top-larger (max t (reach l)) r ls)

top_set : (t : ℕ) (ls : List (List Item)) (c : ℕ) (y : List Item) → c < length ls → topmost_from t (set ls c y) ≡ max (topmost_from t (set ls c [])) (reach y)
top_set t [] c y h = absurd (omega arith)
top_set t (l ∷ ls) zero y h = let n : max t 0 ≡ t = omega arith in top-larger t (reach y) ls ∙ ap (λ (x : ℕ). max (topmost_from x ls) (reach y)) (sym n)
top_set t (l ∷ ls) (suc c) y h = top_set (max t (reach l)) ls c y (omega arith)

-- ---- the turns of the search for the list that leads

pub record Found (ls : List (List Item)) (j t c o : ℕ) : Type 0 where
  pub top : t ≡ topmost_from 0 ls
  pub others : Leads ls c o
  pub inside : 0 < t → c < j

pub found_none : (view : List ℕ → List Item) (w : ℕ) (H : List ℕ) → Found (map view (parts w 0 H)) 0 0 0 0
unfolding parts
found_none view w H = record { top = refl; others = refl; inside = λ q. omega arith }

module _ (ls : List (List Item)) (j : ℕ) (long : length ls ≡ j) (x : List Item) (top at others : ℕ) (f : Found ls j top at others) where
  pub found-other : reach x < top → Found (ls ++ (x ∷ [])) (j + 1) top at (max others (reach x))
  found-other h =
      let i = f.inside (omega arith) in
      record {
        top = f.top ∙ sym (top-more 0 ls x ∙ rw (← f.top) (omega arith));
        others = rw (set-append_left ls (x ∷ []) at [] (omega arith), top-more 0 (set ls at []) x, ← f.others);
        inside = λ q. omega arith;
      }

  pub found-this : top ≤ reach x → Found (ls ++ (x ∷ [])) (j + 1) (reach x) j top
  found-this h =
      record {
        top = sym (top-more 0 ls x ∙ rw (← f.top) (omega arith));
        others = rw (← long, set-append_seam ls x [] [], top-more 0 ls []) (omega (arith, f.top));
        inside = λ q. omega arith;
      }

-- ---- one head put back in its place

length-parts : (w n : ℕ) (H : List ℕ) → length (parts w n H) ≡ n
unfolding parts
length-parts w zero H = refl
length-parts w (suc n) H = length-append (parts w n H) (part w n H ∷ []) ∙ let r = length-parts w n H in omega arith

pub length-views : {X : Type 0} (view : List ℕ → X) (w n : ℕ) (H : List ℕ) → length (map view (parts w n H)) ≡ n
length-views view w n H = long (parts w n H) ∙ length-parts w n H
  where
    long : (l : List (List ℕ)) → length (map view l) ≡ length l
    long [] = refl
    long (x ∷ l) = ap suc (long l)

module _ (w : ℕ) (H h : List ℕ) (c : ℕ) (inside : w * c + w ≤ length H) (long : length h ≡ w) where
  abbrev after : List ℕ
  after = put_in w H h c

  before : (n : ℕ) → n ≤ c → parts w n after ≡ parts w n H
  unfolding parts
  before zero q = refl
  before (suc n) q = rw (before n (omega arith), put-before w H h c inside long n (omega arith))

  put-parts : (n : ℕ) → c < n → parts w n after ≡ set (parts w n H) c h
  unfolding parts
  put-parts zero q = absurd (omega arith)
  put-parts (suc n) q =
      ⊎_elim
      (λ e. rw (before n (omega arith), ← e, put-here w H h c inside long) (sym (ap (λ (i : ℕ). set (parts w c H ++ (part w c H ∷ [])) i h) (sym (length-parts w c H)) ∙ set-append_seam (parts w c H) (part w c H) [] h)))
      (λ l. rw (put-parts n l, put-later w H h c inside long n l) (sym (set-append_left (parts w n H) (part w n H ∷ []) c h (omega (arith, length-parts w n H)))))
      (eq-or-lt_of_le {n = c} {m = n} (omega arith))

  pub put-views : {X : Type 0} (view : List ℕ → X) (n : ℕ) → c < n → map view (parts w n after) ≡ set (map view (parts w n H)) c (view h)
  put-views view n q = ap (map view) (put-parts n q) ∙ shown (parts w n H) c
    where
      shown : (l : List (List ℕ)) (i : ℕ) → map view (set l i h) ≡ set (map view l) i (view h)
      shown [] i = refl
      shown (x ∷ l) zero = refl
      shown (x ∷ l) (suc i) = ap (λ y. view x ∷ y) (shown l i)

  pub put_all : (K : List ℕ → Type 0) (n : ℕ) → c < n → AllOf K (parts w n H) → K h → AllOf K (parts w n after)
  unfolding AllOf
  put_all K n q a k = rw (put-parts n q) (kept (parts w n H) c a)
    where
      kept : (l : List (List ℕ)) (i : ℕ) → AllOf K l → AllOf K (set l i h)
      kept [] i a = tt
      kept (x ∷ l) zero a = (k, a.1)
      kept (x ∷ l) (suc i) a = (a.0, kept l i a.1)

pub view-at : {X : Type 0} (view : List ℕ → X) (w n : ℕ) (H : List ℕ) (c : ℕ) (d : X) → c < n → get_or (map view (parts w n H)) c d ≡ view (part w c H)
unfolding parts
view-at view w zero H c d q = absurd (omega arith)
view-at view w (suc n) H c d q =
    let l = length-views view w n H in
    ap (λ z. get_or z c d) (map-append view (parts w n H) (part w n H ∷ []))
    ∙ ⊎_elim
    (λ e. rw e (get_or_at (map view (parts w n H)) (view (part w n H)) [] d n l))
    (λ h. List·getD-append (map view (parts w n H)) (view (part w n H) ∷ []) d c (omega arith) ∙ view-at view w n H c d h)
    (eq-or-lt_of_le {n = c} {m = n} (omega arith))

-- ---- what is taken of the list that leads

module _ (view : List ℕ → List Item) (K : List ℕ → Type 0) (w n : ℕ) (H : List ℕ) (fits : w * n ≤ length H) (c o k : ℕ) (kept : AllOf K (parts w n H)) (leads : Leads (map view (parts w n H)) c o)
    (inside : c < n) (low : o ≤ k) (h : List ℕ) (whole : length h ≡ w) (good : K h) (moved : view h ≡ rest k (view (part w c H))) where
  abbrev ls : List (List Item)
  ls = map view (parts w n H)

  room : w * c + w ≤ length H
  room = let e = ends w c n inside in omega arith

  alone : Alone k ls c
  alone = alone-under k (topmost_from 0 (set ls c [])) ls c (omega (arith, length-views view w n H)) (omega arith) (under_top 0 (set ls c []))

  here : get_or ls c [] ≡ view (part w c H)
  here = view-at view w n H c [] inside

  pub led-rests : map view (parts w n (put_in w H h c)) ≡ map (rest k) ls
  led-rests = put-views w H h c room whole view n inside ∙ rw (moved, ← here) (sym alone.rests)

  pub led-kept : AllOf K (parts w n (put_in w H h c))
  led-kept = put_all w H h c room whole K n inside kept good

  pub led-sum : head_vals k ls ≡ head_val k (view (part w c H))
  led-sum = alone.sum ∙ ap (head_val k) here

  pub led-fine : heads_fine k ls ≡ head_fine k (view (part w c H))
  led-fine = alone.fine ∙ ap (head_fine k) here

  pub led-top : max o (reach (view h)) ≡ topmost_from 0 (map view (parts w n (put_in w H h c)))
  led-top = rw (put-views w H h c room whole view n inside, top_set 0 ls c (view h) (omega (arith, length-views view w n H)), ← leads)

  pub led-leads : Leads (map view (parts w n (put_in w H h c))) c o
  led-leads = rw (put-views w H h c room whole view n inside, set-set ls c (view h) []) leads
