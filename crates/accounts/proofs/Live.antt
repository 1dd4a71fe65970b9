-- Which windows are live after each call, and how many exist.
use Rattle.lists.proofs.Prelude.{Bool, true, false, cond, ◌&&◌, ◌≡◌, refl, sym, ap, ◌∙◌, fun_ext, ℕ, suc, ◌-◌, ◌≤◌, arith, eqb, ltb, length, eqb-false, eq-eqb, ne_eqb, lt-ltb, keep, any, same, down, by-test, same_refl, any_none, keep-down, and-false}
use Rattle.identifiers.specs.Names.{Name, among}
use Rattle.accounts.specs.Ledger.{Ledger, live, shown, existing, opens, closes, including, counts, removes}
use Rattle.accounts.proofs.Numbers.{among-itself}
use Rattle.accounts.proofs.Picks.{any-among, any-including, keep_out}

-- ---- which are live

-- a window in which nothing counts
pub not_live : (l : Ledger) (w : ℕ) → ((n : Name) → l.count n w ≡ 0) → live l w ≡ false
unfolding live
not_live l w h = any_none (λ n. ltb 0 (l.count n w)) (λ n. ap (ltb 0) (h n)) l.identifiers

-- the open window after an event
pub live-counts : (l : Ledger) (n : Name) → live (counts l n) l.last ≡ true
unfolding live counts
live-counts l n =
    any-among (λ m. ltb 0 ((counts l n).count m l.last)) (including l.identifiers n) n (among-itself l.identifiers n)
    (rw (same_refl n, eq-eqb l.last l.last refl) (lt-ltb 0 (suc (l.count n l.last)) (omega arith)))

-- every other window after an event
pub live-counts-other : (l : Ledger) (n : Name) (v : ℕ) → (among n l.identifiers ≡ false → l.count n v ≡ 0) → (l.last ≡ v → ⊥) → live (counts l n) v ≡ live l v
unfolding live counts
live-counts-other l n v new d =
    ap (λ (t : Name → Bool). any t (including l.identifiers n)) (fun_ext λ m. rw (ne_eqb l.last v d, and-false (same n m)))
    ∙ any-including (λ m. ltb 0 (l.count m v)) l.identifiers n (λ z. ap (ltb 0) (new z))

-- after a removal
pub live-removes : (l : Ledger) (w v : ℕ) → live (removes l w) v ≡ cond (eqb w v) false (live l v)
unfolding live removes
live-removes l w v =
    by-test (eqb w v) (λ y. rw y (any_none (λ (n : Name). ltb 0 0) (λ n. refl) l.identifiers)) (λ z. rw z)

-- ---- how many exist

-- of the windows up to a number
abbrev up_to : Ledger → ℕ → ℕ
up_to l m = length (keep (live l) (down m))

-- where none is open, all that were given may exist
pub existing-shut : (l : Ledger) → l.is_open ≡ false → existing l ≡ up_to l l.last
unfolding existing shown
existing-shut l n = rw n

-- where one is open, all but the last
pub existing-open : (l : Ledger) → l.is_open ≡ true → existing l ≡ up_to l (l.last - 1)
unfolding existing shown
existing-open l o = rw o

-- opening a window brings none into being
pub existing-opens : (l : Ledger) → l.is_open ≡ false → existing (opens l) ≡ existing l
existing-opens l n = now ∙ ap (up_to l) (one l.last) ∙ sym (existing-shut l n)
  where
    now : existing (opens l) ≡ up_to l (suc l.last - 1)
    now = unfold existing shown opens live in refl

    one : (m : ℕ) → suc m - 1 ≡ m
    one m = omega arith

-- closing one with events does
pub existing-closes : (l : Ledger) → l.is_open ≡ true → 1 ≤ l.last → (1 ≤ l.events → live l l.last ≡ true)
    → existing (closes l) ≡ cond (eqb l.events 0) (existing l) (suc (existing l))
existing-closes l o given h =
    by-test (eqb l.events 0)
    (λ y. let now : existing (closes l) ≡ up_to l (l.last - 1) = unfold existing shown closes live in rw y in
    rw y (now ∙ sym (existing-open l o)))
    (λ n. let now : existing (closes l) ≡ up_to l l.last = unfold existing shown closes live in rw n in
    let d = eqb-false l.events 0 n in
    rw n (now ∙ one_more (h (omega arith)) ∙ ap suc (sym (existing-open l o))))
  where
    step : (m : ℕ) → live l (suc m) ≡ true → up_to l (suc m) ≡ suc (up_to l m)
    step m e = unfold down in rw e

    before : suc (l.last - 1) ≡ l.last
    before = omega arith

    one_more : live l l.last ≡ true → up_to l l.last ≡ suc (up_to l (l.last - 1))
    one_more e = ap (up_to l) (sym before) ∙ step (l.last - 1) (ap (live l) before ∙ e)

-- an event brings none into being: its window is open
pub existing-counts : (l : Ledger) (n : Name) → l.is_open ≡ true → 1 ≤ l.last → ((v : ℕ) → among n l.identifiers ≡ false → l.count n v ≡ 0) → existing (counts l n) ≡ existing l
existing-counts l n o given new =
    existing-open (counts l n) (unfold counts in o)
    ∙ ap (λ m. up_to (counts l n) (m - 1)) last-is
    ∙ ap length (keep-down (live (counts l n)) (live l) (l.last - 1) (λ v k. live-counts-other l n v (new v) (λ q. omega arith)))
    ∙ sym (existing-open l o)
  where
    last-is : (counts l n).last ≡ l.last
    last-is = unfold counts in refl

-- a removal takes one away
pub existing-removes : (l : Ledger) (w : ℕ) → 1 ≤ w → w ≤ l.last → (l.is_open && eqb w l.last) ≡ false → live l w ≡ true → existing l ≡ suc (existing (removes l w))
existing-removes l w h k other e =
    unfold existing shown removes in keep_out (live l) (live (removes l w)) w (cond l.is_open (l.last - 1) l.last) h within e (live-removes l w)
  where
    within : w ≤ cond l.is_open (l.last - 1) l.last
    within =
        by-test l.is_open
        (λ o. let d = eqb-false w l.last (ap (λ t. t && eqb w l.last) (sym o) ∙ other) in rw o (omega arith))
        (λ n. rw n k)
