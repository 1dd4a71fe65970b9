-- A stretch counted part by part.
use Rattle.lists.proofs.Prelude.{Bool, true, false, ◌&&◌, ◌||◌, and-false, or-false, List, [], ◌∷◌, ◌++◌, map, ◌≡◌, refl, sym, ap, ap₂, ◌∙◌, subst, ℕ, zero, suc, ◌+◌, ◌<◌, ◌≤◌, arith, ltb, leb, length, lt-ltb, le-ltb, lt-leb, le-leb, ltb-true, ltb-false, leb-true, leb-false, every, keep, down, by-test, keep-both, every_map}
use Rattle.postings.specs.declared.Posting.{Posting}
use Rattle.postings.specs.declared.Stretch.{Stretch}
use Rattle.state.specs.declared.Buffer.{Buffer}
use Rattle.state.specs.declared.Partition.{Partition}
use Rattle.state.specs.declared.Windows.{Windows}
use Rattle.state.specs.Views.{buffered}
use Rattle.state.specs.Shown.{shows_in, shown_in}
use Rattle.partitions.specs.Reading.{postings_of, in_partitions}
use Rattle.partitions.specs.Formed.{list_rule}
use Rattle.sums.specs.Tally.{counts_of, is_live}
use Rattle.std.specs.Prelude.{Option}
use Rattle.census.specs.Existing.{existing, CountedWell, CountedIn}
use Rattle.census.specs.Walks.{lists, held}
use Rattle.census.proofs.Counts.{few-kept}

-- ---- what heads that were put at the first postings have to come

pub opened-same : (W : List ℕ) (n : ℕ) (H : List ℕ) (b : Buffer) (ps : List Partition) (ws : List ℕ) (r : Option ℕ) → lists W n H ≡ map (postings_of W) ps
    → CountedIn (every list_rule (lists W n H)) (held W n H b) ws r → CountedIn (every (λ p. list_rule (postings_of W p)) ps) (in_partitions W ps ++ buffered b) ws r
unfolding in_partitions
opened-same W n H b ps ws r e c =
    subst (λ (f : Bool). CountedIn f (in_partitions W ps ++ buffered b) ws r) (every_map list_rule (postings_of W) ps) (rw e at c)

-- ---- windows kept by two tests that exclude each other

keep-split : (p q r : ℕ → Bool) → ((w : ℕ) → r w ≡ (p w || q w)) → ((w : ℕ) → (p w && q w) ≡ false) → (l : List ℕ) → length (keep r l) ≡ length (keep p l) + length (keep q l)
keep-split p q r e d [] = refl
keep-split p q r e d (w ∷ l) =
    let i = keep-split p q r e d l in
    by-test (p w)
    (λ y. let z : q w ≡ false = rw y at (d w) in rw (e w, y, z) (omega arith))
    (λ n. by-test (q w) (λ y. rw (e w, n, y) (omega arith)) (λ z. rw (e w, n, z) (omega arith)))

-- no window is kept by a test that none passes
keep-nothing : (t : ℕ → Bool) → ((w : ℕ) → 1 ≤ w → t w ≡ false) → (n : ℕ) → keep t (down n) ≡ []
unfolding down
keep-nothing t e zero = refl
keep-nothing t e (suc n) = rw (e (suc n) (omega arith)) (keep-nothing t e n)

module _ (t : Stretch) (v : Windows) (l : List Posting) where
  abbrev lives : ℕ → Bool
  lives w = is_live (counts_of w l)

  -- a window of the stretch that exists
  abbrev exists : ℕ → Bool
  exists w = lives w && shows_in t v.current w

  -- how many below `from` exist
  unfoldable pub so_far : ℕ → ℕ
  so_far from = length (keep (λ w. ltb w from && exists w) (down 65535))

  pub so-far-few : (from : ℕ) → so_far from ≤ 65535
  unfolding so_far
  so-far-few from = few-kept (λ w. ltb w from && exists w)

  all_same : existing l (shown_in t v) ≡ length (keep exists (down 65535))
  unfolding existing shown_in
  all_same = ap length (sym (keep-both lives (shows_in t v.current) exists (λ w. refl) (down 65535)))

  pub existing-few : existing l (shown_in t v) ≤ 65535
  existing-few = rw all_same (few-kept exists)

  -- at the start none
  pub so-far-none : (from : ℕ) → ((w : ℕ) → 1 ≤ w → w < from → t.first ≤ w → ⊥) → so_far from ≡ 0
  unfolding so_far
  so-far-none from h = ap length (keep-nothing (λ w. ltb w from && exists w) none 65535)
    where
      none : (w : ℕ) → 1 ≤ w → (ltb w from && exists w) ≡ false
      none w s =
          by-test (ltb w from)
          (λ y. by-test (leb t.first w)
          (λ z. absurd (h w s (ltb-true w from y) (leb-true _ _ z)))
          (λ n. rw (y, n) (and-false (lives w))))
          (λ n. rw n)

  -- a part more
  module _ (part : Stretch) (h : t.first ≤ part.first) where
    abbrev in_part : ℕ → Bool
    in_part w = lives w && shows_in part v.current w

    part_same : existing l (shown_in part v) ≡ length (keep in_part (down 65535))
    unfolding existing shown_in
    part_same = ap length (sym (keep-both lives (shows_in part v.current) in_part (λ w. refl) (down 65535)))

    -- no window is below the part and in it
    apart : (w : ℕ) → ((ltb w part.first && exists w) && in_part w) ≡ false
    apart w =
        by-test (ltb w part.first)
        (λ y. rw (lt-leb part.first w (ltb-true w part.first y), and-false (lives w)) (and-false (ltb w part.first && exists w)))
        (λ n. rw n)

    split : (r : ℕ → Bool) → ((w : ℕ) → r w ≡ ((ltb w part.first && exists w) || in_part w)) → length (keep r (down 65535)) ≡ so_far part.first + existing l (shown_in part v)
    unfolding so_far
    split r e = keep-split (λ w. ltb w part.first && exists w) in_part r e apart (down 65535) ∙ ap (λ (n : ℕ). so_far part.first + n) (sym part_same)

    -- the part is the last
    so-far-all : part.last ≡ t.last → so_far part.first + existing l (shown_in part v) ≡ existing l (shown_in t v)
    so-far-all e = sym (all_same ∙ split exists each)
      where
        each : (w : ℕ) → exists w ≡ ((ltb w part.first && exists w) || in_part w)
        each w =
            by-test (ltb w part.first)
            (λ y. rw (y, lt-leb part.first w (ltb-true w part.first y), and-false (lives w)) (sym (or-false (exists w))))
            (λ n. let g = ltb-false w part.first n in rw (n, e, le-leb part.first w g, le-leb t.first w (omega arith)))

    -- others follow
    so_far_more : part.first ≤ part.last → part.last ≤ t.last → so_far part.first + existing l (shown_in part v) ≡ so_far (part.last + 1)
    unfolding so_far
    so_far_more a b = sym (split (λ w. ltb w (part.last + 1) && exists w) each)
      where
        each : (w : ℕ) → (ltb w (part.last + 1) && exists w) ≡ ((ltb w part.first && exists w) || in_part w)
        each w =
            by-test (ltb w part.first)
            (λ y. let g = ltb-true w part.first y in
            rw (y, lt-ltb w (part.last + 1) (omega arith), lt-leb part.first w g, and-false (lives w)) (sym (or-false (exists w))))
            (λ n. let g = ltb-false w part.first n in
            by-test (leb w part.last)
            (λ y. let k = leb-true w part.last y in
            rw (n, y, lt-ltb w (part.last + 1) (omega arith), le-leb part.first w g, le-leb t.first w (omega arith), le-leb w t.last (omega arith)))
            (λ z. let k = leb-false w part.last z in
            rw (n, z, le-ltb w (part.last + 1) (omega arith), and-false (leb part.first w)) (sym (and-false (lives w)))))

    -- both, where so many windows were counted before the part and so many in it
    module _ (from windows more : ℕ) (begins : part.first ≡ from) (before : windows ≡ so_far from) (here : more ≡ existing l (shown_in part v)) where
      together : windows + more ≡ so_far part.first + existing l (shown_in part v)
      together = ap₂ ◌+◌ (before ∙ ap so_far (sym begins)) here

      pub part-more : from ≤ part.last → part.last ≤ t.last → windows + more ≡ so_far (part.last + 1)
      part-more a b = together ∙ so_far_more (omega arith) b

      pub part-last : part.last ≡ t.last → (formed : Bool) → formed ≡ true → CountedWell formed l (shown_in t v) (windows + more)
      part-last e formed f = let s = together ∙ so-far-all e in record { fine = f; windows = s; few = omega (arith, s, existing-few) }
