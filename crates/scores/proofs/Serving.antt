-- From what the judging tells of an identifier's heads to its term.
use Rattle.lists.proofs.Prelude.{Bool, true, false, List, [], ◌∷◌, ◌++◌, map, ⊎_elim, ◌≡◌, sym, ap, ap₂, ◌∙◌, subst, ℕ, zero, suc, ◌+◌, ◌-◌, ◌*◌, ◌<◌, ◌≤◌, eq-or-lt_of_le, arith, ltb, ℤ, pos, ◌+ℤ◌, +ℤ_assoc, +ℤ_idl, +ℤ_idr, length, drop, set, length-set, ltb-true, ltb-false, every, total_by, AllOf, by-test, and_left, and_right, never, total-more}
use borrow.Rule.Slice.PartMut.{put_mid}
use Rattle.keyed.specs.Keys.{Item, falls, all_fall, sum_of, sums, over_keys, topmost_from}
use Rattle.keyed.specs.Groups.{Group, all_fall_all}
use Rattle.keyed.proofs.Walk.{sums-high}
use Rattle.words.specs.Words.{Below}
use Rattle.weights.specs.Weights.{idf_weight}
use Rattle.weights.proofs.Laws.{idf-most}
use Rattle.postings.specs.Order.{ordered}
use Rattle.postings.specs.declared.Posting.{Posting}
use Rattle.postings.specs.declared.Stretch.{Stretch}
use Rattle.postings.specs.Sums.{sum, under, above, frequency, amount}
use Rattle.state.specs.declared.State.{State}
use Rattle.state.specs.Views.{buffered}
use Rattle.state.specs.Shown.{shows_in, shown_in}
use Rattle.partitions.specs.Reading.{stored}
use Rattle.partitions.specs.Formed.{in_range, identifier_formed}
use Rattle.kway.specs.Parts.{part, parts}
use Rattle.kway.specs.Leads.{Leads}
use Rattle.kway.proofs.Parts.{views-more}
use Rattle.terms.specs.declared.judging.Told.{Told}
use Rattle.std.specs.Prelude.{Option, Some, None, IfSome, is_some}
use Rattle.heads.specs.Heads.{view, Kept, views}
use Rattle.terms.specs.Both.{Ready, both}
use Rattle.terms.specs.Judged.{in_ranges, ranges, formed, told_of}
use Rattle.terms.specs.Opening.{Opens}
use Rattle.scores.specs.Terms.{Term, term_of, KeptGroup, Serves, told_term, Fitting}
use Rattle.scores.proofs.Counts.{headed, put-behind, put-behind-long}
use Rattle.terms.proofs.Fronts.{ready-all}
use Rattle.terms.proofs.Steps.{total-none, above_most}
use Rattle.terms.proofs.Stored.{rule, formed-same, total-same, size_same, lists-fall, run-fall, none_at_zero, risen-same, risen-few}

-- ---- one list more

sums-more : (k : ℕ) (g : Group) (l : List Item) → sums k (g ++ (l ∷ [])) ≡ sums k g +ℤ sum_of k l
sums-more k [] l = +ℤ_idr (sum_of k l) ∙ sym (+ℤ_idl (sum_of k l))
sums-more k (x ∷ g) l = ap (λ (z : ℤ). sum_of k x +ℤ z) (sums-more k g l) ∙ sym (+ℤ_assoc (sum_of k x) (sums k g) (sum_of k l))

falls-more : (m : ℕ) (g : Group) (l : List Item) → all_fall m g ≡ true → falls m l ≡ true → all_fall m (g ++ (l ∷ [])) ≡ true
falls-more m [] l e f = rw f
falls-more m (x ∷ g) l e f = by-test (falls m x) (λ y. rw y (falls-more m g l (rw y at e) f)) (λ y. never (rw y at e))

-- ---- a test of every window says that of one

over-at : (m j : ℕ) (S : ℕ → List ℤ) → j < m → over_keys ranges true m S ≡ true → in_ranges (S j) ≡ true
unfolding over_keys
over-at zero j S h e = absurd (omega arith)
over-at (suc m) j S h e =
    ⊎_elim (λ q. rw q (and_left _ _ e)) (λ l. over-at m j S l (and_right (in_ranges (S m)) _ e)) (eq-or-lt_of_le {n = j} {m = m} (omega arith))

-- ---- what is told

module _ (W : List ℕ) (s : State) (u : Stretch) (i : ℕ) where
  pub told-malformed : told_term W s u i ≡ None → identifier_formed W s i ≡ false
  unfolding told_term
  told-malformed e = by-test (identifier_formed W s i) (λ y. let q = rw y at e in cc) (λ n. n)

  pub told-formed : (t : Told) → told_term W s u i ≡ Some t
      → (identifier_formed W s i ≡ true) × (t.windows ≡ frequency (shown_in u s.windows) (stored W s) i) × (t.total ≡ amount (shown_in u s.windows) (stored W s) i)
  unfolding told_term
  told-formed t e = by-test (identifier_formed W s i) (λ y. let q = rw y at e in (y, cc, cc)) (λ f. let q = rw f at e in cc)

  pub told-some : is_some (told_term W s u i) ≡ identifier_formed W s i
  unfolding told_term
  told-some = by-test (identifier_formed W s i) (λ y. rw y) (λ n. rw n)

-- every count is at most 32,767
amount-most : (l : List Posting) (i : ℕ) → ((w : ℕ) → in_range (sum l i w) ≡ true) → (windows : List ℕ) → amount windows l i ≤ 32767 * frequency windows l i
unfolding amount frequency
amount-most l i h [] = omega arith
amount-most l i h (w ∷ windows) =
    let m = amount-most l i h windows in
    by-test (ltb 0 (above (sum l i w)))
    (λ y. rw y (omega (arith, above_most (sum l i w) (h w))))
    (λ y. rw y (omega (arith, ltb-false 0 (above (sum l i w)) y)))

module _ (W R : List ℕ) (s : State) (i : ℕ) (H : List ℕ) (opens : Opens W R s i H) (small : Below 4294967296 W) (few : Below 4294967296 R)
    (order : ordered (buffered s.buffer) ≡ true) (rules : every rule (buffered s.buffer) ≡ true) (u : Stretch) where
  abbrev gs : List Group
  gs = both W R s.partitions.used H

  -- is a window of the stretch closed
  abbrev closed : ℕ → Bool
  closed = shows_in u s.windows.current

  -- the lists on the card, the run, and both in one group
  abbrev cards : Group
  cards = views W R s.partitions.used H

  abbrev run : List Item
  run = view W R (part 4 s.partitions.used H)

  abbrev all : Group
  all = views W R (s.partitions.used + 1) H

  all-parts : all ≡ cards ++ (run ∷ [])
  all-parts = views-more (view W R) 4 s.partitions.used H

  module _ (ok : formed gs ≡ true) where
    fall : all_fall 65536 all ≡ true
    fall = rw all-parts (falls-more 65536 cards run (lists-fall W R s i H opens small few order rules ok) (run-fall W R s i H opens small few order rules ok))

    totals : (w : ℕ) → sums w all ≡ sum (stored W s) i w
    totals w =
        ap (sums w) all-parts ∙ sums-more w cards run
        ∙ ap (λ (z : ℤ). sums w cards +ℤ z) (sym (+ℤ_idr (sum_of w run +ℤ pos 0) ∙ +ℤ_idr (sum_of w run)))
        ∙ sym (total-same W R s i H opens small few order rules w)

    in-range : (w : ℕ) → in_range (sum (stored W s) i w) ≡ true
    unfolding formed
    in-range w =
        by-test (ltb w 65536)
        (λ y. let h = over-at 65536 w (λ j. map (sums j) gs) (ltb-true w 65536 y) (and_right (all_fall_all 65536 gs) _ ok) in
        ap in_range (total-same W R s i H opens small few order rules w) ∙ and_right (in_range (sums w cards)) _ h)
        (λ y. ap in_range (sym (totals w) ∙ sums-high 65536 w (ltb-false w 65536 y) all fall))

  -- what the judging tells is what is told of the identifier
  pub judged-same : (r : Option Told) → r ≡ told_of closed gs → (r ≡ told_term W s u i) × IfSome r Fitting
  unfolding told_of told_term
  judged-same r e =
      by-test (formed gs)
      (λ y. let same = risen-same W R s i H opens small few order rules y u in
      let told : r ≡ Some (record { windows = frequency (shown_in u s.windows) (stored W s) i; total = amount (shown_in u s.windows) (stored W s) i }) = e ∙ rw (y, same) in
      (told ∙ rw (formed-same W R s i H opens small few order rules, y), rw told (rw same at (risen-few closed gs (none_at_zero W R s i H opens small few order rules y)), amount-most (stored W s) i (in-range y) (shown_in u s.windows))))
      (λ n. let told : r ≡ None = e ∙ rw n in (told ∙ rw (formed-same W R s i H opens small few order rules, n), rw told tt))

  -- not well formed
  pub judged-bad : told_of closed gs ≡ None → identifier_formed W s i ≡ false
  judged-bad e = told-malformed W s u i (sym (judged-same None (sym e)).0)

  -- well formed
  module _ (t : Told) (told : told_of closed gs ≡ Some t) where
    counted : (identifier_formed W s i ≡ true) × (t.windows ≡ frequency (shown_in u s.windows) (stored W s) i) × (t.total ≡ amount (shown_in u s.windows) (stored W s) i)
    counted = told-formed W s u i t (sym (judged-same (Some t) (sym told)).0)

    pub judged-good : identifier_formed W s i ≡ true
    judged-good = counted.0

    ok : formed gs ≡ true
    ok = sym (formed-same W R s i H opens small few order rules) ∙ judged-good

    -- F fits
    pub windows-few : t.windows ≤ 65535
    windows-few = (judged-same (Some t) (sym told)).1.0

    pub all-fall : all_fall 65536 all ≡ true
    all-fall = fall ok

    -- how many postings are stored
    pub all-size : total_by length all ≡ length (under i (stored W s))
    all-size = ap (total_by length) all-parts ∙ total-more length cards run ∙ sym (size_same W R s i H opens small few order rules)

    -- the term stands for the identifier
    pub all-serves : (live : ℕ) (x : Term) → x ≡ record { lists = all; weight = idf_weight live t.windows } → Serves W s u live i x
    all-serves live x e =
        subst (Serves W s u live i) (sym e)
        (record {
          falls = all-fall;
          totals = totals ok;
          ranges = in-range ok;
          none = total-same W R s i H opens small few order rules 0 ∙ total-none (map (sums 0) gs) (none_at_zero W R s i H opens small few order rules ok);
          weight = ap (idf_weight live) counted.1;
        })

-- ---- reach, weight and lead put in front of a group's heads

pub weighed : (W R : List ℕ) (m : ℕ) (G : List ℕ) → length G ≡ 4 * m + 4 → AllOf (Kept W R) (parts 4 m (drop 4 G)) → (a b c d n f : ℕ) → a ≡ topmost_from 0 (views W R m (drop 4 G)) → b ≡ idf_weight n f → Leads (views W R m (drop 4 G)) c d
    → KeptGroup W R m (set (set (set (set G 0 a) 1 b) 2 c) 3 d) × (term_of W R m (set (set (set (set G 0 a) 1 b) 2 c) 3 d) ≡ record { lists = views W R m (drop 4 G); weight = idf_weight n f })
weighed W R m G l k a b c d n f p q e =
    let h = headed G a b c d (omega arith) in (
      record {
        long = length-set (set (set (set G 0 a) 1 b) 2 c) 3 d ∙ length-set (set (set G 0 a) 1 b) 2 c ∙ length-set (set G 0 a) 1 b ∙ length-set G 0 a ∙ l;
        top = h.first ∙ p ∙ ap (λ (P : List ℕ). topmost_from 0 (views W R m P)) (sym h.others);
        light = omega (arith, h.second, q, idf-most n f);
        heads = rw h.others k;
        lead = rw (h.others, h.third, h.fourth) e;
      },
      ap₂ {C = Term} (λ (g : Group) (w : ℕ). record { lists = g; weight = w }) (ap (views W R m) h.others) (h.second ∙ q),
    )

-- ---- opened heads copied behind four numbers

pub copied : (W R : List ℕ) (n : ℕ) (H G P : List ℕ) → length G ≡ 4 * n + 8 → length H ≡ 4 * n + 4 → P ≡ H → Ready W R n H
    → (length (put_mid 4 (length G - 4) G P) ≡ 4 * (n + 1) + 4) × AllOf (Kept W R) (parts 4 (n + 1) (drop 4 (put_mid 4 (length G - 4) G P))) × (drop 4 (put_mid 4 (length G - 4) G P) ≡ H)
copied W R n H G P g h e r =
    let l : length P ≡ length G - 4 = ap length e ∙ omega arith in
    let d : drop 4 (put_mid 4 (length G - 4) G P) ≡ H = put-behind G P (omega arith) l ∙ e in
    (put-behind-long G P (omega arith) l ∙ omega arith, subst (λ (x : List ℕ). AllOf (Kept W R) (parts 4 (n + 1) x)) (sym d) (ready-all W R n H r), d)

-- what a kept group has to come is what was opened
pub kept-lists : (W R : List ℕ) (m : ℕ) (H G F : List ℕ) (w : ℕ) → drop 4 G ≡ H → term_of W R m F ≡ record { lists = views W R m (drop 4 G); weight = w }
    → (term_of W R m F ≡ record { lists = views W R m H; weight = w }) × (views W R m (drop 4 F) ≡ views W R m H)
kept-lists W R m H G F w d e =
    let t : term_of W R m F ≡ record { lists = views W R m H; weight = w } = e ∙ ap (λ (x : List ℕ). record { lists = views W R m x; weight = w }) d in
    (t, ap (λ (x : Term). x.lists) t)
