-- What the walk over partitions and buffer tells is what a removal reads.
use Rattle.lists.proofs.Prelude.{Bool, true, false, cond, ◌&&◌, not, List, [], ◌∷◌, ◌++◌, map, ◌≡◌, refl, sym, ap, ◌∙◌, ℕ, ◌*◌, ◌<◌, ◌≤◌, arith, eqb, leb, length, get_or, le-leb, leb-true, ltb-true, ne_eqb, every, elem, joined, AllOf, by-test, and_right, and_both, every-from, every_map, every-elem, elem-every, none_from, keep-none, never}
use Rattle.keyed.specs.Groups.{Group}
use Rattle.words.specs.Words.{Below}
use Rattle.postings.specs.declared.Posting.{Posting}
use Rattle.postings.specs.Order.{ordered}
use Rattle.postings.specs.Merge.{pairs, nonzero}
use Rattle.state.specs.declared.Buffer.{Buffer}
use Rattle.state.specs.declared.State.{State}
use Rattle.state.specs.Views.{buffered, finished}
use Rattle.state.specs.Rules.{posting_rule, state_rule}
use Rattle.state.proofs.Kept.{state-kept, posting-kept}
use Rattle.partitions.specs.Reading.{postings_of, in_partitions, stored}
use Rattle.partitions.specs.Formed.{list_rule, sums_in_range}
use Rattle.spans.proofs.Lists.{lists-spanned}
use Rattle.kway.specs.Parts.{part, parts}
use Rattle.scans.specs.Keys.{item_of, is_keyed}
use Rattle.scans.specs.Items.{items}
use Rattle.scans.specs.Heads.{reader_at, ahead, view, Kept}
use Rattle.scans.proofs.Moves.{reader-keyed}
use Rattle.sums.specs.Views.{Tidy, held_for}
use Rattle.sums.specs.Tally.{of_window, counts_of, lists_ruled, window_formed, ReadAll}
use Rattle.sums.specs.Steps.{Begun}
use Rattle.sums.proofs.Tally.{Tally, faulty, tallied, tally_if, tally_of, is_fine, buffer_items, Walkable, groups}
use Rattle.sums.proofs.Windowed.{counts-pass}
use Rattle.sums.proofs.Tallies.{joined-keyed, all-keyed, tally-lists}
use Rattle.sums.proofs.Keeps.{Watched}
use Rattle.sums.proofs.Walking.{Fault}

-- ---- what is told against its tests

wrong : {A : Type 0} (l : List Posting) → tallied l ≡ faulty → A
wrong l e = let z : ◌≡◌ {A = ℕ} 0 1 = cc in absurd (omega arith)

module _ (l : List Posting) where
  -- counts are told where every test is passed
  settled : (a x y : Bool) (cs : List Posting) → cond a (tally_if (x && y) l) faulty ≡ tallied cs → (a ≡ true) × ((x && (y && leb (length l) 64)) ≡ true) × (cs ≡ l)
  unfolding tally_if
  settled false x y cs e = wrong cs (sym e)
  settled true false y cs e = wrong cs (sym e)
  settled true true false cs e = wrong cs (sym e)
  settled true true true cs e =
      by-test (leb (length l) 64)
      (λ t. let q : tallied l ≡ tallied cs = rw t at e in (refl, t, cc))
      (λ n. let q : faulty ≡ tallied cs = rw n at e in wrong cs (sym q))

  -- and a fault where one is not
  faulted : (a x y : Bool) → cond a (tally_if (x && y) l) faulty ≡ faulty → (a && (x && (y && leb (length l) 64))) ≡ false
  unfolding tally_if
  faulted false x y e = refl
  faulted true false y e = refl
  faulted true true false e = refl
  faulted true true true e = by-test (leb (length l) 64) (λ t. let q : tallied l ≡ faulty = rw t at e in wrong l q) (λ n. n)

-- ---- the buffer

module _ (s : State) (rule : state_rule s ≡ true) (last : s.windows.last ≤ 65535) where
  -- its postings have keys
  buffer-keyed : every is_keyed (buffered s.buffer) ≡ true
  buffer-keyed =
      let r = (state-kept s rule).buffer.rules in
      every-from (posting_rule s.windows) (posting_rule s.windows) is_keyed
      (λ p e f. let k = posting-kept s.windows p e in and_both (leb p.id 1023) _ (le-leb _ _ k.id) (le-leb p.window 65535 (omega (arith, k.given)))) (buffered s.buffer) r r

  -- and are well formed
  buffer-fine : every is_fine (buffered s.buffer) ≡ true
  buffer-fine =
      let r = (state-kept s rule).buffer.rules in
      every-from (posting_rule s.windows) (posting_rule s.windows) is_fine
      (λ p e f. let k = posting-kept s.windows p e in and_both (leb 1 p.window) _ (le-leb _ _ k.some) (ap not k.counts)) (buffered s.buffer) r r

  pub buffer-walkable : Walkable s.buffer
  buffer-walkable = record { few = (state-kept s rule).buffer.used; keyed = buffer-keyed; fine = buffer-fine }

-- ---- the heads

module _ (W : List ℕ) where
  -- what heads have to come are their postings
  pub views-lists : (hs : List (List ℕ)) → map (view W) hs ≡ map (map item_of) (map (ahead W) hs)
  unfolding view items
  views-lists [] = refl
  views-lists (h ∷ hs) = ap (λ (x : Group). map item_of (ahead W h) ∷ x) (views-lists hs)

  -- and have keys
  pub heads-keyed : Below 4294967296 W → (hs : List (List ℕ)) → AllOf (Kept W) hs → every (every is_keyed) (map (ahead W) hs) ≡ true
  unfolding AllOf
  heads-keyed small [] g = refl
  heads-keyed small (h ∷ hs) g = and_both _ _ (reader-keyed W small (reader_at h) g.0.good) (heads-keyed small hs g.1)

-- ---- the walk's answer

-- no posting with a key is of a window above 65,535
none_above : (w : ℕ) → 65535 < w → (l : List Posting) → every is_keyed l ≡ true → of_window w l ≡ []
none_above w h l k =
    keep-none (λ p. eqb p.window w) l
    (none_from is_keyed (λ p. eqb p.window w) (λ p e. ne_eqb p.window w (λ q. absurd (omega (arith, leb-true p.window 65535 (and_right (leb p.id 1023) _ e))))) l k)

module _ (W : List ℕ) (s : State) (b : Buffer) (ws H : List ℕ) (start : ℕ) (g : Begun W s b H start) (small : Below 4294967296 W) (ok : Walkable s.buffer) where
  buffer-rule : list_rule (buffered s.buffer) ≡ true
  unfolding list_rule
  buffer-rule = and_both (ordered (buffered s.buffer)) _ (state-kept s g.rule).buffer.order ok.fine

  abbrev lists : List (List Posting)
  lists = map (postings_of W) (finished s.partitions)

  lists-keyed : every (every is_keyed) lists ≡ true
  lists-keyed = rw g.lists at (heads-keyed W small (parts 10 s.partitions.used H) g.kept)

  abbrev pub whole : ℕ → Tally
  whole w = tally_of w (groups W s.partitions.used H b 0)

  groups-same : groups W s.partitions.used H b 0 ≡ map (map item_of) lists ∷ (map item_of (buffered s.buffer) ∷ []) ∷ []
  unfolding buffer_items
  groups-same =
      rw g.buffer
      (ap (λ (x : Group). x ∷ (map item_of (buffered s.buffer) ∷ []) ∷ []) (views-lists W (parts 10 s.partitions.used H) ∙ ap (map (map item_of)) g.lists))

  -- what is told, by the definitions of a removal
  tally-stored : (w : ℕ) → whole w
      ≡ cond (lists_ruled W s) (tally_if (sums_in_range (of_window w (in_partitions W (finished s.partitions))) && sums_in_range (of_window w (stored W s))) (counts_of w (stored W s))) faulty
  unfolding in_partitions stored
  tally-stored w =
      ap (tally_of w) groups-same
      ∙ tally-lists w lists (buffered s.buffer) lists-keyed ok.keyed buffer-rule
      ∙ ap (λ (t : Bool). cond t (tally_if (sums_in_range (of_window w (joined lists)) && sums_in_range (of_window w (joined lists ++ buffered s.buffer))) (counts_of w (joined lists ++ buffered s.buffer))) faulty)
      (every_map list_rule (postings_of W) (finished s.partitions) ∙ sym (lists-spanned W (finished s.partitions) g.spans))

  -- counts have keys
  counts-keyed : (w : ℕ) → every is_keyed (counts_of w (stored W s)) ≡ true
  unfolding in_partitions stored
  counts-keyed w = counts-pass w (joined lists ++ buffered s.buffer) is_keyed (λ q c e. e) (all-keyed w lists (buffered s.buffer) lists-keyed ok.keyed)

  -- a number that no window has is well formed
  formed-above : (w : ℕ) → 65535 < w → window_formed W s w ≡ true
  unfolding in_partitions stored sums_in_range counts_of pairs nonzero
  formed-above w h =
      rw (none_above w h (joined lists) (joined-keyed w lists (buffered s.buffer) lists-keyed ok.keyed lists lists-keyed), none_above w h (joined lists ++ buffered s.buffer) (all-keyed w lists (buffered s.buffer) lists-keyed ok.keyed))

  module _ (T : List ℕ) (slots : length T ≡ 65 * length ws) (tidy : (j : ℕ) → j < length ws → Tidy (get_or ws j 0) (part 65 j T)) where
    -- where the counts of all are told, all are well formed
    pub read_back : Watched ws 65536 → ((v : ℕ) → Watched ws v → whole v ≡ tallied (held_for ws T v)) → ReadAll W s ws true T
    read_back m h = record {
      fine = sym (and_both (lists_ruled W s) _ (at 65536 m).0 (elem-every (window_formed W s) ws (λ v e. (at v (rw e)).1)));
      counts = λ y v e. (at v (rw e)).2;
      keyed = λ y v. counts-keyed v;
      long = slots;
      tidy = tidy;
    }
      where
        at : (v : ℕ) → Watched ws v → (lists_ruled W s ≡ true) × (window_formed W s v ≡ true) × (held_for ws T v ≡ counts_of v (stored W s))
        at v m = settled (counts_of v (stored W s)) (lists_ruled W s) (sums_in_range (of_window v (in_partitions W (finished s.partitions)))) (sums_in_range (of_window v (stored W s))) (held_for ws T v) (sym (tally-stored v) ∙ h v m)

    -- and where a fault is told, not all are
    pub read-fault : Fault ws whole → ReadAll W s ws false T
    read-fault f = record {
      fine = sym (by-test (lists_ruled W s) (λ y. rw y (unformed (rw y at bad))) (λ n. rw n));
      counts = λ y. never y;
      keyed = λ y. never y;
      long = slots;
      tidy = tidy;
    }
      where
        bad : (lists_ruled W s && window_formed W s f.window) ≡ false
        bad = faulted (counts_of f.window (stored W s)) (lists_ruled W s) (sums_in_range (of_window f.window (in_partitions W (finished s.partitions)))) (sums_in_range (of_window f.window (stored W s))) (sym (tally-stored f.window) ∙ f.told)

        unformed : window_formed W s f.window ≡ false → every (window_formed W s) ws ≡ false
        unformed n =
            by-test (every (window_formed W s) ws)
            (λ y. by-test (elem f.window ws)
            (λ m. never (sym n ∙ every-elem (window_formed W s) ws f.window y m))
            (λ o. never (sym n ∙ formed-above f.window (ltb-true 65535 f.window (rw o at f.watched)))))
            (λ z. z)
