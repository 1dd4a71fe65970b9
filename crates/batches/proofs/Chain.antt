-- Removals one after another: what each leaves for those after it.
use Rattle.lists.proofs.Prelude.{Bool, true, false, ◌||◌, not, List, [], ◌∷◌, ◌≡◌, refl, sym, ap, ◌∙◌, ℕ, zero, suc, ◌+◌, ◌-◌, ◌*◌, ◌<◌, ◌≤◌, add-one, arith, eqb, leb, ltb, length, get_or, drop, drop-cons, drop_of_length-le, leb-true, leb-false, le-leb, lt-leb, eq-eqb, ltb-true, ltb-false, every, empty, elem, different, by-test, and_left, and_right, and_both, never, not-true, empty-is, empty-not, every-elem, every_take, elem-every, elem-right, get_or-drop, length-drop, take, take-append-drop}
use Rattle.words.specs.Words.{words, bytes}
use Rattle.words.proofs.Views.{length-bytes, words-bytes}
use Rattle.postings.specs.declared.Posting.{Posting}
use Rattle.answers.specs.Answers.{Outcome, refuse, leave, done, refuse_if, choose, next, in_turn}
use Rattle.state.specs.declared.Partition.{Partition}
use Rattle.state.specs.declared.State.{State}
use Rattle.state.specs.Views.{blocks, buffered, finished}
use Rattle.state.specs.Levels.{of_level}
use Rattle.state.specs.Rules.{state_rule}
use Rattle.state.specs.Probe.{Store, store_of}
use Rattle.state.proofs.Kept.{state-kept}
use Rattle.card.specs.Blocks.{free_blocks}
use Rattle.blocks.proofs.Stores.{length-store}
use Rattle.partitions.specs.Layout.{encode}
use Rattle.partitions.specs.Reading.{in_partitions, stored}
use Rattle.partitions.specs.Formed.{partitions_formed, sums_in_range}
use Rattle.scans.specs.Keys.{is_keyed}
use Rattle.flushes.specs.Flush.{finished_blocks, next_free, flushed_to, flushed_card, flushing, flushing_if}
use Rattle.flushes.specs.Targets.{Chosen}
use Rattle.sums.specs.Tally.{of_window, counts_of, lists_ruled, window_formed, lists_formed, ReadAll}
use Rattle.removals.specs.Removal.{removal_formed, removal_flushes, removed, removing, remove_of}
use Rattle.removals.proofs.Turns.{card-words}
use Rattle.removals.proofs.Given.{names_open, no_live_window}
use Rattle.batches.specs.Batch.{batch_formed}
use Rattle.batches.specs.Steps.{room_of, flush_after, removal_after}
use Rattle.batches.proofs.Held.{at-elem}
use Rattle.batches.proofs.Flushed.{rule-flushed, level-flushed, blocks-flushed, parts-flushed, lists-flushed, inside-flushed, stored-flushed, free-flushed}
use Rattle.batches.proofs.Removed.{wide-removed, rule-removed, counts-removed, formed-removed}

-- ---- what one removal comes to

-- what removals with k flushes have moved of what a flush is judged by
pub record Reckoned (s : State) (card : List ℕ) (t : State) (after : List ℕ) (k : ℕ) : Type 0 where
  pub lengths : t.lengths ≡ s.lengths
  pub level : of_level (λ (p : Partition). p.level) 0 (finished t.partitions) ≡ of_level (λ (p : Partition). p.level) 0 (finished s.partitions) + k
  pub used : finished_blocks t ≡ finished_blocks s + k
  pub free : length (free_blocks (words after) (blocks t) t.taken) + k ≡ length (free_blocks (words card) (blocks s) s.taken)

-- the numbers that a removal is refused with after 1 to 3
abbrev pub late : ℕ → Bool
late n = elem n (5 ∷ 7 ∷ 10 ∷ 11 ∷ 12 ∷ [])

-- it is refused as it is judged; or its counts are taken back, without a flush or after one
pub data Judged (s : State) (card : List ℕ) (t : State) (after : List ℕ) (k w : ℕ) (counts : List Posting) : Type 0 where
  barred : (n : ℕ) → late n ≡ true → removal_after (room_of s) s.taken (words card) t.windows t.buffer k w counts ≡ refuse n → removing t after w counts ≡ refuse n → Judged s card t after k w counts
  plain : removal_after (room_of s) s.taken (words card) t.windows t.buffer k w counts ≡ leave done tt → names_open t w ≡ false → no_live_window t w counts ≡ false → removal_flushes t counts ≡ false
      → removing t after w counts ≡ leave done (store_of (removed t counts) after) → Judged s card t after k w counts
  written : removal_after (room_of s) s.taken (words card) t.windows t.buffer k w counts ≡ leave done tt → names_open t w ≡ false → no_live_window t w counts ≡ false → removal_flushes t counts ≡ true
      → (b : ℕ) → Chosen t (words after) b → removing t after w counts ≡ leave done (store_of (removed (flushed_to t b) counts) (bytes (flushed_card t (words after) b))) → Judged s card t after k w counts

module _ (s : State) (card : List ℕ) (t : State) (after : List ℕ) (k w : ℕ) (counts : List Posting) (r : Reckoned s card t after k) where
  abbrev full : Bool
  full = leb 16 (of_level (λ (p : Partition). p.level) 0 (finished t.partitions))

  abbrev half : Bool
  half = ltb (blocks t) (2 * suc (finished_blocks t))

  abbrev none : Bool
  none = empty (free_blocks (words after) (blocks t) t.taken)

  full-same : leb 16 (of_level (λ (p : Partition). p.level) 0 (finished s.partitions) + k) ≡ full
  full-same = ap (leb 16) (sym r.level)

  half-same : ltb (blocks s) (2 * suc (finished_blocks s + k)) ≡ half
  half-same = rw (r.used, r.lengths)

  none-same : not (leb (suc k) (length (free_blocks (words card) (blocks s) s.taken))) ≡ none
  none-same = go (free_blocks (words after) (blocks t) t.taken) r.free
    where
      go : (l : List ℕ) → length l + k ≡ length (free_blocks (words card) (blocks s) s.taken) → not (leb (suc k) (length (free_blocks (words card) (blocks s) s.taken))) ≡ empty l
      go [] e = ap not (lt-leb (suc k) _ (omega arith))
      go (b ∷ l) e = ap not (le-leb (suc k) _ (omega arith))

  -- where a flush is wanted, something is buffered
  wanted : length counts ≤ 64 → ltb 128 (length (buffered t.buffer) + length counts) ≡ true → empty (buffered t.buffer) ≡ false
  wanted few f =
      by-test (empty (buffered t.buffer))
      (λ y. absurd (omega (arith, ltb-true 128 (length (buffered t.buffer) + length counts) f, ap length (empty-is (buffered t.buffer) y)))) (λ n. n)

  -- as the tests say
  pub judged-of : length counts ≤ 64 → Judged s card t after k w counts
  unfolding removing removal_after flush_after removal_flushes flushing_if flushing choose refuse_if
  judged-of few =
      by-test (names_open t w) (λ y. barred 5 refl (rw y) (rw y)) (λ a.
      by-test (no_live_window t w counts) (λ y. barred 7 refl (rw (a, y)) (rw (a, y))) (λ b.
      by-test (ltb 128 (length (buffered t.buffer) + length counts))
      (λ f. let some = wanted few f in
      by-test full (λ y. barred 10 refl (rw (a, b, f, full-same, y)) (rw (a, b, f, some, y))) (λ c.
      by-test half (λ y. barred 11 refl (rw (a, b, f, full-same, c, half-same, y)) (rw (a, b, f, some, c, y))) (λ d.
      by-test none (λ y. barred 12 refl (rw (a, b, f, full-same, c, half-same, d, none-same, y)) (rw (a, b, f, some, c, d, y))) (λ e.
      written (rw (a, b, f, full-same, c, half-same, d, none-same, e)) a b f (next_free t (words after))
      (record { some = empty-not (buffered t.buffer) some; room = leb-false 16 _ c; half = ltb-false (blocks t) _ d; there = empty-not (free_blocks (words after) (blocks t) t.taken) e; block = refl })
      (rw (a, b, f, some, c, d, e))))))
      (λ f. plain (rw (a, b, f)) a b f (rw (a, b, f)))))

-- nothing is moved yet
pub reckoned-none : (s : State) (card : List ℕ) → Reckoned s card s card 0
reckoned-none s card = record { lengths = refl; level = omega arith; used = omega arith; free = omega arith }

module _ (s : State) (card : List ℕ) (t : State) (after : List ℕ) (k : ℕ) (r : Reckoned s card t after k) (counts : List Posting) where
  -- counts taken back move none of it
  pub reckoned-plain : Reckoned s card (removed t counts) after k
  unfolding removed finished_blocks
  reckoned-plain = record { lengths = r.lengths; level = r.level; used = r.used; free = r.free }

-- a flush moves each by one
pub reckoned-flushed : (s : State) (card : List ℕ) (t : State) (after : List ℕ) (k : ℕ) → Reckoned s card t after k → state_rule t ≡ true → length (words after) ≡ 1024 * blocks t → length t.buffer.postings ≡ 128
    → (b : ℕ) → Chosen t (words after) b → Reckoned s card (flushed_to t b) (bytes (flushed_card t (words after) b)) (k + 1)
reckoned-flushed s card t after k r rule long wide b c = record {
  lengths = unfold flushed_to in r.lengths;
  level = omega (arith, level-flushed t (words after) rule long wide b c, r.level);
  used = omega (arith, blocks-flushed t (words after) rule long wide b c, r.used);
  free = rw (words-bytes (flushed_card t (words after) b)) (omega (arith, free-after, r.free));
}
  where
    free-after : length (free_blocks (words after) (blocks t) t.taken) ≡ suc (length (free_blocks (flushed_card t (words after) b) (blocks (flushed_to t b)) (flushed_to t b).taken))
    free-after = free-flushed t (words after) rule long wide b c ∙ unfold flushed_to in refl

-- ---- what is left for the others

-- what removals of a list go on with: refusals 1 to 3 have no cause for any of its windows, and its windows have the counts that c says
pub record Standing (t : State) (card ws : List ℕ) (c : ℕ → List Posting) : Type 0 where
  pub rule : state_rule t ≡ true
  pub size : length card ≡ t.lengths.card
  pub wide : length t.buffer.postings ≡ 128
  pub parts : partitions_formed (words card) (blocks t) (finished t.partitions) ≡ true
  pub lists : lists_ruled (words card) t ≡ true
  pub formed : (w : ℕ) → elem w ws ≡ true → window_formed (words card) t w ≡ true
  pub counts : (w : ℕ) → elem w ws ≡ true → counts_of w (stored (words card) t) ≡ c w
  pub keyed : (w : ℕ) → elem w ws ≡ true → every is_keyed (c w) ≡ true

-- a window's counts
abbrev pub counts_at : State → List ℕ → ℕ → List Posting
counts_at s card w = counts_of w (stored (words card) s)

-- where refusals 1 to 3 have no cause for a list
pub standing-of : (s : State) (card ws : List ℕ) → state_rule s ≡ true → length card ≡ s.lengths.card → length s.buffer.postings ≡ 128 → batch_formed (words card) s ws ≡ true
    → ((w : ℕ) → every is_keyed (counts_at s card w) ≡ true) → Standing s card ws (counts_at s card)
unfolding batch_formed
standing-of s card ws rule size wide formed keyed =
    let rest = and_right (partitions_formed (words card) (blocks s) (finished s.partitions)) _ formed in
    record {
      rule = rule;
      size = size;
      wide = wide;
      parts = and_left (partitions_formed (words card) (blocks s) (finished s.partitions)) _ formed;
      lists = and_left (lists_ruled (words card) s) _ rest;
      formed = λ w e. every-elem (window_formed (words card) s) ws w (and_right (lists_ruled (words card) s) _ rest) e;
      counts = λ w e. refl;
      keyed = λ w e. keyed w;
    }

-- the counts of windows left are read well formed, and are those that c says
module _ (t : State) (card ws : List ℕ) (c : ℕ → List Posting) (h : Standing t card ws c) where
  pub standing-drop : (i : ℕ) → Standing t card (drop i ws) c
  standing-drop i = record {
    rule = h.rule;
    size = h.size;
    wide = h.wide;
    parts = h.parts;
    lists = h.lists;
    formed = λ w e. h.formed w (later w e);
    counts = λ w e. h.counts w (later w e);
    keyed = λ w e. h.keyed w (later w e);
  }
    where
      later : (w : ℕ) → elem w (drop i ws) ≡ true → elem w ws ≡ true
      later w e = ap (elem w) (sym (take-append-drop i ws)) ∙ elem-right w (take i ws) (drop i ws) e

  -- what is read of a portion of them is well formed
  pub standing-fine : (n : ℕ) (r : Bool) (P : List ℕ) → ReadAll (words card) t (take n ws) r P → r ≡ true
  standing-fine n r P a = a.fine ∙ and_both (lists_ruled (words card) t) _ h.lists (every_take (window_formed (words card) t) n ws (elem-every (window_formed (words card) t) ws h.formed))

-- the windows from i on have the counts that c says
pub standing-counts : (t : State) (card ws : List ℕ) (c : ℕ → List Posting) (i : ℕ) → Standing t card (drop i ws) c → (j : ℕ) → i ≤ j → j < length ws → counts_of (get_or ws j 0) (stored (words card) t) ≡ c (get_or ws j 0)
standing-counts t card ws c i h j l m =
    let e : i + (j - i) ≡ j = omega arith in
    let w : get_or (drop i ws) (j - i) 0 ≡ get_or ws j 0 = get_or-drop i ws (j - i) 0 ∙ ap (λ (k : ℕ). get_or ws k 0) e in
    rw w at (h.counts (get_or (drop i ws) (j - i) 0) (at-elem (drop i ws) (j - i) (omega (arith, length-drop i ws))))

module _ (t : State) (card : List ℕ) (w : ℕ) (ws : List ℕ) (c : ℕ → List Posting) (h : Standing t card (w ∷ ws) c) where
  first : elem w (w ∷ ws) ≡ true
  first = rw (eq-eqb w w refl)

  -- refusals 1 to 3 have no cause
  pub standing-formed : removal_formed (words card) t w ≡ true
  unfolding removal_formed lists_formed
  standing-formed = rw (h.parts, h.lists, h.formed w first)

  pub standing-few : length (c w) ≤ 64
  standing-few =
      rw (← h.counts w first)
      (leb-true _ _ (and_right (sums_in_range (of_window w (stored (words card) t))) _ (and_right (sums_in_range (of_window w (in_partitions (words card) (finished t.partitions)))) _ (h.formed w first))))

  pub standing_on : remove_of (store_of t card) w ≡ removing t card w (c w)
  unfolding remove_of refuse_if
  standing_on = rw (h.rule, eq-eqb (length card) t.lengths.card h.size, standing-formed, h.counts w first)

  module _ (once : elem w ws ≡ false) where
    other : (v : ℕ) → elem v ws ≡ true → (v ≡ w → ⊥) × (elem v (w ∷ ws) ≡ true)
    other v e = (λ q. never (sym once ∙ rw q at e), ap (λ (b : Bool). eqb w v || b) e ∙ or-true (eqb w v))
      where
        or-true : (b : Bool) → (b || true) ≡ true
        or-true true = refl
        or-true false = refl

    module _ (shut : names_open t w ≡ false) (live : no_live_window t w (c w) ≡ false) where
      -- after a removal without a flush
      pub standing-plain : length (c w) + length (buffered t.buffer) ≤ 128 → Standing (removed t (c w)) card ws c
      standing-plain room = rw (← h.counts w first) (record {
        rule = rule-removed t W h.rule h.lists w (h.formed w first) k a b r;
        size = unfold removed in h.size;
        wide = wide-removed t W h.rule h.lists w (h.formed w first) k a b r;
        parts = unfold removed in h.parts;
        lists = unfold removed in h.lists;
        formed = λ v e. formed-removed t W h.rule h.lists w (h.formed w first) k a b r v (other v e).0 (h.formed v (other v e).1);
        counts = λ v e. counts-removed t W h.rule h.lists w (h.formed w first) k a b r v (other v e).0 ∙ h.counts v (other v e).1;
        keyed = λ v e. h.keyed v (other v e).1;
      })
        where
          W : List ℕ
          W = words card

          k : every is_keyed (counts_of w (stored W t)) ≡ true
          k = rw (h.counts w first) (h.keyed w first)

          a : names_open t w ≡ false
          a = shut

          b : no_live_window t w (counts_of w (stored W t)) ≡ false
          b = rw (h.counts w first) live

          r : length (counts_of w (stored W t)) + length (buffered t.buffer) ≤ 128
          r = rw (h.counts w first) room

-- after a flush nothing has moved for any window
module _ (t : State) (card ws : List ℕ) (c : ℕ → List Posting) (h : Standing t card ws c) (k : ℕ) (ch : Chosen t (words card) k) where
  abbrev W : List ℕ
  W = words card

  abbrev after : List ℕ
  after = bytes (flushed_card t W k)

  long : length W ≡ 1024 * blocks t
  long = card-words t card h.rule h.size

  same-words : words after ≡ flushed_card t W k
  same-words = words-bytes (flushed_card t W k)

  length-after : length after ≡ length card
  unfolding flushed_card
  length-after = omega (arith, length-bytes (flushed_card t W k), length-store W (k ∷ []) (encode 0 (buffered t.buffer)), long, (state-kept t h.rule).lengths.card, h.size)

  -- the window's sums over the partitions are those that it had with the buffer
  formed-after : (w : ℕ) → window_formed W t w ≡ true → window_formed (flushed_card t W k) (flushed_to t k) w ≡ true
  formed-after w e =
      let b = and_right (sums_in_range (of_window w (in_partitions W (finished t.partitions)))) _ e in
      rw (inside-flushed t W h.rule long h.wide k ch h.parts, stored-flushed t W h.rule long h.wide k ch h.parts)
      (and_both (sums_in_range (of_window w (stored W t))) _ (and_left (sums_in_range (of_window w (stored W t))) _ b) b)

  pub standing-flushed : Standing (flushed_to t k) after ws c
  standing-flushed = record {
    rule = rule-flushed t W h.rule long h.wide k ch;
    size = length-after ∙ unfold flushed_to in h.size;
    wide = unfold flushed_to in refl;
    parts = rw same-words (unfold flushed_to in parts-flushed t W h.rule long h.wide k ch h.parts);
    lists = rw same-words (lists-flushed t W h.rule long h.wide k ch h.parts h.lists);
    formed = λ w e. rw same-words (formed-after w (h.formed w e));
    counts = λ w e. rw same-words (ap (counts_of w) (stored-flushed t W h.rule long h.wide k ch h.parts) ∙ h.counts w e);
    keyed = h.keyed;
  }

-- ---- along the list

-- no window of the list comes again
once-at : (ws : List ℕ) → different ws ≡ true → (i : ℕ) → i < length ws → elem (get_or ws i 0) (drop (suc i) ws) ≡ false
once-at [] d i h = absurd (omega arith)
once-at (w ∷ ws) d zero h = not-true (elem w ws) (and_left (not (elem w ws)) _ d)
once-at (w ∷ ws) d (suc i) h = once-at ws (and_right (not (elem w ws)) _ d) i (omega arith)

-- after i removals: t and its card are what is left, and the rest of the list decides
pub record Reached (p : Store) (ws : List ℕ) (c : ℕ → List Posting) (t : State) (card : List ℕ) (i : ℕ) : Type 0 where
  pub standing : Standing t card (drop i ws) c
  pub lengths : t.lengths ≡ p.state.lengths
  pub on : in_turn remove_of p ws ≡ in_turn remove_of (store_of t card) (drop i ws)

module _ (p : Store) (ws : List ℕ) (c : ℕ → List Posting) (once : different ws ≡ true) (t : State) (card : List ℕ) (i : ℕ) (r : Reached p ws c t card i) where
  -- none is left
  pub reached-end : length ws ≤ i → in_turn remove_of p ws ≡ leave done (store_of t card)
  reached-end h = r.on ∙ (unfold in_turn in rw (drop_of_length-le ws {i = i} h))

  module _ (here : i < length ws) where
    abbrev pub w : ℕ
    w = get_or ws i 0

    pub standing_here : Standing t card (w ∷ drop (suc i) ws) c
    standing_here = rw (drop-cons ws i 0 here) at r.standing

    -- the next decides with the rest
    goes : in_turn remove_of p ws ≡ next (removing t card w (c w)) (λ q. in_turn remove_of q (drop (suc i) ws))
    goes =
        r.on
        ∙ (unfold in_turn in rw (drop-cons ws i 0 here) (ap (λ (o : Outcome Store). next o (λ q. in_turn remove_of q (drop (suc i) ws))) (standing_on t card w (drop (suc i) ws) c standing_here)))

    pub reached-barred : (n : ℕ) → removing t card w (c w) ≡ refuse n → in_turn remove_of p ws ≡ refuse n
    unfolding next
    reached-barred n e = goes ∙ rw e

    module _ (shut : names_open t w ≡ false) (live : no_live_window t w (c w) ≡ false) where
      pub reached-plain : removal_flushes t (c w) ≡ false → removing t card w (c w) ≡ leave done (store_of (removed t (c w)) card) → Reached p ws c (removed t (c w)) card (i + 1)
      reached-plain f e = rw (add-one i) (record {
        standing = standing-plain t card w (drop (suc i) ws) c standing_here (once-at ws once i here) shut live room;
        lengths = unfold removed in r.lengths;
        on = goes ∙ (unfold next in rw e);
      })
        where
          room : length (c w) + length (buffered t.buffer) ≤ 128
          room = unfold removal_flushes in omega (arith, ltb-false 128 (length (buffered t.buffer) + length (c w)) f)

      pub reached-written : (k : ℕ) (ch : Chosen t (words card) k) → removing t card w (c w) ≡ leave done (store_of (removed (flushed_to t k) (c w)) (bytes (flushed_card t (words card) k)))
          → Reached p ws c (removed (flushed_to t k) (c w)) (bytes (flushed_card t (words card) k)) (i + 1)
      reached-written k ch e = rw (add-one i) (record {
        standing = standing-plain (flushed_to t k) (bytes (flushed_card t (words card) k)) w (drop (suc i) ws) c (standing-flushed t card (w ∷ drop (suc i) ws) c standing_here k ch) (once-at ws once i here) (unfold flushed_to in shut) (unfold flushed_to in live) room;
        lengths = unfold removed flushed_to in r.lengths;
        on = goes ∙ (unfold next in rw e);
      })
        where
          room : length (c w) + length (buffered (flushed_to t k).buffer) ≤ 128
          room = unfold flushed_to in omega (arith, standing-few t card w (drop (suc i) ws) c standing_here)
