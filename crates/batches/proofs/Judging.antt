-- The removals of a list judged one after another, and made one after another.
use Rattle.lists.proofs.Prelude.{Bool, true, false, cond, List, [], ◌∷◌, foldr, ◌≡◌, refl, sym, ap, ap₂, ◌∙◌, ℕ, suc, ◌+◌, ◌-◌, ◌<◌, ◌≤◌, arith, ltb, length, get_or, drop, different, and_left, eq-eqb, true≢false}
use Rattle.words.specs.Words.{words, bytes, Below}
use Rattle.postings.specs.declared.Posting.{Posting}
use Rattle.postings.specs.Merge.{put, nonzero, negated}
use Rattle.answers.specs.Answers.{leave, done, refused, answer_of, in_turn}
use Rattle.state.specs.declared.Windows.{Windows}
use Rattle.state.specs.declared.Buffer.{Buffer}
use Rattle.state.specs.declared.State.{State}
use Rattle.state.specs.Views.{blocks, buffered, finished, buffer_of}
use Rattle.state.specs.Probe.{Store, store_of}
use Rattle.partitions.specs.Formed.{partitions_formed}
use Rattle.flushes.specs.Flush.{next_free, flushed_to, flushed_card}
use Rattle.flushes.specs.Targets.{Chosen}
use Rattle.flushes.proofs.Targets.{idle}
use Rattle.sums.specs.declared.Counts.{Counts}
use Rattle.sums.specs.Views.{counts_in, Neat}
use Rattle.removals.specs.Removal.{removal_flushes, removed, removing, remove_of}
use Rattle.removals.specs.Taking.{Takeable, Removable}
use Rattle.removals.proofs.Turns.{card-words}
use Rattle.removals.proofs.Given.{names_open, no_live_window, some-live}
use Rattle.removals.proofs.Takeables.{takeable-plain, takeable-flushed}
use Rattle.batches.specs.Batch.{batch_formed}
use Rattle.batches.specs.declared.Listing.{Listing}
use Rattle.batches.specs.Steps.{Admitted, room_of, removal_after, Listed}
use Rattle.batches.proofs.Keys.{counts-keyed}
use Rattle.batches.proofs.Chain.{Reckoned, Judged, barred, plain, written, judged-of, reckoned-none, reckoned-plain, reckoned-flushed, Standing, counts_at, standing-of, standing-formed, standing-few, Reached, standing_here, reached-barred, reached-plain, reached-written}

-- the window numbers after a removal
abbrev pub one_window_less : Windows → Windows
one_window_less v = record { last = v.last; live = v.live - 1; current = v.current; events = v.events }

-- the buffer after a removal
abbrev pub taken_from : Buffer → List Posting → Buffer
taken_from b counts = buffer_of (nonzero (foldr put (buffered b) (negated counts)))

-- the state after a removal, with a flush to block d before it or without one
unfoldable pub made : State → Bool → ℕ → List Posting → State
made t flush d counts = cond flush (removed (flushed_to t d) counts) (removed t counts)

-- as its parts are put together
pub made_by : (t : State) (card : List ℕ) (flush : Bool) (counts : List Posting) (v : Windows) (b : Buffer) (l : Listing) (after : List ℕ) → v ≡ one_window_less t.windows → b ≡ taken_from (cond flush (buffer_of []) t.buffer) counts
    → Listed card (blocks t) t.taken t.buffer t.partitions flush l after
    → store_of (record { lengths = t.lengths; windows = v; listed = t.listed; buffer = b; partitions = l.partitions; taken = l.taken; merge = t.merge }) after
    ≡ store_of (made t flush (next_free t (words card)) counts) (cond flush (bytes (flushed_card t (words card) (next_free t (words card)))) card)
unfolding made removed flushed_to flushed_card
made_by t card true counts v b l after e f h = rw (e, f, h.partitions, h.taken, h.written)
made_by t card false counts v b l after e f h = rw (e, f, h.partitions, h.taken, h.written)

-- at the beginning
pub reached-none : (s : State) (card ws : List ℕ) → Admitted s card ws → length s.buffer.postings ≡ 128 → Below 256 card → s.windows.last ≤ 65535 → Reached (store_of s card) ws (counts_at s card) s card 0
unfolding batch_formed
reached-none s card ws a wide small last = record {
  standing = standing-of s card ws a.rule a.size wide a.formed (counts-keyed s card small last a.rule (and_left (partitions_formed (words card) (blocks s) (finished s.partitions)) _ a.formed));
  lengths = refl;
  on = refl;
}

-- ---- one removal

module _ (p : Store) (ws : List ℕ) (c : ℕ → List Posting) (once : different ws ≡ true) (t : State) (after : List ℕ) (i : ℕ) (r : Reached p ws c t after i) (here : i < length ws) where
  abbrev w : ℕ
  w = get_or ws i 0

  abbrev h : Standing t after (w ∷ drop (suc i) ws) c
  h = standing_here p ws c once t after i r here

  -- its counts are read
  pub reached-removable : (k : Counts) → Neat k → counts_in k ≡ c w → Removable t after w k
  reached-removable k neat e = record {
    rule = h.rule;
    size = h.size;
    formed = standing-formed t after w (drop (suc i) ws) c h;
    few = neat.few;
    counts = e ∙ sym (h.counts w (rw (eq-eqb w w refl)));
  }

  -- made, where none of the list is refused: whether with a flush is told by the counts
  abbrev free : ℕ
  free = next_free t (words after)

  pub record Made (flush : Bool) (k : Counts) : Type 0 where
    pub takes : Takeable (cond flush (buffer_of []) t.buffer) k
    pub live : 1 ≤ t.windows.live
    pub chosen : flush ≡ true → Chosen t (words after) free
    pub next : Reached p ws c (made t flush free (counts_in k)) (cond flush (bytes (flushed_card t (words after) free)) after) (i + 1)

  pub reached-made : answer_of (in_turn remove_of p ws) ≡ done → (k : Counts) → Neat k → counts_in k ≡ c w → (flush : Bool) → flush ≡ ltb 128 (length (buffered t.buffer) + length (counts_in k)) → Made flush k
  reached-made granted k neat e flush f = go (judged-of t after t after 0 w (c w) (reckoned-none t after) (standing-few t after w (drop (suc i) ws) c h))
    where
      removable : Removable t after w k
      removable = reached-removable k neat e

      same-flush : removal_flushes t (c w) ≡ flush
      same-flush = unfold removal_flushes in (rw (← e) (sym f))

      after-plain : names_open t w ≡ false → no_live_window t w (c w) ≡ false → removal_flushes t (c w) ≡ false → removing t after w (c w) ≡ leave done (store_of (removed t (c w)) after) → Made false k
      after-plain a b q y = record {
        takes = takeable-plain t after w k removable (idle t after (removal_flushes t (counts_in k)) (rw (e, q)));
        live = some-live t after w (c w) a b;
        chosen = λ z. absurd (true≢false (sym z));
        next = unfold made in rw e (reached-plain p ws c once t after i r here a b q y);
      }

      after-flush : names_open t w ≡ false → no_live_window t w (c w) ≡ false → (d : ℕ) → Chosen t (words after) d → removing t after w (c w) ≡ leave done (store_of (removed (flushed_to t d) (c w)) (bytes (flushed_card t (words after) d))) → Made true k
      after-flush a b d ch y = record {
        takes = unfold flushed_to in takeable-flushed t after w k removable d;
        live = some-live t after w (c w) a b;
        chosen = λ z. rw (← ch.block) ch;
        next = unfold made in rw (e, ← ch.block) (reached-written p ws c once t after i r here a b d ch y);
      }

      go : Judged t after t after 0 w (c w) → Made flush k
      go (barred n l x y) = let z : refused n ≡ done = sym (ap answer_of (reached-barred p ws c once t after i r here n y)) ∙ granted in let o : ◌≡◌ {A = ℕ} 0 1 = cc in absurd (omega arith)
      go (plain x a b q y) = rw (sym same-flush ∙ q) (after-plain a b q y)
      go (written x a b q d ch y) = rw (sym same-flush ∙ q) (after-flush a b d ch y)

-- ---- judged before

-- after i removals are judged, with k flushes: what they would leave is reckoned on
pub record Going (s : State) (card ws : List ℕ) (i k : ℕ) (v : Windows) (b : Buffer) : Type 0 where
  pub state : State
  pub after : List ℕ
  pub reached : Reached (store_of s card) ws (counts_at s card) state after i
  pub reckoned : Reckoned s card state after k
  pub windows : state.windows ≡ v
  pub buffer : state.buffer ≡ b
  pub flushes : k ≤ i

module _ (s : State) (card ws : List ℕ) (once : different ws ≡ true) (i k : ℕ) (v : Windows) (b : Buffer) (g : Going s card ws i k v b) (here : i < length ws) where
  abbrev at : ℕ
  at = get_or ws i 0

  abbrev cs : List Posting
  cs = counts_at s card at

  abbrev t : State
  t = g.state

  judged : Judged s card t g.after k at cs
  judged = judged-of s card t g.after k at cs g.reckoned (standing-few t g.after at (drop (suc i) ws) (counts_at s card) (standing_here (store_of s card) ws (counts_at s card) once t g.after i g.reached here))

  -- a removal that is refused refuses the list
  pub going-refused : (m : ℕ) → answer_of (removal_after (room_of s) s.taken (words card) v b k at cs) ≡ refused m → refused m ≡ answer_of (in_turn remove_of (store_of s card) ws)
  going-refused m e = go judged (rw (← g.windows, ← g.buffer) at e)
    where
      go : Judged s card t g.after k at cs → answer_of (removal_after (room_of s) s.taken (words card) t.windows t.buffer k at cs) ≡ refused m → refused m ≡ answer_of (in_turn remove_of (store_of s card) ws)
      go (barred n l x y) f = sym f ∙ ap answer_of x ∙ sym (ap answer_of (reached-barred (store_of s card) ws (counts_at s card) once t g.after i g.reached here n y))
      go (plain x _ _ _ _) f = let z : done ≡ refused m = sym (ap answer_of x) ∙ f in let o : ◌≡◌ {A = ℕ} 0 1 = cc in absurd (omega arith)
      go (written x _ _ _ _ _ _) f = let z : done ≡ refused m = sym (ap answer_of x) ∙ f in let o : ◌≡◌ {A = ℕ} 0 1 = cc in absurd (omega arith)

  -- one that is not goes on
  pub record Onward (flush : Bool) (c : Counts) : Type 0 where
    pub takes : Takeable (cond flush (buffer_of []) b) c
    pub live : 1 ≤ v.live
    pub next : Going s card ws (i + 1) (cond flush (k + 1) k) (one_window_less v) (taken_from (cond flush (buffer_of []) b) (counts_in c))

  module _ (c : Counts) (neat : Neat c) (counts : counts_in c ≡ cs) where
    removable : Removable t g.after at c
    removable = reached-removable (store_of s card) ws (counts_at s card) once t g.after i g.reached here c neat counts

    pub going_on : (flush : Bool) → flush ≡ ltb 128 (length (buffered b) + length (counts_in c)) → answer_of (removal_after (room_of s) s.taken (words card) v b k at (counts_in c)) ≡ done → Onward flush c
    going_on flush f e = go judged (rw (← g.windows, ← g.buffer, counts) at e)
      where
        after-plain : names_open t at ≡ false → no_live_window t at cs ≡ false → removal_flushes t cs ≡ false → removing t g.after at cs ≡ leave done (store_of (removed t cs) g.after) → Onward false c
        after-plain a l h y = record {
          takes = rw (← g.buffer) (takeable-plain t g.after at c removable (idle t g.after (removal_flushes t (counts_in c)) (rw (counts, h))));
          live = rw (← g.windows) (some-live t g.after at cs a l);
          next = record {
            state = removed t cs;
            after = g.after;
            reached = reached-plain (store_of s card) ws (counts_at s card) once t g.after i g.reached here a l h y;
            reckoned = reckoned-plain s card t g.after k g.reckoned cs;
            windows = unfold removed in ap one_window_less g.windows;
            buffer = unfold removed in ap₂ taken_from g.buffer (sym counts);
            flushes = omega (arith, g.flushes);
          };
        }

        after-flush : names_open t at ≡ false → no_live_window t at cs ≡ false → (d : ℕ) → Chosen t (words g.after) d
            → removing t g.after at cs ≡ leave done (store_of (removed (flushed_to t d) cs) (bytes (flushed_card t (words g.after) d))) → Onward true c
        after-flush a l d ch y = record {
          takes = unfold flushed_to in takeable-flushed t g.after at c removable d;
          live = rw (← g.windows) (some-live t g.after at cs a l);
          next = record {
            state = removed (flushed_to t d) cs;
            after = bytes (flushed_card t (words g.after) d);
            reached = reached-written (store_of s card) ws (counts_at s card) once t g.after i g.reached here a l d ch y;
            reckoned = reckoned-plain s card (flushed_to t d) (bytes (flushed_card t (words g.after) d)) (k + 1) (reckoned-flushed s card t g.after k g.reckoned h.rule (card-words t g.after h.rule h.size) h.wide d ch) cs;
            windows = unfold removed flushed_to in ap one_window_less g.windows;
            buffer = unfold removed flushed_to in ap (taken_from (buffer_of [])) (sym counts);
            flushes = omega (arith, g.flushes);
          };
        }
          where
            h : Standing t g.after (drop i ws) (counts_at s card)
            h = g.reached.standing

        same-flush : removal_flushes t cs ≡ flush
        same-flush = unfold removal_flushes in (rw (g.buffer, ← counts) (sym f))

        go : Judged s card t g.after k at cs → answer_of (removal_after (room_of s) s.taken (words card) t.windows t.buffer k at cs) ≡ done → Onward flush c
        go (barred n l x y) z = let q : refused n ≡ done = sym (ap answer_of x) ∙ z in let o : ◌≡◌ {A = ℕ} 0 1 = cc in absurd (omega arith)
        go (plain x a l h y) z = rw (sym same-flush ∙ h) (after-plain a l h y)
        go (written x a l h d ch y) z = rw (sym same-flush ∙ h) (after-flush a l d ch y)
