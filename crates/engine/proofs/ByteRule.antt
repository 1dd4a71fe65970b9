-- Document 01's rule of a card's bytes, for every call on a probe whose card is bytes, refused or not: the card keeps its length, and a byte that
-- changes was 255 before, or becomes 255 as all of its block does.
use Rattle.lists.proofs.Prelude.{Bool, true, false, List, [], ◌∷◌, inl, inr, ⊎_elim, ◌≡◌, refl, sym, ap, ◌∙◌, ℕ, suc, ◌*◌, arith, length, replicate, length-replicate, get_or-replicate, eqb-true, not-false, empty, and_left, and_both, empty-not}
use Rattle.words.specs.Words.{words, bytes, Below}
use Rattle.words.proofs.Views.{length-words, words-bytes, length-bytes, bytes-words}
use Rattle.answers.specs.declared.Hit.{Hit}
use Rattle.answers.specs.Answers.{Outcome, refuse, leave, state_of, carry, refuse_if}
use Rattle.answers.proofs.Kept.{after-if, after-choose, after_turn}
use Rattle.state.specs.declared.State.{State}
use Rattle.state.specs.Views.{blocks}
use Rattle.state.specs.Rules.{state_rule}
use Rattle.state.specs.Probe.{Store, Probe, has_length}
use Rattle.state.proofs.Kept.{state-kept}
use Rattle.identifiers.specs.Names.{Name}
use Rattle.card.specs.Blocks.{is_free, free_blocks}
use Rattle.blocks.specs.Writes.{store}
use Rattle.blocks.specs.Moves.{Moves, FillsBytes, MovesBytes}
use Rattle.blocks.proofs.Stores.{length-store}
use Rattle.blocks.proofs.FreeBlocks.{free-at}
use Rattle.blocks.proofs.ByteRule.{moves-bytes, store_bytes}
use Rattle.flushes.specs.Flush.{next_free, flushed_card, flushing, flushing_if, flush_of}
use Rattle.windows.specs.Calls.{fresh, start_of, unstarted, open_of, close_of}
use Rattle.events.specs.Event.{event_of}
use Rattle.queries.specs.Query.{query_of}
use Rattle.means.specs.Mean.{mean_of}
use Rattle.forecasts.specs.Outlook.{forecast_of}
use Rattle.removals.specs.Removal.{removing, remove_of}
use Rattle.batches.specs.Batch.{remove_all_of}
use Rattle.plans.specs.Merging.{taking}
use Rattle.plans.specs.Step.{step_formed, output_chain_on, written_on, stepping, step_of}
use Rattle.merges.proofs.Filling.{step-moves, step-length}
use Rattle.engine.specs.Calls.{Call, Open, Event, Close, Remove, RemoveAll, Flush, Step, Query, Mean, Forecast, store_in, with_store, with_state, no_hit, probe_call}

-- The rule ---------------------------------------------------------------------------------------------------------------

-- what a call may do to a card: its length stays, and its bytes move only as is allowed
pub record Moved (card card' : List ℕ) : Type 0 where
  pub long : length card' ≡ length card
  pub rule : MovesBytes card card'

-- a card that is left moves nothing
stays : (card : List ℕ) → Moved card card
stays card = record { long = refl; rule = λ k h. inl refl }

-- where a card is of whole blocks, it is the bytes of its words
abbrev Whole : List ℕ → Type 0
Whole card = (n : ℕ) → length card ≡ 4096 * n → bytes (words card) ≡ card

-- so it is where its bytes are bytes
whole-small : (card : List ℕ) → Below 256 card → Whole card
whole-small card small n long = bytes-words card small (omega arith)

-- words that move as is allowed
by-words : (card : List ℕ) (n : ℕ) → Whole card → length card ≡ 4096 * n → (W' : List ℕ) → length W' ≡ length (words card) → Moves (words card) W' → Moved card (bytes W')
by-words card n whole long W' l m =
    record { long = omega (arith, length-bytes W', length-words card); rule = moves-bytes card W' (whole n long) (omega arith) l m }

-- what a call that frees no block does to a card: each byte stays, or was 255
record Filled (card card' : List ℕ) : Type 0 where
  long : length card' ≡ length card
  rule : FillsBytes card card'
  whole : Whole card'

-- that is allowed
filled-moved : {card card' : List ℕ} → Filled card card' → Moved card card'
filled-moved f = record { long = f.long; rule = λ k h. ⊎_elim (λ s. inl s) (λ o. inr (inl o)) (f.rule k h) }

-- a card that is left
filled-stays : (card : List ℕ) → Whole card → Filled card card
filled-stays card w = record { long = refl; rule = λ k h. inl refl; whole = w }

-- one call after another
filled_on : {a b c : List ℕ} → Filled a b → Filled b c → Filled a c
filled_on f g = record {
  long = g.long ∙ f.long;
  rule = λ k h. ⊎_elim (λ s. ⊎_elim (λ t. inl (t ∙ s)) (λ o. inr (sym s ∙ o)) (g.rule k (omega (arith, f.long)))) (λ o. inr o) (f.rule k h);
  whole = g.whole;
}

-- Outcomes ---------------------------------------------------------------------------------------------------------------

-- of the whole from the part that a call works on
after-carry : {S T : Type 0} (P : T → Type 0) (f : S → T) (s : S) (t : T) (o : Outcome S) → P t → P (f (state_of s o)) → P (state_of t (carry f o))
after-carry P f s t (refuse n) here h = here
after-carry P f s t (leave x u) here h = h

-- a call that passes refusals 1 and 2 has a card of whole blocks
whole-blocks : (s : State) (card : List ℕ) → state_rule s ≡ true → has_length card s.lengths.card ≡ true → length card ≡ 4096 * blocks s
whole-blocks s card one two = eqb-true (length card) s.lengths.card two ∙ (state-kept s one).lengths.card

-- Flush ------------------------------------------------------------------------------------------------------------------

module _ (s : State) (card : List ℕ) (w : Whole card) (long : length card ≡ 4096 * blocks s) where
  -- a store to the next free block
  to_free : (c : List ℕ) → empty (free_blocks (words card) (blocks s) s.taken) ≡ false → Filled card (bytes (store (words card) (next_free s (words card) ∷ []) c))
  to_free c e = record {
    long = omega (arith, length-bytes W', length-words card, length-store W (b ∷ []) c);
    rule = store_bytes card (blocks s) (w (blocks s) long) long (b ∷ []) c (and_both (is_free W b) true (free-at W (blocks s) s.taken 0 (empty-not (free_blocks W (blocks s) s.taken) e)).1 refl);
    whole = λ n l. ap bytes (words-bytes W');
  }
    where
      W : List ℕ
      W = words card

      b : ℕ
      b = next_free s W

      W' : List ℕ
      W' = store W (b ∷ []) c

  flushed-filled : empty (free_blocks (words card) (blocks s) s.taken) ≡ false → Filled card (bytes (flushed_card s (words card) (next_free s (words card))))
  unfolding flushed_card
  flushed-filled e = to_free _ e

  -- what follows a flush, where that leaves the card as the flush left it
  module _ {S : Type 0} (f : S → List ℕ) (q : S) (here : Filled card (f q)) (k : State → List ℕ → Outcome S)
      (h : (t : State) (after : List ℕ) → Filled card after → Filled card (f (state_of q (k t after)))) where
    flushing-filled : Filled card (f (state_of q (flushing s card k)))
    unfolding flushing
    flushing-filled =
        after-choose P q _ _ _ (λ y. h s card (filled-stays card w))
        (λ n. after-if P q here _ 10 _ (λ a. after-if P q here _ 11 _ (λ b. after-if P q here _ 12 _ (λ c. h _ _ (flushed-filled c)))))
      where
        P : S → Type 0
        P r = Filled card (f r)

    flushing-if-filled : (t : Bool) → Filled card (f (state_of q (flushing_if t s card k)))
    unfolding flushing_if
    flushing-if-filled t = after-choose (λ r. Filled card (f r)) q t _ _ (λ y. flushing-filled) (λ n. h s card (filled-stays card w))

-- The calls --------------------------------------------------------------------------------------------------------------

-- a start: 255 all over
pub start-moved : (card register : List ℕ) → Moved card (state_of (unstarted card register) (start_of card register)).card
unfolding start_of unstarted fresh
start-moved card register =
    after-if (λ (q : Probe). Moved card q.card) (unstarted card register) (stays card) _ 2 _
    (λ e. record { long = length-replicate (length card) 255; rule = λ k h. inr (inr (λ j l q. get_or-replicate (length card) j 255 0 l)) })

event-filled : (p : Probe) (n : Name) → Whole p.card → Filled p.card (state_of p (event_of p n)).card
unfolding event_of
event-filled p n w =
    pass _ 1 _ (λ one.
    pass _ 2 _ (λ two.
    pass _ 3 _ (λ three.
    pass _ 4 _ (λ four.
    pass _ 5 _ (λ five.
    pass _ 6 _ (λ six.
    pass _ 8 _ (λ eight.
    pass _ 9 _ (λ nine.
    flushing-if-filled p.state p.card w (whole-blocks p.state p.card (not-false _ one) (and_left (has_length p.card p.state.lengths.card) _ (not-false _ two))) (λ (q : Probe). q.card) p here _ (λ t after m. m) _))))))))
  where
    P : Probe → Type 0
    P q = Filled p.card q.card

    here : P p
    here = filled-stays p.card w

    pass : (t : Bool) (k : ℕ) (o : Outcome Probe) → (t ≡ false → P (state_of p o)) → P (state_of p (refuse_if t k o))
    pass = after-if P p here

module _ (p : Store) (w : Whole p.card) where
  -- what is left has a card that was only filled
  abbrev OnlyFilled : Store → Type 0
  OnlyFilled q = Filled p.card q.card

  here : OnlyFilled p
  here = filled-stays p.card w

  pass : (t : Bool) (k : ℕ) (o : Outcome Store) → (t ≡ false → OnlyFilled (state_of p o)) → OnlyFilled (state_of p (refuse_if t k o))
  pass = after-if OnlyFilled p here

  flush-filled : OnlyFilled (state_of p (flush_of p))
  unfolding flush_of
  flush-filled =
      pass _ 1 _ (λ one.
      pass _ 2 _ (λ two.
      flushing-filled p.state p.card w (whole-blocks p.state p.card (not-false _ one) (not-false _ two)) (λ (q : Store). q.card) p here _ (λ t after m. m)))

  removal-filled : (v : ℕ) → OnlyFilled (state_of p (remove_of p v))
  unfolding remove_of removing
  removal-filled v =
      pass _ 1 _ (λ one.
      pass _ 2 _ (λ two.
      pass _ 3 _ (λ three.
      pass _ 5 _ (λ five.
      pass _ 7 _ (λ seven.
      flushing-if-filled p.state p.card w (whole-blocks p.state p.card (not-false _ one) (not-false _ two)) (λ (q : Store). q.card) p here _ (λ t after m. m) _)))))

  step-moved : Moved p.card (state_of p (step_of p)).card
  unfolding step_of stepping
  step-moved =
      on _ 1 _ (λ one.
      on _ 2 _ (λ two.
      on _ 3 _ (λ three.
      on _ 12 _ (λ twelve.
      on _ 13 _ (λ thirteen. written (whole-blocks p.state p.card (not-false _ one) (not-false _ two)) (not-false _ three))))))
    where
      s : State
      s = p.state

      W : List ℕ
      W = words p.card

      P : Store → Type 0
      P q = Moved p.card q.card

      on : (t : Bool) (k : ℕ) (o : Outcome Store) → (t ≡ false → P (state_of p o)) → P (state_of p (refuse_if t k o))
      on = after-if P p (stays p.card)

      written : length p.card ≡ 4096 * blocks s → step_formed W s ≡ true → Moved p.card (bytes (written_on W s (taking W s) (suc s.merge.steps) (output_chain_on W s (taking W s))))
      written long formed =
          let l : length W ≡ 1024 * blocks s = omega (arith, length-words p.card) in
          by-words p.card (blocks s) w long _ (step-length W s l) (step-moves W s l formed)

-- several removals: each fills what the one before left
removals-filled : (p : Store) → Whole p.card → (ws : List ℕ) → Filled p.card (state_of p (remove_all_of p ws)).card
unfolding remove_all_of
removals-filled p w ws =
    pass p w _ 1 _ (λ one.
    pass p w _ 2 _ (λ two.
    pass p w _ 3 _ (λ three.
    pass p w _ 16 _ (λ sixteen.
    after_turn (OnlyFilled p w) remove_of (λ t v f. filled_on f (removal-filled t f.whole v)) p (here p w) p (here p w) ws))))

-- every call: nothing is asked but that the card's bytes are bytes
pub call-moved : (p : Probe) → Below 256 p.card → (c : Call) → Moved p.card (state_of p (probe_call p c)).card
unfolding probe_call
call-moved p small c = go c
  where
    P : Probe → Type 0
    P q = Moved p.card q.card

    same : P p
    same = stays p.card

    w : Whole p.card
    w = whole-small p.card small

    go : (c : Call) → P (state_of p (probe_call p c))
    go Open = after-carry P (with_state p) p.state p (open_of p.state) same same
    go (Event n) = filled-moved (event-filled p n w)
    go Close = after-carry P (with_state p) p.state p (close_of p.state) same same
    go (Remove v) = after-carry P (with_store p) (store_in p) p (remove_of (store_in p) v) same (filled-moved (removal-filled (store_in p) w v))
    go (RemoveAll vs) = after-carry P (with_store p) (store_in p) p (remove_all_of (store_in p) vs) same (filled-moved (removals-filled (store_in p) w vs))
    go Flush = after-carry P (with_store p) (store_in p) p (flush_of (store_in p)) same (filled-moved (flush-filled (store_in p) w))
    go Step = after-carry P (with_store p) (store_in p) p (step_of (store_in p)) same (step-moved (store_in p) w)
    go (Query k t ns) = after-carry P (λ (l : List Hit). p) (replicate k no_hit) p (query_of p t ns (replicate k no_hit)) same same
    go (Mean n) = after-carry P (λ (u : Unit {0}). p) tt p (mean_of p n) same same
    go (Forecast plan counts) = after-carry P (λ (u : Unit {0}). p) tt p (forecast_of p.state p.register plan counts) same same
