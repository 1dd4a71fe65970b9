-- What a removal gives after refusals 1 to 3, by its tests and by its flush's target.
use Rattle.std.specs.Prelude.{Option, Some, None, Result, Ok, Err}
use Rattle.lists.proofs.Prelude.{Bool, true, false, ◌&&◌, ◌||◌, not, List, ◌≡◌, subst, ℕ, ◌≤◌, ◌+◌, arith, eqb, ltb, length, eqb-false, or-none}
use Rattle.words.specs.Words.{words, bytes}
use Rattle.postings.specs.declared.Posting.{Posting}
use Rattle.answers.specs.declared.Refusal.{Refusal}
use Rattle.answers.specs.Answers.{Outcome, Answer, leave, done, refused}
use Rattle.answers.specs.Numbers.{refusal_number}
use Rattle.state.specs.declared.State.{State}
use Rattle.state.specs.Views.{buffered}
use Rattle.state.specs.Probe.{Store}
use Rattle.flushes.specs.Flush.{flushing_if, flushed_to, flushed_card}
use Rattle.windows.specs.Calls.{is_open}
use Rattle.flushes.specs.Targets.{Aimed}
use Rattle.windows.specs.Promises.{Gives, store_of}
use Rattle.windows.proofs.Outcomes.{stopped, passed}
use Rattle.flushes.proofs.Targets.{follows-refused, follows-plain, follows-written}
use Rattle.flushes.proofs.Flushes.{gives-by, refuses, leaves}
use Rattle.removals.specs.Removal.{is_live, removal_flushes, removed, removing}
use Rattle.removals.specs.Taking.{emptied, emptied_card}

-- it names the open window
abbrev pub names_open : State → ℕ → Bool
names_open s w = is_open s && eqb w s.windows.current

-- there is no such window to remove
abbrev pub no_live_window : State → ℕ → List Posting → Bool
no_live_window s w counts = not (is_live counts) || (ltb s.windows.last w || eqb s.windows.live 0)

module _ (s : State) (card : List ℕ) (w : ℕ) (counts : List Posting) where
  pub names-the-open : names_open s w ≡ true → Gives (store_of s card) (removing s card w counts) (refused 5) (store_of s card)
  unfolding removing
  names-the-open e = stopped _ 5 _ e

  module _ (a : names_open s w ≡ false) where
    pub names-no-live : no_live_window s w counts ≡ true → Gives (store_of s card) (removing s card w counts) (refused 7) (store_of s card)
    unfolding removing
    names-no-live e = passed _ 5 _ a (stopped _ 7 _ e)

    module _ (b : no_live_window s w counts ≡ false) where
      -- N is not 0
      pub some-live : 1 ≤ s.windows.live
      some-live =
          let e = (or-none (not (is_live counts)) _ b).1 in
          let f = eqb-false s.windows.live 0 (or-none (ltb s.windows.last w) _ e).1 in
          omega arith

      abbrev left : State → List ℕ → Outcome Store
      left t after = leave done (record { state = removed t counts; card = after })

      -- what is left is its flush and the counts taken back
      goes_on : {x : Answer} {after : Store} (o : Outcome Store) → flushing_if (removal_flushes s counts) s card left ≡ o → Gives (store_of s card) o x after → Gives (store_of s card) (removing s card w counts) x after
      unfolding removing
      goes_on o e g = passed _ 5 _ a (passed _ 7 _ b (gives-by _ _ e g))

      pub flush-barred : (why : Refusal) → Aimed (removal_flushes s counts) s card (Err why) → Gives (store_of s card) (removing s card w counts) (refused (refusal_number why)) (store_of s card)
      flush-barred why f = goes_on _ (follows-refused left _ s card why f) (refuses _)

      pub removed-plain : Aimed (removal_flushes s counts) s card (Ok None) → Gives (store_of s card) (removing s card w counts) done (store_of (removed s counts) card)
      removed-plain f = goes_on _ (follows-plain left _ s card f) (leaves _ _)

      pub removed-flushed : (k : ℕ) → Aimed (removal_flushes s counts) s card (Ok (Some k))
          → Gives (store_of s card) (removing s card w counts) done (store_of (removed (flushed_to s k) counts) (bytes (flushed_card s (words card) k)))
      removed-flushed k f = goes_on _ (follows-written left _ s card k f) (leaves _ _)

      pub removed-emptied : (b : Option ℕ) → Aimed (removal_flushes s counts) s card (Ok b)
          → Gives (store_of s card) (removing s card w counts) done (store_of (removed (emptied s b) counts) (emptied_card s card b))
      removed-emptied None f = removed-plain f
      removed-emptied (Some k) f = removed-flushed k f

-- a target judged with the test as the code makes it
pub judged : (s : State) (counts : List Posting) (card : List ℕ) (wanted : Bool) (t : Result (Option ℕ) Refusal)
    → wanted ≡ ltb 128 (length (buffered s.buffer) + length counts) → Aimed wanted s card t → Aimed (removal_flushes s counts) s card t
unfolding removal_flushes
judged s counts card wanted t e a = subst (λ (x : Bool). Aimed x s card t) e a
