-- A plan followed call by call.
use Rattle.lists.proofs.Prelude.{cond, List, [], ◌∷◌, map, ◌≡◌, ℕ, suc, ◌+◌, ◌-◌, ◌/◌, ◌<◌, ◌≤◌, add-one, arith, ltb, length, length-map, drop-cons}
use Rattle.answers.specs.Answers.{Answer, halted, Outcome, refuse, leave, after}
use Rattle.identifiers.specs.Register.{entries}
use Rattle.recordings.specs.Recording.{identifier_in}
use Rattle.recordings.proofs.Windows.{identifier-at-place}
use Rattle.forecasts.specs.declared.Sketch.{Sketch}
use Rattle.forecasts.specs.Plan.{Placed}
use Rattle.forecasts.specs.Course.{told, follow}
use Rattle.forecasts.specs.Outlook.{Outlook, outlook_gauge, planned}
use Rattle.forecasts.specs.Sketches.{identifier_at, outlook, stretch, ahead}

-- the identifiers of a run of places: the one at its first, and those after it
pub stretch-on : (plan : List ℕ) (a e : ℕ) → a < e → e ≤ length (entries plan) → stretch plan a e ≡ identifier_at plan a ∷ stretch plan (a + 1) e
stretch-on plan a e h m =
    let l = map identifier_in (entries plan) in
    let long : a < length l = omega (arith, length-map (entries plan) identifier_in) in
    let one : e - a ≡ suc (e - (a + 1)) = omega arith in
    rw (one, drop-cons l a [] long, identifier-at-place plan a, add-one a)

-- none of an empty run
pub stretch-none : (plan : List ℕ) (a e : ℕ) → e ≤ a → stretch plan a e ≡ []
stretch-none plan a e h = let z : e - a ≡ 0 = omega arith in rw z

module _ (card : ℕ) (register plan places : List ℕ) (q : Sketch) (c : Placed) (cs : List Placed) where
  abbrev o : Outlook
  o = outlook register plan places q

  abbrev comes : Outcome Outlook
  comes = planned card (length register / 65) o c.call

  -- a call that is refused ends the plan
  pub follow-refused : (n : ℕ) → comes ≡ refuse n → ahead card register plan places q (c ∷ cs) ≡ told outlook_gauge (planned card (length register / 65)) q.flushes o (halted c.window c.event n)
  unfolding follow after
  follow-refused n e = rw e

  -- one that is done goes on with what it leaves, as a sketch stands for it
  pub follow-done : (x : Answer) (places' : List ℕ) (r : Sketch) → comes ≡ leave x (outlook register plan places' r) → r.flushes ≡ cond (ltb q.low r.low) (suc q.flushes) q.flushes
      → ahead card register plan places q (c ∷ cs) ≡ ahead card register plan places' r cs
  unfolding follow after outlook
  follow-done x places' r e f = rw (e, f)
