-- The windows of a plan, one after another.
use Rattle.std.specs.Prelude.{Some, None}
use Rattle.lists.proofs.Prelude.{List, [], map, ◌≡◌, refl, ap, ◌∙◌, ℕ, ◌+◌, ◌-◌, ◌<◌, ◌≤◌, zero-le, add-one, arith, length, get_or, take, drop, total_by}
use Rattle.answers.specs.declared.Stop.{Stop}
use Rattle.identifiers.specs.Names.{Name}
use Rattle.identifiers.specs.Register.{entries}
use Rattle.recordings.specs.Recording.{listed_in_all, identifier_in, cut_into, recorded}
use Rattle.recordings.proofs.Windows.{cut-drop, cut-end, total-take, total-front}
use Rattle.forecasts.specs.declared.Sketch.{Sketch}
use Rattle.forecasts.specs.Plan.{Placed, window_calls, plan_calls}
use Rattle.forecasts.specs.Sketches.{Sound, Lent, ahead, Followed, stretch, opened_by, Early, Ready}

module _ (card : ℕ) (register : List ℕ) (used : ℕ) (plan counts places₀ : List ℕ) (q : Sketch) where
  abbrev windows : List (List Name)
  windows = cut_into counts (map identifier_in (entries plan))

  -- the calls of a whole plan
  abbrev pub whole : List Placed → List Placed
  whole cs = plan_calls (recorded plan counts)

  -- before the window at place i, with all windows before it passed: the places of the plan before `from` are theirs
  pub record Far (places : List ℕ) (t : Sketch) (from i : ℕ) : Type 0 where
    pub high : i ≤ length counts
    pub place : from ≡ total_by (λ n. n) (take i counts)
    pub sound : Sound register plan places t
    pub early : Early t from
    pub long : length places ≡ length places₀
    pub told : (cs : List Placed) → ahead card register plan places₀ q (whole cs) ≡ ahead card register plan places t (window_calls (i + 1) (drop i windows))

  pub far-begin : Sound register plan places₀ q → Far places₀ q 0 0
  far-begin s = record { high = zero-le; place = refl; sound = s; early = zero-le; long = refl; told = λ cs. unfold plan_calls recorded in refl }

  module _ (places : List ℕ) (t : Sketch) (from i : ℕ) (x : Far places t from i) where
    module _ (adds : listed_in_all counts ≡ length (entries plan)) (h : i < length counts) where
      abbrev to : ℕ
      to = from + get_or counts i 0

      pub inside : to ≤ length (entries plan)
      inside = omega (arith, x.place, total-take counts i h, total-front counts (i + 1), adds)

      pub window-ready : Lent register used → Ready register used plan places t from to
      window-ready l = record { lent = l; sound = x.sound; run = omega arith; inside = inside; early = x.early }

      -- the calls from here on begin with this window's
      one_on : window_calls (i + 1) (drop i windows) ≡ opened_by (i + 1) (stretch plan from to) (window_calls (i + 1 + 1) (drop (i + 1) windows))
      one_on =
          let e : to - from ≡ get_or counts i 0 = omega arith in
          rw (cut-drop counts (map identifier_in (entries plan)) i h, e, x.place, add-one (i + 1))

      module _ (r : Sketch) (places' : List ℕ) where
        -- the plan stops in this window
        pub far-stopped : (st : Stop) → Followed card register plan places t (opened_by (i + 1) (stretch plan from to)) (Some st) r places' (λ cs. cs)
            → Followed card register plan places₀ q whole (Some st) r places' (λ cs. [])
        far-stopped st f = record { told = λ cs. x.told cs ∙ ap (ahead card register plan places t) one_on ∙ f.told _; sound = f.sound }

        -- or it is passed
        pub far-on : length places' ≡ length places → Followed card register plan places t (opened_by (i + 1) (stretch plan from to)) None r places' (λ cs. cs) → Early r to
            → Far places' r to (i + 1)
        far-on same f e = record {
          high = omega arith;
          place = omega (arith, x.place, total-take counts i h);
          sound = f.sound;
          early = e;
          long = same ∙ x.long;
          told = λ cs. x.told cs ∙ ap (ahead card register plan places t) one_on ∙ f.told _;
        }

    -- no window is left
    pub far-end : length counts ≤ i → Followed card register plan places₀ q whole None t places (λ cs. [])
    far-end h = record {
      told = λ cs. x.told cs ∙ ap (λ ws. ahead card register plan places t (window_calls (i + 1) ws)) (cut-end counts (map identifier_in (entries plan)) i h);
      sound = x.sound;
    }
