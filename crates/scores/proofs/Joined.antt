-- The turns of the loop over a query's terms.
use Prim.Native.Nat.{max}
use Rattle.lists.proofs.Prelude.{Bool, true, false, ◌||◌, or-false, or_assoc, List, [], ◌∷◌, ◌++◌, map, ◌≡◌, refl, sym, ap, ap₂, ◌∙◌, ℕ, ◌+◌, ◌-◌, ◌*◌, ◌≤◌, arith, length, get_or, drop, set, length-drop, length-set, get_or-take, get_or-drop, any, every, AllOf, and_left, and_right}
use borrow.Rule.Slice.PartMut.{put_mid}
use Rattle.keyed.specs.Keys.{rest, topmost_from, head_vals}
use Rattle.keyed.specs.Groups.{Group, top_all, move_all}
use Rattle.weights.proofs.Laws.{tf-none}
use Rattle.postings.specs.Sums.{is_above}
use Rattle.partitions.specs.Formed.{in_range}
use Rattle.kway.specs.Parts.{part, parts}
use Rattle.kway.specs.Leads.{Leads}
use Rattle.kway.proofs.Parts.{put_in, views-more, Moved, moved_none, now-more, moved_more}
use Rattle.kway.proofs.Leads.{still-at}
use Rattle.heads.specs.Heads.{Kept, views}
use Rattle.scores.specs.Terms.{Term, term_of, KeptGroup, terms_of}
use Rattle.scores.specs.Scores.{groups_in, weights_in, moved, weigh, score_at}
use Rattle.scores.proofs.Counts.{Headed, topped, put-behind-long}

-- ---- a term that is not at the window

module _ (W R : List ℕ) (m k : ℕ) (G : List ℕ) (kept : KeptGroup W R m G) where
  abbrev lists : Group
  lists = views W R m (drop 4 G)

  -- so it is passed over
  pub passed_over : topmost_from 0 lists ≤ k + 1 → (get_or G 0 0 ≡ k + 1 → ⊥) → (term_of W R m G ≡ moved k (term_of W R m G)) × (0 ≡ weigh k (term_of W R m G)) × (false ≡ is_above (head_vals k lists))
  passed_over h d =
      let s = still-at k lists (omega (arith, kept.top)) in
      (ap {B = Term} (λ (g : Group). record { lists = g; weight = get_or G 1 0 }) (sym s.rests), rw (s.sum, tf-none) (omega arith), rw s.sum)

  -- ---- a term at the window: its heads are put back, and its next reach

  module _ (P : List ℕ) (next at others : ℕ) (same : length P ≡ length (drop 4 G)) (heads : AllOf (Kept W R) (parts 4 m P)) (rests : views W R m P ≡ map (rest k) lists) (top : next ≡ topmost_from 0 (views W R m P)) (lead : Leads (views W R m P) at others) where
    abbrev after : List ℕ
    after = set (set (set (put_mid 4 (length G - 4) G P) 0 next) 2 at) 3 others

    four : 4 ≤ length G
    four = omega (arith, kept.long)

    room : length P ≡ length G - 4
    room = omega (arith, length-drop 4 G)

    now : Headed next (get_or G 1 0) at others P after
    now = topped G P next at others four room

    pub after_kept : KeptGroup W R m after
    after_kept = record {
      long = length-set (set (set (put_mid 4 (length G - 4) G P) 0 next) 2 at) 3 others ∙ length-set (set (put_mid 4 (length G - 4) G P) 0 next) 2 at ∙ length-set (put_mid 4 (length G - 4) G P) 0 next ∙ put-behind-long G P four room ∙ kept.long;
      top = now.first ∙ top ∙ ap (λ (x : List ℕ). topmost_from 0 (views W R m x)) (sym now.others);
      light = omega (arith, now.second, kept.light);
      heads = rw now.others heads;
      lead = rw (now.others, now.third, now.fourth) lead;
    }

    pub after-term : term_of W R m after ≡ moved k (term_of W R m G)
    after-term = ap₂ {C = Term} (λ (g : Group) (w : ℕ). record { lists = g; weight = w }) (ap (views W R m) now.others ∙ rests) now.second

    pub after-top : next ≡ topmost_from 0 (views W R m (drop 4 after))
    after-top = top ∙ ap (λ (x : List ℕ). topmost_from 0 (views W R m x)) (sym now.others)

-- ---- one term more

module _ (k : ℕ) where
  score-more : (ts : List Term) (t : Term) → score_at k (ts ++ (t ∷ [])) ≡ score_at k ts + weigh k t
  score-more [] t = omega arith
  score-more (u ∷ ts) t = let r = score-more ts t in omega arith

  any-more : (ts : List Term) (t : Term) → any is_above (map (head_vals k) (groups_in (ts ++ (t ∷ [])))) ≡ (any is_above (map (head_vals k) (groups_in ts)) || is_above (head_vals k t.lists))
  any-more [] t = or-false (is_above (head_vals k t.lists))
  any-more (u ∷ ts) t = rw (any-more ts t) (sym (or_assoc (is_above (head_vals k u.lists)) (any is_above (map (head_vals k) (groups_in ts))) (is_above (head_vals k t.lists))))

top-more : (t : ℕ) (ts : List Term) (u : Term) → top_all t (groups_in (ts ++ (u ∷ []))) ≡ max (top_all t (groups_in ts)) (topmost_from 0 u.lists)
top-more t [] u = refl
top-more t (x ∷ ts) u = top-more (max t (topmost_from 0 x.lists)) ts u

-- ---- each term of those that have the greatest window

top-all-from : (t : ℕ) (gs : List Group) → t ≤ top_all t gs
top-all-from t [] = omega arith
top-all-from t (g ∷ gs) = let a = top-all-from (max t (topmost_from 0 g)) gs in omega arith

-- no window of a group is above k, and the sum of k is in range
abbrev pub Due : List ℕ → List ℕ → ℕ → ℕ → List ℕ → Type 0
Due W R m k P = (topmost_from 0 (views W R m (drop 4 P)) ≤ k + 1) × (in_range (head_vals k (views W R m (drop 4 P))) ≡ true)

pub due_all : (W R : List ℕ) (m k t : ℕ) (ps : List (List ℕ)) → top_all t (groups_in (map (term_of W R m) ps)) ≤ k + 1
    → every in_range (map (head_vals k) (groups_in (map (term_of W R m) ps))) ≡ true → AllOf (Due W R m k) ps
unfolding AllOf
due_all W R m k t [] h e = tt
due_all W R m k t (P ∷ ps) h e =
    let g = views W R m (drop 4 P) in
    let b = top-all-from (max t (topmost_from 0 g)) (groups_in (map (term_of W R m) ps)) in
    ((omega arith, and_left _ _ e), due_all W R m k (max t (topmost_from 0 g)) ps h (and_right (in_range (head_vals k g)) _ e))

-- ---- what stands after j turns of taking the window k

pub record Joined (W R : List ℕ) (m k : ℕ) (H₀ : List ℕ) (j : ℕ) (H : List ℕ) (score : ℕ) (counts : Bool) (next : ℕ) : Type 0 where
  pub heads : Moved (term_of W R m) (KeptGroup W R m) (moved k) (4 * m + 4) H₀ j H
  pub few : score ≤ 61200 * j
  pub total : score ≡ score_at k (terms_of W R m j H₀)
  pub some : counts ≡ any is_above (map (head_vals k) (groups_in (terms_of W R m j H₀)))
  pub top : next ≡ top_all 0 (groups_in (terms_of W R m j H))

module _ (W R : List ℕ) (m k : ℕ) (H₀ : List ℕ) where
  pub joined-none : Joined W R m k H₀ 0 H₀ 0 false 0
  unfolding parts
  joined-none = record { heads = moved_none (term_of W R m) (KeptGroup W R m) (moved k) (4 * m + 4) H₀; few = omega arith; total = refl; some = refl; top = refl }

  pub joined-more : (j : ℕ) (H : List ℕ) (score : ℕ) (counts : Bool) (next : ℕ) → Joined W R m k H₀ j H score counts next → (4 * m + 4) * j + (4 * m + 4) ≤ length H₀
      → (P : List ℕ) (a : ℕ) (b : Bool) (r : ℕ) → KeptGroup W R m P → term_of W R m P ≡ moved k (term_of W R m (part (4 * m + 4) j H))
      → a ≡ weigh k (term_of W R m (part (4 * m + 4) j H)) → a ≤ 61200 → b ≡ is_above (head_vals k (views W R m (drop 4 (part (4 * m + 4) j H)))) → r ≡ topmost_from 0 (views W R m (drop 4 P))
      → Joined W R m k H₀ (j + 1) (put_in (4 * m + 4) H P j) (score + a) (counts || b) (max next r)
  joined-more j H score counts next t fits P a b r g ev ea small eb er =
      let v = t.heads in
      let was = v.later j (omega arith) in
      let f = t.few in
      let ts = terms_of W R m j H₀ in
      let one = term_of W R m (part (4 * m + 4) j H₀) in
      record {
        heads = moved_more (term_of W R m) (KeptGroup W R m) (moved k) (4 * m + 4) H₀ j H v fits P g.long g (rw (← was) ev);
        few = omega arith;
        total = rw (views-more (term_of W R m) (4 * m + 4) j H₀, score-more k ts one, ← t.total, ea, was);
        some = rw (views-more (term_of W R m) (4 * m + 4) j H₀, any-more k ts one, ← t.some, eb, was);
        top = rw (now-more (term_of W R m) (KeptGroup W R m) (moved k) (4 * m + 4) H₀ j H v fits P g.long, top-more 0 (terms_of W R m j H) (term_of W R m P), ← t.top, er);
      }

-- one turn of the search for the greatest window
pub terms-turn : (W R : List ℕ) (m : ℕ) (H : List ℕ) (j top r : ℕ) → r ≡ topmost_from 0 (views W R m (drop 4 (part (4 * m + 4) j H))) → top ≡ top_all 0 (groups_in (terms_of W R m j H))
    → max top r ≡ top_all 0 (groups_in (terms_of W R m (j + 1) H))
terms-turn W R m H j top r a e = rw (views-more (term_of W R m) (4 * m + 4) j H, top-more 0 (terms_of W R m j H) (term_of W R m (part (4 * m + 4) j H)), ← e, a)

-- the reach of group j
pub group-reach : (W R : List ℕ) (m : ℕ) (H : List ℕ) (j : ℕ) → KeptGroup W R m (part (4 * m + 4) j H) → get_or H ((4 * m + 4) * j) 0 ≡ topmost_from 0 (views W R m (drop 4 (part (4 * m + 4) j H)))
group-reach W R m H j g =
    let z : (4 * m + 4) * j + 0 ≡ (4 * m + 4) * j = omega arith in
    sym (get_or-take (4 * m + 4) (drop ((4 * m + 4) * j) H) 0 0 (omega arith) ∙ get_or-drop ((4 * m + 4) * j) H 0 0 ∙ ap (λ (i : ℕ). get_or H i 0) z) ∙ g.top

-- ---- all terms past a window

pub moved-groups : (k : ℕ) (ts : List Term) → groups_in (map (moved k) ts) ≡ move_all k (groups_in ts)
moved-groups k [] = refl
moved-groups k (t ∷ ts) = rw (moved-groups k ts)

pub moved-weights : (k : ℕ) (ts : List Term) → weights_in (map (moved k) ts) ≡ weights_in ts
moved-weights k [] = refl
moved-weights k (t ∷ ts) = rw (moved-weights k ts)
