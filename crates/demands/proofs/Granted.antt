-- What a call that is not refused has found and left.
use Rattle.lists.proofs.Prelude.{Bool, true, false, ◌&&◌, and-false, not, cond, List, [], ◌∷◌, ◌++◌, ◌≡◌, refl, sym, ap, ◌∙◌, subst, ℕ, ◌+◌, ◌*◌, ◌/◌, ◌%◌, ◌≤◌, arith, leb, length, eqb-true, eqb-false, leb-false, le-leb, le_trans, lit≤, ltb, ltb-false, not-true, not-false, or-none, any, empty, every, keep, elem, different, down, by-test, and_left, and_right, and_both, every-from, every-keep, every-kept, every-elem, different-keep, eqb}
use Rattle.lists.proofs.TopK.{different-down}
use Rattle.words.specs.Words.{words}
use Rattle.postings.specs.declared.Stretch.{Stretch}
use Rattle.answers.specs.Answers.{Answer, done, number, hits, mean, forecast, refused, Outcome, refuse, leave, refuse_if, choose, answer_of, state_of, carry}
use Rattle.answers.specs.declared.Hit.{Hit}
use Rattle.state.specs.declared.State.{State}
use Rattle.state.specs.Views.{register_size}
use Rattle.state.specs.Rules.{state_rule}
use Rattle.state.specs.Probe.{Probe, has_length}
use Rattle.state.specs.Shown.{shows_in, shown_in}
use Rattle.identifiers.specs.Names.{Name, bad_length, among}
use Rattle.identifiers.specs.Register.{names, register_rule, added}
use Rattle.identifiers.proofs.Added.{good_length, names-added}
use Rattle.recordings.specs.Recording.{recording_rule}
use Rattle.flushes.specs.Flush.{flushing, flushing_if}
use Rattle.events.specs.Event.{is_new, event_of}
use Rattle.forecasts.specs.Outlook.{forecast_of}
use Rattle.ranking.specs.Hits.{score, matching, ranked}
use Rattle.ranking.specs.Asked.{bad_query, bad_stretch}
use Rattle.stretches.specs.Reached.{read_by, whole}
use Rattle.queries.specs.Query.{count_in, numbers, taken_up, query_formed, hits_of, fill, querying, existing_on, query_of}
use Rattle.queries.proofs.Bounds.{formed-score}
use Rattle.averages.specs.Average.{averaged}
use Rattle.averages.proofs.Division as division
use Rattle.averages.proofs.Division.{left_below}
use Rattle.means.specs.Mean.{frequency_in, total_in, meaning, mean_of}
use Rattle.engine.specs.Calls.{Forecast, probe_call}
use Rattle.accounts.specs.Ledger.{including}
use Rattle.accounts.proofs.Numbers.{new_is}
use Rattle.demands.specs.Words.{Fit, scored, Listing, most_score, Divided}
use Rattle.demands.proofs.Listing.{listed-scores, listed-falls, left-out-only-when-full}

-- where a is answered, what is left is as G says
pub record Where {S : Type 0} (s : S) (a : Answer) (G : S → Type 0) (o : Outcome S) : Type 0 where
  pub holds : answer_of o ≡ a → G (state_of s o)

module _ {S : Type 0} {s : S} {a : Answer} {G : S → Type 0} (fine : (m : ℕ) → refused m ≡ a → ⊥) where
  pub where-if : (t : Bool) (n : ℕ) (o : Outcome S) → (t ≡ false → Where s a G o) → Where s a G (refuse_if t n o)
  unfolding refuse_if
  where-if true n o h = record { holds = λ e. absurd (fine n e) }
  where-if false n o h = h refl

  where-choose : (t : Bool) (o p : Outcome S) → Where s a G o → Where s a G p → Where s a G (choose t o p)
  unfolding choose
  where-choose true o p h k = h
  where-choose false o p h k = k

  -- a flush first or not
  where-flush : (t : Bool) (x : State) (card : List ℕ) (k : State → List ℕ → Outcome S) → ((y : State) (c : List ℕ) → Where s a G (k y c)) → Where s a G (flushing_if t x card k)
  unfolding flushing_if flushing
  where-flush t x card k h =
      where-choose t _ _ (where-choose _ _ _ (h x card) (where-if _ 10 _ (λ _. where-if _ 11 _ (λ _. where-if _ 12 _ (λ _. h _ _))))) (h x card)

pub done-granted : (m : ℕ) → refused m ≡ done → ⊥
done-granted m e = let z : ◌≡◌ {A = ℕ} 0 1 = cc in absurd (omega arith)

pub hits-granted : (hs : List Hit) (k m : ℕ) → refused m ≡ hits hs k → ⊥
hits-granted hs k m e = let z : ◌≡◌ {A = ℕ} 0 1 = cc in absurd (omega arith)

-- ---- events

-- the register with an identifier that it has, or that finds an unused entry
noted : (r : List ℕ) (n : Name) → register_rule r ≡ true → bad_length n ≡ false → (is_new r n ≡ true → 65 * length (names r) + 65 ≤ length r)
    → names (cond (is_new r n) (added r n) r) ≡ including (names r) n
noted r n rule good room =
    by-test (is_new r n)
    (λ y. ap (λ t. names (cond t (added r n) r)) y ∙ names-added r n rule good (room y)
    ∙ sym (ap (λ t. cond t (names r) (names r ++ (n ∷ []))) (new y)))
    (λ z. ap (λ t. names (cond t (added r n) r)) z ∙ sym (ap (λ t. cond t (names r) (names r ++ (n ∷ []))) (old z)))
  where
    new : is_new r n ≡ true → among n (names r) ≡ false
    new y = not-true _ (sym (new_is (names r) n) ∙ y)

    old : is_new r n ≡ false → among n (names r) ≡ true
    old z = not-false _ (sym (new_is (names r) n) ∙ z)

-- a counted event's identifier has 1 to 64 bytes and stands in the register, whole
pub record Noted (p : Probe) (n : Name) (q : Probe) : Type 0 where
  pub some : 1 ≤ length n
  pub most : length n ≤ 64
  pub whole : names q.register ≡ including (names p.register) n

event-where : (p : Probe) (n : Name) → Where p done (Noted p n) (event_of p n)
unfolding event_of
event-where p n =
    where-if done-granted _ 1 _ λ one. where-if done-granted _ 2 _ λ two. where-if done-granted _ 3 _ λ three. where-if done-granted _ 4 _ λ four.
    where-if done-granted _ 5 _ λ _. where-if done-granted _ 6 _ λ _. where-if done-granted _ 8 _ λ eight. where-if done-granted _ 9 _ λ _.
    where-flush done-granted _ p.state p.card _ λ x card. record {
      holds = λ e. record {
        some = omega (arith, (good_length n four).0);
        most = (good_length n four).1;
        whole = noted p.register n (not-false _ three) four (λ y. room two eight y);
      };
    }
  where
    room : not (has_length p.card p.state.lengths.card && has_length p.register p.state.lengths.register) ≡ false
        → (is_new p.register n && leb (register_size p.state) (length (names p.register))) ≡ false
        → is_new p.register n ≡ true → 65 * length (names p.register) + 65 ≤ length p.register
    room two eight y =
        let low : leb (register_size p.state) (length (names p.register)) ≡ false = sym (ap (λ t. t && leb (register_size p.state) (length (names p.register))) y) ∙ eight in
        let long : length p.register ≡ p.state.lengths.register =
        eqb-true _ _ (and_right (has_length p.card p.state.lengths.card) _ (not-false _ two)) in
        omega (arith, leb-false (register_size p.state) (length (names p.register)) low, long)

pub event-noted : (p : Probe) (n : Name) → answer_of (event_of p n) ≡ done → Noted p n (state_of p (event_of p n))
event-noted p n e = (event-where p n).holds e

-- ---- queries

-- the hits answered, the postings taken, and the lent list; what was read is well formed, and no more than five identifiers were asked for
pub record Answered (p : Probe) (t : Stretch) (ns : List Name) (places found : List Hit) (taken : ℕ) (left : List Hit) : Type 0 where
  pub hits_are : hits_of (words p.card) (read_by t p.state) t (existing_on p t) (length places) (numbers p.register ns) ≡ found
  pub taken_is : taken_up (words p.card) (read_by t p.state) (numbers p.register ns) ≡ taken
  pub left_is : left ≡ fill found places
  pub formed : query_formed (words p.card) p.state t p.register (numbers p.register ns) ≡ true
  pub few : length ns ≤ 5

-- the hits of an answer, and the postings taken
abbrev pub list_of : Answer → List Hit
list_of done = []
list_of (number n) = []
list_of (hits hs k) = hs
list_of (mean q r f) = []
list_of (forecast k b m h) = []
list_of (refused n) = []

abbrev pub taken_of : Answer → ℕ
taken_of done = 0
taken_of (number n) = 0
taken_of (hits hs k) = k
taken_of (mean q r f) = 0
taken_of (forecast k b m h) = 0
taken_of (refused n) = 0

-- a query that is not refused with 14
asked-few : (k : ℕ) (ns : List Name) → bad_query k ns ≡ false → length ns ≤ 5
unfolding bad_query
asked-few k ns e = ltb-false 5 (length ns) (or-none (ltb 5 (length ns)) _ (or-none (empty ns) _ e).1).0

-- an answer with these hits and postings taken
query-last : (p : Probe) (t : Stretch) (ns : List Name) (places found : List Hit) (taken : ℕ) (hs : List Hit) (k : ℕ)
    → hits_of (words p.card) (read_by t p.state) t (existing_on p t) (length places) (numbers p.register ns) ≡ hs → taken_up (words p.card) (read_by t p.state) (numbers p.register ns) ≡ k
    → query_formed (words p.card) p.state t p.register (numbers p.register ns) ≡ true → length ns ≤ 5
    → Where places (hits found taken) (Answered p t ns places found taken) (leave (hits hs k) (fill hs places))
query-last p t ns places found taken hs k a b formed few = record {
  holds = λ e. record { hits_are = a ∙ ap list_of e; taken_is = b ∙ ap taken_of e; left_is = ap (λ (l : List Hit). fill l places) (ap list_of e); formed = formed; few = few };
}

query-where : (p : Probe) (t : Stretch) (ns : List Name) (places found : List Hit) (taken : ℕ) → Where places (hits found taken) (Answered p t ns places found taken) (query_of p t ns places)
unfolding query_of querying
query-where p t ns places found taken =
    where-if (hits-granted found taken) _ 1 _ λ _. where-if (hits-granted found taken) _ 2 _ λ _. where-if (hits-granted found taken) _ 3 _ λ three.
    where-if (hits-granted found taken) _ 4 _ λ _. where-if (hits-granted found taken) _ 14 _ λ fourteen. where-if (hits-granted found taken) _ 17 _ λ _.
    query-last p t ns places found taken _ _ refl refl (not-false _ three) (asked-few (length places) ns fourteen)

pub query-answered : (p : Probe) (t : Stretch) (ns : List Name) (places found : List Hit) (taken : ℕ) → answer_of (query_of p t ns places) ≡ hits found taken
    → Answered p t ns places found taken (state_of places (query_of p t ns places))
query-answered p t ns places found taken e = (query-where p t ns places found taken).holds e

-- the hits of the definition are a listing
pub ranked-listing : {I : Type 0} (N : ℕ) (count : I → ℕ → ℕ) (windows : List ℕ) (k : ℕ) (is : List I) → different windows ≡ true → Listing N count windows k is (ranked N count windows k is)
ranked-listing N count windows k is once = record {
  exact = listed-scores N count windows k is;
  falling = listed-falls N count windows k is once;
  full = left-out-only-when-full N count windows k is once;
}

-- so are those of an answer
pub answered-listing : (p : Probe) (t : Stretch) (ns : List Name) (places found : List Hit) (taken : ℕ) → answer_of (query_of p t ns places) ≡ hits found taken
    → Listing (existing_on p t) (count_in (words p.card) (read_by t p.state)) (shown_in t p.state.windows) (length places) (numbers p.register ns) found
answered-listing p t ns places found taken e =
    subst (Listing (existing_on p t) (count_in (words p.card) (read_by t p.state)) (shown_in t p.state.windows) (length places) (numbers p.register ns))
    (ranked-is ∙ (query-answered p t ns places found taken e).hits_are)
    (ranked-listing (existing_on p t) (count_in (words p.card) (read_by t p.state)) (shown_in t p.state.windows) (length places) (numbers p.register ns) once)
  where
    ranked-is : ranked (existing_on p t) (count_in (words p.card) (read_by t p.state)) (shown_in t p.state.windows) (length places) (numbers p.register ns) ≡ hits_of (words p.card) (read_by t p.state) t (existing_on p t) (length places) (numbers p.register ns)
    ranked-is = unfold hits_of in refl

    once : different (shown_in t p.state.windows) ≡ true
    once = unfold shown_in in different-keep (shows_in t p.state.windows.current) (down 65535) (different-down 65535)

-- what holds of each window that matches, with its score, holds of every hit
hits-each : (p : Probe) (t : Stretch) (ns : List Name) (places found : List Hit) (taken : ℕ) → answer_of (query_of p t ns places) ≡ hits found taken → (u : Hit → Bool)
    → ((h : Hit) → elem h.window (matching (existing_on p t) (count_in (words p.card) (read_by t p.state)) (shown_in t p.state.windows) (numbers p.register ns)) ≡ true
    → h.score ≡ score (existing_on p t) (count_in (words p.card) (read_by t p.state)) (shown_in t p.state.windows) (numbers p.register ns) h.window → u h ≡ true) → every u found ≡ true
hits-each p t ns places found taken e u f =
    let N = existing_on p t in
    let count = count_in (words p.card) (read_by t p.state) in
    let windows = shown_in t p.state.windows in
    let is = numbers p.register ns in
    let exact = (answered-listing p t ns places found taken e).exact in
    every-from
    (λ h. elem h.window (matching N count windows is) && eqb h.score (scored N count windows is h.window).score)
    (λ h. elem h.window (matching N count windows is) && eqb h.score (scored N count windows is h.window).score)
    u
    (λ h a b. f h (and_left _ _ a) (eqb-true _ _ (and_right (elem h.window (matching N count windows is)) _ a)))
    found
    exact
    exact

-- each is of a window of the stretch that shows
pub hits-show : (p : Probe) (t : Stretch) (ns : List Name) (places found : List Hit) (taken : ℕ) → answer_of (query_of p t ns places) ≡ hits found taken
    → every (λ h. shows_in t p.state.windows.current h.window) found ≡ true
hits-show p t ns places found taken e =
    hits-each p t ns places found taken e (λ h. shows_in t o h.window) (λ h m q. every-elem (shows_in t o) matched h.window all m)
  where
    o : ℕ
    o = p.state.windows.current

    matched : List ℕ
    matched = matching (existing_on p t) (count_in (words p.card) (read_by t p.state)) (shown_in t p.state.windows) (numbers p.register ns)

    all : every (shows_in t o) matched ≡ true
    all = unfold matching shown_in in every-keep _ (shows_in t o) (keep (shows_in t o) (down 65535)) (every-kept (shows_in t o) (down 65535))

-- nor is a score above that of five identifiers
pub scores-few : (p : Probe) (t : Stretch) (ns : List Name) (places found : List Hit) (taken : ℕ) → answer_of (query_of p t ns places) ≡ hits found taken → every (λ h. leb h.score most_score) found ≡ true
scores-few p t ns places found taken e =
    let a = query-answered p t ns places found taken e in
    hits-each p t ns places found taken e (λ h. leb h.score most_score)
    (λ h m q.
    let most = formed-score (words p.card) p.state t p.register ns (existing_on p t) (shown_in t p.state.windows) h.window a.formed a.few in
    rw q (le-leb _ most_score (le_trans most (lit≤ tt))))

-- ---- means

pub mean-granted : (q r f m : ℕ) → refused m ≡ mean q r f → ⊥
mean-granted q r f m e = let z : ◌≡◌ {A = ℕ} 0 1 = cc in absurd (omega arith)

-- what is answered where F is not 0
pub mean-last : (f t q r d : ℕ) → eqb f 0 ≡ false → averaged f t ≡ mean q r d → Divided f t q r d
mean-last f t q r d some e =
    let n = eqb-false f 0 some in
    let a : t / f ≡ q = cc in
    let b : t % f ≡ r = cc in
    let c : f ≡ d = cc in
    record { sum = rw (← a, ← b, ← c) (division.whole t f); below = rw (← b, ← c) (left_below t f (omega arith)); windows = sym c }

mean-where : (p : Probe) (n : Name) (f t q r d : ℕ) → Where tt (mean q r d) (λ (u : Unit {0}). Divided f t q r d) (meaning p n f t)
unfolding meaning
mean-where p n f t q r d =
    where-if (mean-granted q r d) _ 1 _ λ _. where-if (mean-granted q r d) _ 2 _ λ _. where-if (mean-granted q r d) _ 3 _ λ _.
    where-if (mean-granted q r d) _ 4 _ λ _. where-if (mean-granted q r d) _ 15 _ λ some.
    record { holds = λ e. mean-last f t q r d some e }

pub mean-answered : (p : Probe) (n : Name) (q r d : ℕ) → answer_of (mean_of p n) ≡ mean q r d
    → Divided (frequency_in (words p.card) (read_by whole p.state) (numbers p.register (n ∷ []))) (total_in (words p.card) (read_by whole p.state) (numbers p.register (n ∷ []))) q r d
unfolding mean_of
mean-answered p n q r d e = (mean-where p n _ _ q r d).holds e

-- ---- identifiers of a bad length

refuse-now : {S : Type 0} (t : Bool) (n : ℕ) (o : Outcome S) → t ≡ true → answer_of (refuse_if t n o) ≡ refused n
unfolding refuse_if
refuse-now true n o e = refl
refuse-now false n o e = absurd (let z : ◌≡◌ {A = ℕ} 0 1 = cc in omega arith)

refuse-later : {S : Type 0} (t : Bool) (n : ℕ) (o : Outcome S) (a : Answer) → t ≡ true → answer_of o ≡ a → answer_of (refuse_if (not t) n o) ≡ a
unfolding refuse_if
refuse-later true n o a e f = f
refuse-later false n o a e f = absurd (let z : ◌≡◌ {A = ℕ} 0 1 = cc in omega arith)

refuse-not : {S : Type 0} (t : Bool) (n : ℕ) (o : Outcome S) (a : Answer) → t ≡ false → answer_of o ≡ a → answer_of (refuse_if t n o) ≡ a
unfolding refuse_if
refuse-not true n o a e f = absurd (let z : ◌≡◌ {A = ℕ} 0 1 = cc in omega arith)
refuse-not false n o a e f = f

pub event-bad : (p : Probe) (n : Name) → Fit p → bad_length n ≡ true → answer_of (event_of p n) ≡ refused 4
unfolding event_of
event-bad p n s bad =
    refuse-later _ 1 _ (refused 4) s.state
    (refuse-later _ 2 _ (refused 4) (and_both (has_length p.card p.state.lengths.card) _ s.card s.register)
    (refuse-later _ 3 _ (refused 4) s.entries
    (refuse-now _ 4 _ bad)))

pub query-bad : (p : Probe) (t : Stretch) (ns : List Name) (places : List Hit) → Fit p → query_formed (words p.card) p.state t p.register (numbers p.register ns) ≡ true
    → any bad_length ns ≡ true → answer_of (query_of p t ns places) ≡ refused 4
unfolding query_of querying
query-bad p t ns places s formed bad =
    refuse-later _ 1 _ (refused 4) s.state
    (refuse-later _ 2 _ (refused 4) (and_both (has_length p.card p.state.lengths.card) _ s.card s.register)
    (refuse-later _ 3 _ (refused 4) formed
    (refuse-now _ 4 _ bad)))

-- a query of a stretch whose first window exceeds its last
pub query-stretch : (p : Probe) (t : Stretch) (ns : List Name) (places : List Hit) → Fit p → query_formed (words p.card) p.state t p.register (numbers p.register ns) ≡ true
    → any bad_length ns ≡ false → bad_query (length places) ns ≡ false → bad_stretch t ≡ true → answer_of (query_of p t ns places) ≡ refused 17
unfolding query_of querying
query-stretch p t ns places s formed good fine bad =
    refuse-later _ 1 _ (refused 17) s.state
    (refuse-later _ 2 _ (refused 17) (and_both (has_length p.card p.state.lengths.card) _ s.card s.register)
    (refuse-later _ 3 _ (refused 17) formed
    (refuse-not _ 4 _ (refused 17) good (refuse-not _ 14 _ (refused 17) fine (refuse-now _ 17 _ bad)))))

pub mean-bad : (p : Probe) (n : Name) → Fit p → query_formed (words p.card) p.state whole p.register (numbers p.register (n ∷ [])) ≡ true
    → bad_length n ≡ true → answer_of (mean_of p n) ≡ refused 4
unfolding mean_of meaning
mean-bad p n s formed bad =
    refuse-later _ 1 _ (refused 4) s.state
    (refuse-later _ 2 _ (refused 4) (and_both (has_length p.card p.state.lengths.card) _ s.card s.register)
    (refuse-later _ 3 _ (refused 4) formed
    (refuse-now _ 4 _ bad)))

-- ---- forecasts

-- refused with 3 for its plan
pub plan-bad : (p : Probe) (plan counts : List ℕ) → state_rule p.state ≡ true → has_length p.register p.state.lengths.register ≡ true
    → recording_rule plan counts ≡ false → answer_of (probe_call p (Forecast plan counts)) ≡ refused 3
unfolding probe_call forecast_of refuse_if
plan-bad p plan counts rule size bad = rw (rule, size, bad, and-false (register_rule p.register))

-- what a call leaves that is lent nothing to be written
kept : (p : Probe) (o : Outcome (Unit {0})) → state_of p (carry (λ (u : Unit {0}). p) o) ≡ p
kept p (refuse n) = refl
kept p (leave x u) = refl

pub forecast-kept : (p : Probe) (plan counts : List ℕ) → state_of p (probe_call p (Forecast plan counts)) ≡ p
unfolding probe_call
forecast-kept p plan counts = kept p (forecast_of p.state p.register plan counts)
