-- The three demands as theorems, each under a plain sentence. Who believes the definitions that they name, and the promises of the public functions,
-- which equate result and lent buffers with those definitions, need read no further: every proof here cites a law.
use Rattle.std.specs.Prelude.{Result, ⊤}
use Rattle.answers.specs.declared.Refusal.{Refusal}
use Rattle.answers.specs.declared.Mean.{Mean}
use Rattle.lists.proofs.Prelude.{true, false, ◌||◌, ◌&&◌, cond, List, [], ◌∷◌, ◌++◌, map, ◌≡◌, sym, ap, ◌∙◌, ℕ, ◌+◌, ◌-◌, ◌*◌, ◌/◌, ◌^◌, ◌≤◌, ◌<◌, eqb, ltb, leb, pos, length, get_or, any, elem, every, empty, different}
use Rattle.words.specs.Words.{words, all_ones, Below}
use Rattle.weights.specs.Weights.{sixteenths, tf_weight, idf_weight}
use Rattle.weights.proofs.Laws.{sixteenths-highest, tf-proper, tf-grows, idf-none, idf-past, idf-proper}
use Rattle.postings.specs.declared.Posting.{Posting}
use Rattle.postings.specs.declared.Stretch.{Stretch}
use Rattle.postings.specs.Merge.{pairs}
use Rattle.postings.specs.Sums.{sum}
use Rattle.answers.specs.Answers.{Answer, done, hits, mean, refused, answer_of, state_of, carry}
use Rattle.answers.specs.declared.Found.{Found}
use Rattle.answers.specs.declared.Forecast.{Forecast}
use Rattle.answers.specs.declared.Hit.{Hit}
use Rattle.state.specs.declared.State.{State}
use Rattle.state.specs.Probe.{Store, Probe, has_length}
use Rattle.state.specs.Views.{padded, blocks, finished}
use Rattle.state.specs.Rules.{card_length, register_length, state_rule}
use Rattle.state.specs.Shown.{within, shows, shown_in}
use Rattle.identifiers.specs.Names.{Name, bad_length, numbers_of}
use Rattle.identifiers.specs.Register.{size, names}
use Rattle.recordings.specs.Recording.{recording_rule, identifier_in, recorded}
use Rattle.recordings.proofs.Windows.{bad-size}
use Rattle.card.specs.Blocks.{on_card, is_free}
use Rattle.blocks.specs.Writes.{store}
use Rattle.blocks.specs.Moves.{MovesBytes}
use Rattle.card.specs.Chains.{blocks_for, content}
use Rattle.partitions.specs.Layout.{length_of, encode, written_as}
use Rattle.partitions.specs.Reading.{postings_of, stored}
use Rattle.partitions.specs.Formed.{partition_rule, partitions_formed, span_rule, lists_rule, Writable}
use Rattle.partitions.proofs.Kept.{rule-written, lists-written, postings-written}
use Rattle.windows.specs.Calls.{fresh, start_of, unstarted}
use Rattle.events.specs.Event.{event_of}
use Rattle.windows.specs.Promises.{probe_of}
use Rattle.windows.specs.declared.After.{After}
use Rattle.windows.proofs.Refused.{start-unchanged}
use Rattle.stretches.specs.Reached.{read_by, whole}
use Rattle.queries.specs.Query.{count_in, numbers, taken_up, query_formed, fill, existing_on, query_of}
use Rattle.queries.specs.Finds.{answered}
use Rattle.queries.specs.declared.Answered.{Answered}
use Rattle.queries.proofs.Refused.{query-unchanged}
use Rattle.ranking.specs.Asked.{bad_query, bad_stretch}
use Rattle.ranking.specs.Hits.{frequency}
use Rattle.averages.specs.Average.{total, averaging}
use Rattle.means.specs.Mean.{frequency_in, total_in, mean_of}
use Rattle.forecasts.specs.Plan.{plan_calls}
use Rattle.batches.specs.Batch.{batch_rule, batch_formed}
use Rattle.plans.specs.Merging.{progress}
use Rattle.engine.specs.Calls as calls
use Rattle.engine.specs.Calls.{Call, RemoveAll, probe_call}
use Rattle.engine.proofs.Refused.{call-unchanged}
use Rattle.engine.proofs.ByteRule.{call-moved}
use Rattle.plans.specs.Step.{step_of}
use Rattle.jobs.specs.Lent.{Lent, with_own, lent_step_of}
use Rattle.jobs.proofs.Lent.{lent-unchanged, lent_other, lent-own}
use Rattle.accounts.specs.Account as account
use Rattle.accounts.specs.Account.{Account, stored_in, taken_from, inputs_of, merged, blocks_of, stepped_account}
use Rattle.accounts.specs.Ledger as ledger
use Rattle.accounts.specs.Ledger.{existing, shown_within, existing_within, including, count_by_number}
use Rattle.accounts.specs.Books.{AllGranted, showing, expected}
use Rattle.accounts.specs.Lists.{Lists}
use Rattle.accounts.proofs.Stored.{sum-stored-stepped}
use Rattle.decoded.specs.Portions.{portion_on, output_of, clean_past}
use Rattle.decoded.proofs.Simulated.{left-sums}
use Rattle.histories.specs.Statement.{answers, SameAnswers}
use Rattle.histories.proofs.Theorem.{entries-most, same-answers, none-malformed, history-left}
use Rattle.demands.specs.Words.{Fit, Listing, most_score, Divided, Together, Foreseen, probe_after, books_after, unused}
use Rattle.demands.specs.Promises.{Starts, Opens, Counts, Closes, Removes, RemovesAll, Flushes, Steps, Asks, AsksValue, Averages, Foretells, Begun}
use Rattle.demands.proofs.Granted.{event-bad, query-bad, query-stretch, mean-bad, event-noted, query-answered, answered-listing, hits-show, scores-few, mean-answered, plan-bad, forecast-kept}
use Rattle.demands.proofs.Rows.{start-fresh, start-refuses, all-unstarted, begun-run}
use Rattle.demands.proofs.Removals.{removals-together, removals-late, list-bad}
use Rattle.demands.proofs.Single.{one_state, one_store, one-probe, one-opening, one_list, one_found, one-averaged, one-forecasted}
use Rattle.demands.proofs.After.{by-books, listing-by-ledger, whole-left, hits-kept, mean-told, mean-by-ledger, list-bad-after, together-left, count-removed, live-removed, none-removed, forecast-left, free-left, byte_left, past-left, spans-left, output-left}

-- ==== 1. Every call does what the page says, on every input

-- Two results that keep the promise of one call on the same input are equal: the answer, the state and every buffer at exit. For each public function:
pub one-start : (card register : List ℕ) (x y : After ⊤) (card₁ register₁ card₂ register₂ : List ℕ) → Starts card register x card₁ register₁ → Starts card register y card₂ register₂
    → (x ≡ y) × (card₁ ≡ card₂) × (register₁ ≡ register₂)
one-start card register x y card₁ register₁ card₂ register₂ g h = one-probe x y g h

pub one-open : (s : State) (x y : After ℕ) → Opens s x → Opens s y → x ≡ y
one-open s x y g h = one-opening x y g h

pub one-event : (s : State) (card register : List ℕ) (id : Name) (x y : After ⊤) (card₁ register₁ card₂ register₂ : List ℕ)
    → Counts s card register id x card₁ register₁ → Counts s card register id y card₂ register₂ → (x ≡ y) × (card₁ ≡ card₂) × (register₁ ≡ register₂)
one-event s card register id x y card₁ register₁ card₂ register₂ g h = one-probe x y g h

pub one-close : (s : State) (x y : After ⊤) → Closes s x → Closes s y → x ≡ y
one-close s x y g h = one_state x y g h

pub one-removal : (s : State) (card : List ℕ) (window : ℕ) (x y : After ⊤) (card₁ card₂ : List ℕ) → Removes s card window x card₁ → Removes s card window y card₂ → (x ≡ y) × (card₁ ≡ card₂)
one-removal s card window x y card₁ card₂ g h = one_store x y g h

pub one-removals : (s : State) (card windows : List ℕ) (x y : After ⊤) (card₁ card₂ : List ℕ) → RemovesAll s card windows x card₁ → RemovesAll s card windows y card₂ → (x ≡ y) × (card₁ ≡ card₂)
one-removals s card windows x y card₁ card₂ g h = one_store x y g h

pub one-flush : (s : State) (card : List ℕ) (x y : After ⊤) (card₁ card₂ : List ℕ) → Flushes s card x card₁ → Flushes s card y card₂ → (x ≡ y) × (card₁ ≡ card₂)
one-flush s card x y card₁ card₂ g h = one_store x y g h

pub one-step : (s : State) (card : List ℕ) (x y : After ⊤) (card₁ card₂ : List ℕ) → Steps s card x card₁ → Steps s card y card₂ → (x ≡ y) × (card₁ ≡ card₂)
one-step s card x y card₁ card₂ g h = one_store x y g h

pub one-query : (s : State) (card register : List ℕ) (t : Stretch) (ids : List Name) (places : List Hit) (x y : Result Found Refusal) (places₁ places₂ : List Hit)
    → Asks s card register t ids places x places₁ → Asks s card register t ids places y places₂ → (x ≡ y) × (places₁ ≡ places₂)
one-query s card register t ids places x y places₁ places₂ g h = one_list x y places₁ places₂ g.0 h.0 g.1 h.1

pub one-query-value : (s : State) (card register : List ℕ) (t : Stretch) (ids : List Name) (places : ℕ) (x y : Answered) → AsksValue s card register t ids places x → AsksValue s card register t ids places y → x ≡ y
one-query-value s card register t ids places x y g h = one_found (answered (probe_of s card register) t ids places) places x y g h

pub one-mean : (s : State) (card register : List ℕ) (id : Name) (x y : Result Mean Refusal) → Averages s card register id x → Averages s card register id y → x ≡ y
one-mean s card register id x y g h = one-averaged x y (g ∙ sym h)

pub one-forecast : (s : State) (register plan counts : List ℕ) (x y : Result Forecast Refusal) → Foretells s register plan counts x → Foretells s register plan counts y → x ≡ y
one-forecast s register plan counts x y g h = one-forecasted x y (g ∙ sym h)

-- A start on any bytes of lengths within the limits is done, and leaves the fresh state, card and register.
pub started : (card register : List ℕ) → card_length (length card) ≡ true → register_length (length register) ≡ true
    → (answer_of (start_of card register) ≡ done) × (state_of (unstarted card register) (start_of card register) ≡ fresh (length card) (length register))
started card register c r = let e = start-fresh card register c r in (ap answer_of e, ap (state_of (unstarted card register)) e)

-- On any other lengths it is refused with 2.
pub not-started : (card register : List ℕ) → (card_length (length card) && register_length (length register)) ≡ false → answer_of (start_of card register) ≡ refused 2
not-started card register e = ap answer_of (start-refuses card register e)

-- After a refused start every call is refused with 1, whatever the buffers.
pub unstarted-refused : (card register : List ℕ) (c : Call) → answer_of (probe_call (unstarted card register) c) ≡ refused 1
unstarted-refused = all-unstarted

-- A refused call leaves state, card and register as they were.
pub refused-unchanged : (p : Probe) (c : Call) (n : ℕ) → answer_of (probe_call p c) ≡ refused n → state_of p (probe_call p c) ≡ p
refused-unchanged p c n e = (call-unchanged p c).same n e

-- A refused query leaves the lent list as it was.
pub refused-list-unchanged : (p : Probe) (t : Stretch) (ns : List Name) (places : List Hit) (n : ℕ) → answer_of (query_of p t ns places) ≡ refused n → state_of places (query_of p t ns places) ≡ places
refused-list-unchanged p t ns places n e = (query-unchanged p t ns places).same n e

-- A refused start leaves both buffers as they were, and gives a state of zeros.
pub refused-start : (card register : List ℕ) (n : ℕ) → answer_of (start_of card register) ≡ refused n → state_of (unstarted card register) (start_of card register) ≡ unstarted card register
refused-start card register n e = (start-unchanged card register).same n e

-- A step is lent the record of the merge beside state and card. With the state's own record it is the step of state and card, and the record moves on with the state's.
pub own-record-step : (p : Store) → lent_step_of (with_own p) ≡ carry with_own (step_of p)
own-record-step = lent-own

-- Any other record is refused with 1.
pub other-record-refused : (l : Lent) → (l.job ≡ l.store.state.merge → ⊥) → answer_of (lent_step_of l) ≡ refused 1
other-record-refused l other = ap answer_of (lent_other l other)

-- A refused step leaves state, card and record as they were.
pub refused-step-unchanged : (l : Lent) (n : ℕ) → answer_of (lent_step_of l) ≡ refused n → state_of l (lent_step_of l) ≡ l
refused-step-unchanged l n e = (lent-unchanged l).same n e

-- On a card of bytes a call, refused or not, keeps the card's length, and a byte that changes was 255 before, or becomes 255 as all of its block does.
pub bytes-move : (p : Probe) → Below 256 p.card → (c : Call) → (length (state_of p (probe_call p c)).card ≡ length p.card) × MovesBytes p.card (state_of p (probe_call p c)).card
bytes-move p b c = let m = call-moved p b c in (m.long, m.rule)

-- An event whose identifier is empty or longer than 64 bytes is refused with 4 (with 1 to 3 where these come first).
pub bad-event : (p : Probe) (n : Name) → Fit p → bad_length n ≡ true → answer_of (event_of p n) ≡ refused 4
bad-event = event-bad

-- So is a query that names one.
pub bad-query : (p : Probe) (t : Stretch) (ns : List Name) (places : List Hit) → Fit p → query_formed (words p.card) p.state t p.register (numbers p.register ns) ≡ true
    → any bad_length ns ≡ true → answer_of (query_of p t ns places) ≡ refused 4
bad-query = query-bad

-- A query of a stretch whose first window exceeds its last is refused with 17 (with 1 to 4 or 14 where these come first).
pub bad-stretch : (p : Probe) (t : Stretch) (ns : List Name) (places : List Hit) → Fit p → query_formed (words p.card) p.state t p.register (numbers p.register ns) ≡ true
    → any bad_length ns ≡ false → bad_query (length places) ns ≡ false → bad_stretch t ≡ true → answer_of (query_of p t ns places) ≡ refused 17
bad-stretch = query-stretch

-- And a mean of one.
pub bad-mean : (p : Probe) (n : Name) → Fit p → query_formed (words p.card) p.state whole p.register (numbers p.register (n ∷ [])) ≡ true
    → bad_length n ≡ true → answer_of (mean_of p n) ≡ refused 4
bad-mean = mean-bad

-- A list of windows to be removed together that is empty, has more than 32 or names one twice is refused with 16 (with 1 to 3 where these come first).
pub bad-list : (p : Probe) (ws : List ℕ) → state_rule p.state ≡ true → has_length p.card p.state.lengths.card ≡ true → batch_formed (words p.card) p.state ws ≡ true
    → batch_rule ws ≡ false → answer_of (probe_call p (RemoveAll ws)) ≡ refused 16
bad-list = list-bad

-- Any other list is removed all or none: where the single removals, one after another in the list's order, are all done, it is done and leaves what they leave; else it is
-- refused with the number of the first of them that is refused, and so leaves everything as it was.
pub together : (p : Probe) (ws : List ℕ) → state_rule p.state ≡ true → has_length p.card p.state.lengths.card ≡ true → batch_formed (words p.card) p.state ws ≡ true
    → batch_rule ws ≡ true → Together p ws (probe_call p (RemoveAll ws))
together = removals-together

-- None of them finds a cause for 1 to 3 that was not there before: whatever bytes the card has, and with a buffer of 128 places and window numbers of 16 bits, as the code's state has them, such a
-- list is refused with 5, 7, 10, 11 or 12 or not at all.
pub list-numbers : (p : Probe) (ws : List ℕ) → state_rule p.state ≡ true → has_length p.card p.state.lengths.card ≡ true → batch_formed (words p.card) p.state ws ≡ true
    → Below 256 p.card → length p.state.buffer.postings ≡ 128 → p.state.windows.last ≤ 65535 → batch_rule ws ≡ true
    → (n : ℕ) → answer_of (probe_call p (RemoveAll ws)) ≡ refused n → elem n (5 ∷ 7 ∷ 10 ∷ 11 ∷ 12 ∷ []) ≡ true
list-numbers = removals-late

-- An identifier is never shortened: after a counted event the register's identifiers are those before, with this one included whole.
pub counted-whole : (p : Probe) (n : Name) → answer_of (event_of p n) ≡ done
    → (1 ≤ length n) × (length n ≤ 64) × (names (state_of p (event_of p n)).register ≡ including (names p.register) n)
counted-whole p n e = let w = event-noted p n e in (w.some, w.most, w.whole)

-- ==== 2. Hits and means are exact, and what is written reads back

-- The weights that scores are made of (`tf_weight`, `idf_weight`) are of binary logarithms in sixteenths, S. That of every n from 1 to 65,535 is the largest a with 2 ^ a at most n ^ 16.
pub logarithm-exact : (n : ℕ) → 1 ≤ n → n ≤ 65535 → (2 ^ sixteenths n ≤ n ^ 16) × (n ^ 16 < 2 ^ (sixteenths n + 1))
logarithm-exact n lo hi = let h = sixteenths-highest n lo hi in (h.reached, h.next)

-- A count f weighs S(f + 1), a larger one no less; N and F weigh S(N) - S(F) where F is from 1 to N, and else nothing.
pub count-weight : (f : ℕ) → tf_weight f ≡ sixteenths (f + 1)
count-weight = tf-proper

pub larger-count : (f g : ℕ) → f ≤ g → tf_weight f ≤ tf_weight g
larger-count = tf-grows

pub rarity-weight : (n f : ℕ) → ((1 ≤ f) × (f ≤ n) → idf_weight n f ≡ sixteenths n - sixteenths f) × (idf_weight n 0 ≡ 0) × (n < f → idf_weight n f ≡ 0)
rarity-weight n f = ((λ h. idf-proper n f h.0 h.1), idf-none n, (λ h. idf-past n f h))

-- The hits that a query answers are of matching windows of its stretch, with exactly the defined scores, in falling order, and cut only where the list is full. N, F and counts are of the
-- windows of the stretch that show, read from the buffer and the partitions that the stretch reaches.
pub hits-exact : (p : Probe) (t : Stretch) (ns : List Name) (places found : List Hit) (taken : ℕ) → answer_of (query_of p t ns places) ≡ hits found taken
    → Listing (existing_on p t) (count_in (words p.card) (read_by t p.state)) (shown_in t p.state.windows) (length places) (numbers p.register ns) found
hits-exact = answered-listing

-- Each is of a window of the stretch, and none of a window under way, wherever its counts are stored.
pub hits-in-stretch : (p : Probe) (t : Stretch) (ns : List Name) (places found : List Hit) (taken : ℕ) → answer_of (query_of p t ns places) ≡ hits found taken
    → every (λ h. within t h.window && shows p.state.windows.current h.window) found ≡ true
hits-in-stretch = hits-show

-- After every history they are so by the ledger, whichever partitions are passed over: its N in the stretch, its counts by name, and its closed windows of the stretch.
pub hits-by-ledger : (c r : ℕ) → card_length c ≡ true → register_length r ≡ true → (cs : List Call) (t : Stretch) (ns : List Name) (places found : List Hit) (taken : ℕ)
    → answer_of (query_of (probe_after c r cs) t ns places) ≡ hits found taken
    → Listing (existing_within t (books_after c r cs).ledger) (books_after c r cs).ledger.count (shown_within t (books_after c r cs).ledger) (length places) ns found
hits-by-ledger = listing-by-ledger

-- A stretch from 1 or below to 65,535 has every closed window, and its N is that of all.
pub whole-stretch : (c r : ℕ) → card_length c ≡ true → register_length r ≡ true → (cs : List Call) (t : Stretch) → t.first ≤ 1 → t.last ≡ 65535
    → (shown_within t (books_after c r cs).ledger ≡ ledger.shown (books_after c r cs).ledger) × (existing_within t (books_after c r cs).ledger ≡ existing (books_after c r cs).ledger)
whole-stretch = whole-left

-- A window starts to show by its close, and ceases to by its removal: no other call moves the hits of a query, be it an event, a flush or a merge step.
pub only-closing-shows : (c r : ℕ) → card_length c ≡ true → register_length r ≡ true → (cs : List Call) (q : Call) → showing q ≡ false
    → (t : Stretch) (ns : List Name) (places before after : List Hit) (m n : ℕ) → answer_of (query_of (probe_after c r cs) t ns places) ≡ hits before m
    → answer_of (query_of (probe_after c r (cs ++ (q ∷ []))) t ns places) ≡ hits after n → after ≡ before
only-closing-shows = hits-kept

-- No score is above 306,000, whatever the card says: each of at most five identifiers adds at most 240 × 255.
pub scores-most : (p : Probe) (t : Stretch) (ns : List Name) (places found : List Hit) (taken : ℕ) → answer_of (query_of p t ns places) ≡ hits found taken → every (λ h. leb h.score most_score) found ≡ true
scores-most = scores-few

-- A query reports as many postings as the buffer and the partitions that its stretch reaches hold of its identifiers, whatever their window; none of a partition passed over.
pub taken-exact : (p : Probe) (t : Stretch) (ns : List Name) (places found : List Hit) (taken : ℕ) → answer_of (query_of p t ns places) ≡ hits found taken
    → taken_up (words p.card) (read_by t p.state) (numbers p.register ns) ≡ taken
taken-exact p t ns places found taken e = (query-answered p t ns places found taken e).taken_is

-- After every history these are the account's, where a partition is passed over by the lowest and the highest window of its own postings.
pub taken-by-account : (c r : ℕ) → card_length c ≡ true → register_length r ≡ true → (cs : List Call) (t : Stretch) (ns : List Name) (places found : List Hit) (taken : ℕ)
    → answer_of (query_of (probe_after c r cs) t ns places) ≡ hits found taken
    → taken_from (numbers_of (books_after c r cs).ledger.identifiers ns) (account.read_by t (books_after c r cs).account) ≡ taken
taken-by-account c r card_fits register_fits cs t ns places found taken e = (by-books c r card_fits register_fits cs t ns places found taken e).taken_is

-- Places beyond the last hit keep their content.
pub places-kept : (p : Probe) (t : Stretch) (ns : List Name) (places found : List Hit) (taken : ℕ) → answer_of (query_of p t ns places) ≡ hits found taken
    → state_of places (query_of p t ns places) ≡ fill found places
places-kept p t ns places found taken e = (query-answered p t ns places found taken e).left_is

-- A mean loses nothing: quotient × F + remainder is the sum of the identifier's counts in the windows that show, the remainder is below F, and F is the number of those
-- windows in which its count is above 0.
pub mean-exact : (p : Probe) (n : Name) (quotient remainder divisor : ℕ) → answer_of (mean_of p n) ≡ mean quotient remainder divisor
    → Divided (frequency_in (words p.card) (read_by whole p.state) (numbers p.register (n ∷ []))) (total_in (words p.card) (read_by whole p.state) (numbers p.register (n ∷ []))) quotient remainder divisor
mean-exact = mean-answered

-- After every history it is told, or refused with 4 or 15, as F and the sum of the ledger's closed windows say.
pub means-answered : (c r : ℕ) → card_length c ≡ true → register_length r ≡ true → (cs : List Call) (n : Name)
    → answer_of (mean_of (probe_after c r cs) n)
    ≡ answer_of (averaging n (frequency (books_after c r cs).ledger.count (ledger.shown (books_after c r cs).ledger) n) (total (books_after c r cs).ledger.count (ledger.shown (books_after c r cs).ledger) n))
means-answered = mean-told

-- So quotient × F + remainder is then the ledger's sum.
pub mean-of-ledger : (c r : ℕ) → card_length c ≡ true → register_length r ≡ true → (cs : List Call) (n : Name) (quotient remainder divisor : ℕ)
    → answer_of (mean_of (probe_after c r cs) n) ≡ mean quotient remainder divisor
    → Divided (frequency (books_after c r cs).ledger.count (ledger.shown (books_after c r cs).ledger) n) (total (books_after c r cs).ledger.count (ledger.shown (books_after c r cs).ledger) n) quotient remainder divisor
mean-of-ledger = mean-by-ledger

-- After every history a list of windows to be removed is refused with 16 exactly where it is empty, has more than 32 or names one twice.
pub lists-refused : (c r : ℕ) → card_length c ≡ true → register_length r ≡ true → (cs : List Call) (ws : List ℕ)
    → (batch_rule ws ≡ false → answer_of (probe_call (probe_after c r cs) (RemoveAll ws)) ≡ refused 16) × (answer_of (probe_call (probe_after c r cs) (RemoveAll ws)) ≡ refused 16 → batch_rule ws ≡ false)
lists-refused = list-bad-after

-- Any other is removed all or none, as its single removals one after another say.
pub lists-together : (c r : ℕ) → card_length c ≡ true → register_length r ≡ true → (cs : List Call) (ws : List ℕ) → batch_rule ws ≡ true
    → Together (probe_after c r cs) ws (probe_call (probe_after c r cs) (RemoveAll ws))
lists-together = together-left

-- One that is done has removed every window named, and no other: in the ledger their counts are 0, and every other count is what it was.
pub all-removed : (c r : ℕ) → card_length c ≡ true → register_length r ≡ true → (cs : List Call) (ws : List ℕ) → answer_of (probe_call (probe_after c r cs) (RemoveAll ws)) ≡ done
    → (n : Name) (v : ℕ) → (books_after c r (cs ++ (RemoveAll ws ∷ []))).ledger.count n v ≡ cond (elem v ws) 0 ((books_after c r cs).ledger.count n v)
all-removed = count-removed

-- So none of them is live, and every other window is if it was.
pub none-live : (c r : ℕ) → card_length c ≡ true → register_length r ≡ true → (cs : List Call) (ws : List ℕ) → answer_of (probe_call (probe_after c r cs) (RemoveAll ws)) ≡ done
    → (v : ℕ) → ledger.live (books_after c r (cs ++ (RemoveAll ws ∷ []))).ledger v ≡ cond (elem v ws) false (ledger.live (books_after c r cs).ledger v)
none-live = live-removed

-- One that is refused has removed none: ledger and account are what they were.
pub refused-removes-none : (c r : ℕ) → card_length c ≡ true → register_length r ≡ true → (cs : List Call) (ws : List ℕ) (n : ℕ)
    → answer_of (probe_call (probe_after c r cs) (RemoveAll ws)) ≡ refused n → books_after c r (cs ++ (RemoveAll ws ∷ [])) ≡ books_after c r cs
refused-removes-none = none-removed

-- A forecast changes nothing, refused or not.
pub forecast-changes-nothing : (p : Probe) (plan counts : List ℕ) → state_of p (probe_call p (calls.Forecast plan counts)) ≡ p
forecast-changes-nothing = forecast-kept

-- After every history the forecast of a plan that keeps the rule of plans is what its calls come to, really made one after another: how many write a partition, the blocks and the register
-- entries that they leave used, and that none is refused, or which one is the first, with its number; what is told is then of the calls before it.
pub forecast-happens : (c r : ℕ) → card_length c ≡ true → register_length r ≡ true → (cs : List Call) (plan counts : List ℕ) → recording_rule plan counts ≡ true
    → Foreseen (probe_after c r cs) (plan_calls (recorded plan counts)) (answer_of (probe_call (probe_after c r cs) (calls.Forecast plan counts)))
forecast-happens = forecast-left

-- The forecast of a plan that breaks that rule is refused with 3 (with 1 or 2 where these come first): its entries are not whole, or not as many as the list adds up to, or one is not zero
-- after its identifier.
pub bad-plan : (p : Probe) (plan counts : List ℕ) → state_rule p.state ≡ true → has_length p.register p.state.lengths.register ≡ true
    → recording_rule plan counts ≡ false → answer_of (probe_call p (calls.Forecast plan counts)) ≡ refused 3
bad-plan = plan-bad

-- An entry whose length byte is 0 or above 64 tells an identifier that an event refuses with 4, so that a plan with one stops there, if not before.
pub plan-identifiers : (e : List ℕ) → length e ≡ 65 → bad_length (identifier_in e) ≡ (eqb (size e) 0 || ltb 64 (size e))
plan-identifiers = bad-size

-- Postings in order, written as a partition of any level to any blocks of the card, keep the layout, lists and windows told by the header included, and read back as they were.
pub written-reads-back : (W bs : List ℕ) (n level : ℕ) (ps : List Posting) → length W ≡ 1024 * n → on_card n bs ≡ true → different bs ≡ true → length bs ≡ blocks_for (length_of ps) → Writable ps
    → (partition_rule (store W bs (encode level ps)) n (written_as bs level ps) ≡ true) × (lists_rule (store W bs (encode level ps)) (written_as bs level ps) ≡ true)
    × (postings_of (store W bs (encode level ps)) (written_as bs level ps) ≡ ps)
written-reads-back W bs n level ps long on once fits w =
    (rule-written W bs n level ps long on once fits w, lists-written W bs n level ps long on once fits w, postings-written W bs n level ps long on once fits w)

-- After every history all finished partitions keep the layout, in different blocks, and decode to the account's: what was buffered, and what merges gave.
pub partitions-read-back : (c r : ℕ) → card_length c ≡ true → register_length r ≡ true → (cs : List Call)
    → (partitions_formed (words (probe_after c r cs).card) (blocks (probe_after c r cs).state) (finished (probe_after c r cs).state.partitions) ≡ true)
    × (map (portion_on (words (probe_after c r cs).card)) (finished (probe_after c r cs).state.partitions) ≡ (books_after c r cs).account.partitions)
partitions-read-back c r card_fits register_fits cs =
    let x = history-left c r card_fits register_fits cs in
    (x.stored.holds.formed, x.stored.holds.portions ∙ ap (λ (e : Lists). e.account.partitions) x.stands.same)

-- After every history each record, and with it its header, tells the lowest and the highest window among its partition's own postings.
pub records-tell-windows : (c r : ℕ) → card_length c ≡ true → register_length r ≡ true → (cs : List Call)
    → every (λ p. span_rule p (postings_of (words (probe_after c r cs).card) p)) (finished (probe_after c r cs).state.partitions) ≡ true
records-tell-windows = spans-left

-- After every history the signed counts stored under an identifier and a window add up to the ledger's count.
pub sums-are-counts : (c r : ℕ) → card_length c ≡ true → register_length r ≡ true → (cs : List Call) (i w : ℕ)
    → sum (stored (words (probe_after c r cs).card) (probe_after c r cs).state) i w ≡ pos (count_by_number (books_after c r cs).ledger i w)
sums-are-counts c r card_fits register_fits cs i w =
    left-sums (record { card = c; register = r }) (entries-most r register_fits) _ _ (history-left c r card_fits register_fits cs) i w

-- After every history a block is 255 all over exactly where no finished partition and no output in progress has it.
pub free-exactly : (c r : ℕ) → card_length c ≡ true → register_length r ≡ true → (cs : List Call) (b : ℕ) → b < c / 4096
    → is_free (words (probe_after c r cs).card) b ≡ unused (probe_after c r cs) b
free-exactly = free-left

-- So each byte of an unused block is 255.
pub free_bytes : (c r : ℕ) → card_length c ≡ true → register_length r ≡ true → (cs : List Call) (k : ℕ) → k < c
    → unused (probe_after c r cs) (k / 4096) ≡ true → get_or (probe_after c r cs).card k 0 ≡ 255
free_bytes = byte_left

-- After every history each finished partition's content is 255 past its total length.
pub clean-past-length : (c r : ℕ) → card_length c ≡ true → register_length r ≡ true → (cs : List Call)
    → every (clean_past (words (probe_after c r cs).card)) (finished (probe_after c r cs).state.partitions) ≡ true
clean-past-length = past-left

-- After step j of a merge in progress its output holds, after the space of header and entries, exactly the sums that are not 0 of the first 16 × j pairs
-- of its inputs, and 255 everywhere else (an empty result has no block).
pub output-so-far : (c r : ℕ) → card_length c ≡ true → register_length r ≡ true → (cs : List Call)
    → eqb (books_after c r cs).account.steps 0 ≡ false → empty (merged (books_after c r cs).account) ≡ false
    → content (words (probe_after c r cs).card) (output_of (words (probe_after c r cs).card) (probe_after c r cs).state)
    ≡ padded (1023 * blocks_of (merged (books_after c r cs).account)) all_ones (progress (pairs (inputs_of (books_after c r cs).account)) (books_after c r cs).account.steps)
output-so-far = output-left

-- A merge step, the last one too, moves no sum.
pub steps-keep-sums : (a : Account) (i w : ℕ) → sum (stored_in (stepped_account a)) i w ≡ sum (stored_in a) i w
steps-keep-sums = sum-stored-stepped

-- ==== 3. No history is answered otherwise than by ledger and account

-- For all buffers within the limits and all lists of calls, the engine's answers from a fresh card are those of ledger and account.
pub history-answered : (c r : ℕ) → card_length c ≡ true → register_length r ≡ true → (cs : List Call) → answers c r cs ≡ expected (c / 4096) (r / 65) cs
history-answered = unfold SameAnswers in same-answers

-- So are those of the public functions by their promises alone: a start on any bytes of lengths within the limits, and calls in a row, each given what
-- the one before left.
pub promises-answered : (card register : List ℕ) → card_length (length card) ≡ true → register_length (length register) ≡ true
    → (cs : List Call) (told : List Answer) → Begun card register cs told → told ≡ expected (length card / 4096) (length register / 65) cs
promises-answered card register card_fits register_fits cs told b =
    begun-run card register card_fits register_fits cs told b ∙ history-answered (length card) (length register) card_fits register_fits cs

-- No answer is refusal 1, 2 or 3, but 3 for a forecast of a plan that breaks the rule of plans.
pub never-malformed : (c r : ℕ) → card_length c ≡ true → register_length r ≡ true → (cs : List Call) → AllGranted cs (answers c r cs)
never-malformed = none-malformed
