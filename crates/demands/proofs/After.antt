-- After every history: what a query lists, a mean is and removals leave, by the ledger, what a forecast tells, and what the card's blocks hold.
use Rattle.lists.proofs.Prelude.{true, false, not, cond, List, [], ◌∷◌, ◌++◌, ◌≡◌, refl, sym, ap, ◌∙◌, subst, ℕ, suc, ◌-◌, ◌*◌, ◌/◌, ◌%◌, ◌≤◌, ◌<◌, arith, eqb, leb, le-leb, length, get_or, eqb-true, elem, every, empty, keep, down, by-test, and_left, and_both, every-down, keep_all}
use Rattle.words.specs.Words.{words, all_ones}
use Rattle.postings.specs.declared.Stretch.{Stretch}
use Rattle.postings.specs.Merge.{pairs}
use Rattle.answers.specs.Answers.{Answer, done, hits, mean, refused, Outcome, answer_of, state_of}
use Rattle.answers.specs.declared.Hit.{Hit}
use Rattle.state.specs.declared.Lengths.{Lengths}
use Rattle.state.specs.declared.State.{State}
use Rattle.state.specs.Views.{padded, blocks, finished}
use Rattle.state.specs.Shown.{within}
use Rattle.state.specs.Rules.{card_length, register_length}
use Rattle.state.specs.Probe.{Probe}
use Rattle.identifiers.specs.Names.{Name, numbers_of}
use Rattle.recordings.specs.Recording.{recording_rule, recorded}
use Rattle.card.specs.Blocks.{is_free}
use Rattle.card.specs.Chains.{content}
use Rattle.blocks.proofs.FreeBlocks.{free-word}
use Rattle.partitions.specs.Reading.{postings_of}
use Rattle.partitions.specs.Formed.{span_rule}
use Rattle.plans.specs.Merging.{taking, result, output_blocks, progress}
use Rattle.plans.specs.Step.{in_progress}
use Rattle.ranking.specs.Hits.{frequency}
use Rattle.averages.specs.Average.{total, averaging}
use Rattle.means.specs.Mean.{mean_of}
use Rattle.queries.specs.Query.{query_of}
use Rattle.forecasts.specs.Plan.{plan_calls}
use Rattle.batches.specs.Batch.{batch_rule}
use Rattle.engine.specs.Calls.{Call, RemoveAll, Query, Mean, Forecast, probe_call, run, afterwards}
use Rattle.accounts.specs.Account.{Account, taken_from, read_by, inputs_of, merged, blocks_of}
use Rattle.accounts.specs.Ledger.{Ledger, live, shown, existing, shown_within, existing_within}
use Rattle.accounts.specs.Books.{Books, showing, books, books_call}
use Rattle.accounts.specs.Lists.{Lists}
use Rattle.accounts.proofs.Queries.{within-different}
use Rattle.accounts.proofs.Showing.{hits_within, hits-within-stay}
use Rattle.decoded.specs.Portions.{output_of, clean_past}
use Rattle.decoded.proofs.Holds.{Holds, taking-is}
use Rattle.decoded.proofs.Reached.{spans-told}
use Rattle.decoded.proofs.Unused.{going, output-going}
use Rattle.decoded.proofs.Simulated.{removals-formed, runs-simulated, Left}
use Rattle.decoded.proofs.Foretold.{really}
use Rattle.histories.proofs.Theorem.{entries-most, history-left}
use Rattle.demands.specs.Words.{Listing, Divided, Together, Foreseen, probe_after, books_after, unused}
use Rattle.demands.proofs.Granted.{Where, where-if, hits-granted, list_of, taken_of, ranked-listing, mean-granted, mean-last}
use Rattle.demands.proofs.Rows.{same_if, query-called, mean-called}
use Rattle.demands.proofs.Removals.{removals-together, without, count-without, live-without, list-bad-books, bad-books-list, books-removed, books-unchanged}
use Rattle.demands.proofs.Foreseen.{follow-foreseen}
use Rattle.demands.proofs.Cards.{whole-after, ones-bytes}

-- ---- what ledger and account answer to a query

-- the hits are the ledger's, and the postings taken the account's
pub record ByBooks (b : Books) (t : Stretch) (k : ℕ) (ns : List Name) (found : List Hit) (taken : ℕ) : Type 0 where
  pub hits_are : hits_within t k ns b.ledger ≡ found
  pub taken_is : taken_from (numbers_of b.ledger.identifiers ns) (read_by t b.account) ≡ taken

books-where : (n m : ℕ) (b : Books) (t : Stretch) (k : ℕ) (ns : List Name) (found : List Hit) (taken : ℕ)
    → Where b (hits found taken) (λ (c : Books). ByBooks b t k ns found taken) (books_call n m b (Query k t ns))
unfolding books
books-where n m b t k ns found taken =
    where-if (hits-granted found taken) _ 4 _ λ _. where-if (hits-granted found taken) _ 14 _ λ _. where-if (hits-granted found taken) _ 17 _ λ _.
    record { holds = λ e. record { hits_are = ap list_of e; taken_is = ap taken_of e } }

-- ---- and to a mean

average-where : (n m : ℕ) (b : Books) (x : Name) (q r d : ℕ)
    → Where b (mean q r d) (λ (c : Books). Divided (frequency b.ledger.count (shown b.ledger) x) (total b.ledger.count (shown b.ledger) x) q r d) (books_call n m b (Mean x))
unfolding books
average-where n m b x q r d =
    where-if (mean-granted q r d) _ 4 _ λ _. where-if (mean-granted q r d) _ 15 _ λ some. record { holds = λ e. mean-last _ _ q r d some e }

-- ---- after a history

-- one call more
afterwards-more : {S : Type 0} (f : S → Call → Outcome S) (s : S) (cs : List Call) (q : Call) → afterwards f s (cs ++ (q ∷ [])) ≡ state_of (afterwards f s cs) (f (afterwards f s cs) q)
unfolding afterwards
afterwards-more f s [] q = refl
afterwards-more f s (d ∷ cs) q = afterwards-more f (state_of s (f s d)) cs q

module _ (c r : ℕ) (card_fits : card_length c ≡ true) (register_fits : register_length r ≡ true) (cs : List Call) where
  abbrev ls : Lengths
  ls = record { card = c; register = r }

  abbrev p : Probe
  p = probe_after c r cs

  abbrev b : Books
  b = books_after c r cs

  abbrev s : State
  s = p.state

  abbrev W : List ℕ
  W = words p.card

  left : Left ls (entries-most r register_fits) p b
  left = history-left c r card_fits register_fits cs

  abbrev first_of : List Answer → Answer
  first_of [] = done
  first_of (a ∷ told) = a

  -- one call more
  answered : (q : Call) → answer_of (probe_call p q) ≡ answer_of (books_call (c / 4096) (r / 65) b q)
  answered q = ap first_of both
    where
      both : answer_of (probe_call p q) ∷ [] ≡ answer_of (books_call (c / 4096) (r / 65) b q) ∷ []
      both = unfold run in runs-simulated ls (entries-most r register_fits) (q ∷ []) p left.lists b left.stored left.stands

  pub by-books : (t : Stretch) (ns : List Name) (places found : List Hit) (taken : ℕ) → answer_of (query_of p t ns places) ≡ hits found taken → ByBooks b t (length places) ns found taken
  by-books t ns places found taken e =
      (books-where (c / 4096) (r / 65) b t (length places) ns found taken).holds (sym (answered (Query (length places) t ns)) ∙ sym (query-called p t ns places) ∙ e)

  -- a query's hits are the listing of the ledger
  pub listing-by-ledger : (t : Stretch) (ns : List Name) (places found : List Hit) (taken : ℕ) → answer_of (query_of p t ns places) ≡ hits found taken
      → Listing (existing_within t b.ledger) b.ledger.count (shown_within t b.ledger) (length places) ns found
  listing-by-ledger t ns places found taken e =
      subst (Listing (existing_within t b.ledger) b.ledger.count (shown_within t b.ledger) (length places) ns) (by-books t ns places found taken e).hits_are
      (ranked-listing (existing_within t b.ledger) b.ledger.count (shown_within t b.ledger) (length places) ns (within-different t b.ledger))

  -- a stretch from 1 or below to 65,535
  pub whole-left : (t : Stretch) → t.first ≤ 1 → t.last ≡ 65535
      → (shown_within t b.ledger ≡ shown b.ledger) × (existing_within t b.ledger ≡ existing b.ledger)
  unfolding existing_within existing
  whole-left t low high = (all, ap (λ l. length (keep (live b.ledger) l)) all)
    where
      fits : (w : ℕ) → w < cond b.ledger.is_open (b.ledger.last - 1) b.ledger.last → within t (suc w) ≡ true
      fits w h =
          let last : w < 65535 = by-test b.ledger.is_open
          (λ y. let m : w < b.ledger.last - 1 = subst (λ o. w < cond o (b.ledger.last - 1) b.ledger.last) y h in omega (arith, left.stands.kept.lawful.last_fits))
          (λ n. let m : w < b.ledger.last = subst (λ o. w < cond o (b.ledger.last - 1) b.ledger.last) n h in omega (arith, left.stands.kept.lawful.last_fits)) in
          and_both (leb t.first (suc w)) _ (le-leb t.first (suc w) (omega arith)) (le-leb (suc w) t.last (omega arith))

      all : shown_within t b.ledger ≡ shown b.ledger
      all = unfold shown_within shown in keep_all (within t) (down _) (every-down (within t) _ fits)

  -- a mean is told or refused as the ledger says
  pub mean-told : (n : Name) → answer_of (mean_of p n) ≡ answer_of (averaging n (frequency b.ledger.count (shown b.ledger) n) (total b.ledger.count (shown b.ledger) n))
  unfolding averaging books
  mean-told n = mean-called p n ∙ answered (Mean n) ∙ same_if _ _ 4 _ _ refl (same_if _ _ 15 _ _ refl refl)

  -- and loses nothing of its sum
  pub mean-by-ledger : (n : Name) (q rest d : ℕ) → answer_of (mean_of p n) ≡ mean q rest d
      → Divided (frequency b.ledger.count (shown b.ledger) n) (total b.ledger.count (shown b.ledger) n) q rest d
  mean-by-ledger n q rest d e = (average-where (c / 4096) (r / 65) b n q rest d).holds (sym (answered (Mean n)) ∙ sym (mean-called p n) ∙ e)

  -- one call more leaves the hits, unless it may make a window show or cease to
  books-more : (q : Call) → books_after c r (cs ++ (q ∷ [])) ≡ state_of b (books_call (c / 4096) (r / 65) b q)
  books-more q = afterwards-more (books_call (c / 4096) (r / 65)) _ cs q

  pub stay-after : (q : Call) → showing q ≡ false → (t : Stretch) (k : ℕ) (ns : List Name) → hits_within t k ns (books_after c r (cs ++ (q ∷ []))).ledger ≡ hits_within t k ns b.ledger
  stay-after q e t k ns =
      ap (λ (x : Books). hits_within t k ns x.ledger) (books-more q)
      ∙ hits-within-stay (c / 4096) (r / 65) b left.stands.kept.lawful k ns t q e

  -- ---- removals of several windows

  -- refused with 16 exactly where the list is bad
  pub list-bad-after : (ws : List ℕ) → (batch_rule ws ≡ false → answer_of (probe_call p (RemoveAll ws)) ≡ refused 16) × (answer_of (probe_call p (RemoveAll ws)) ≡ refused 16 → batch_rule ws ≡ false)
  list-bad-after ws =
      (λ e. answered (RemoveAll ws) ∙ list-bad-books (c / 4096) (r / 65) b ws e, λ e. bad-books-list (c / 4096) (r / 65) b ws (sym (answered (RemoveAll ws)) ∙ e))

  module _ (ws : List ℕ) where
    -- all or none of any other, by single removals
    pub together-left : batch_rule ws ≡ true → Together p ws (probe_call p (RemoveAll ws))
    together-left = let f = removals-formed ls (entries-most r register_fits) p left.lists b left.stored left.stands ws in removals-together p ws f.0 f.1 f.2

    -- the ledger afterwards
    removed-ledger : answer_of (probe_call p (RemoveAll ws)) ≡ done → (books_after c r (cs ++ (RemoveAll ws ∷ []))).ledger ≡ without b.ledger ws
    removed-ledger e = ap (λ (x : Books). x.ledger) (books-more (RemoveAll ws)) ∙ books-removed (c / 4096) (r / 65) b ws (sym (answered (RemoveAll ws)) ∙ e)

    pub count-removed : answer_of (probe_call p (RemoveAll ws)) ≡ done → (n : Name) (v : ℕ)
        → (books_after c r (cs ++ (RemoveAll ws ∷ []))).ledger.count n v ≡ cond (elem v ws) 0 (b.ledger.count n v)
    count-removed e n v = ap (λ (l : Ledger). l.count n v) (removed-ledger e) ∙ count-without ws b.ledger n v

    pub live-removed : answer_of (probe_call p (RemoveAll ws)) ≡ done → (v : ℕ) → live (books_after c r (cs ++ (RemoveAll ws ∷ []))).ledger v ≡ cond (elem v ws) false (live b.ledger v)
    live-removed e v = ap (λ (l : Ledger). live l v) (removed-ledger e) ∙ live-without ws b.ledger v

    pub none-removed : (n : ℕ) → answer_of (probe_call p (RemoveAll ws)) ≡ refused n → books_after c r (cs ++ (RemoveAll ws ∷ [])) ≡ b
    none-removed n e = books-more (RemoveAll ws) ∙ (books-unchanged (c / 4096) (r / 65) b ws).same n (sym (answered (RemoveAll ws)) ∙ e)

  -- ---- forecasts

  pub forecast-left : (plan counts : List ℕ) → recording_rule plan counts ≡ true → Foreseen p (plan_calls (recorded plan counts)) (answer_of (probe_call p (Forecast plan counts)))
  forecast-left plan counts rule =
      subst (Foreseen p (plan_calls (recorded plan counts))) (sym (ap answer_of (really ls (entries-most r register_fits) p b left plan counts rule)))
      (follow-foreseen (plan_calls (recorded plan counts)) p)

  -- ---- blocks

  holds : Holds s W left.lists
  holds = left.stored.holds

  blocks-are : blocks s ≡ c / 4096
  blocks-are = ap (λ (l : Lengths). l.card / 4096) left.stored.sized

  pub free-left : (k : ℕ) → k < c / 4096 → is_free W k ≡ unused p k
  free-left k low = holds.free k (subst (λ n. k < n) (sym blocks-are) low)

  pub byte_left : (k : ℕ) → k < c → unused p (k / 4096) ≡ true → get_or p.card k 0 ≡ 255
  byte_left k low out =
      ap (λ (l : List ℕ). get_or l k 0) (sym (whole-after c r (omega (arith, even)) cs))
      ∙ ones-bytes W k (free-word W (k / 4) there (ap (is_free W) same_block ∙ free-left (k / 4096) within ∙ out))
    where
      even : c % 4096 ≡ 0
      even = eqb-true (c % 4096) 0 (and_left (eqb (c % 4096) 0) _ card_fits)

      within : k / 4096 < c / 4096
      within = omega (arith, even)

      there : k / 4 < length (words p.card)
      there = omega (arith, within, holds.long ∙ ap (λ n. 1024 * n) blocks-are)

      same_block : k / 4 / 1024 ≡ k / 4096
      same_block = omega arith

  pub past-left : every (clean_past W) (finished s.partitions) ≡ true
  past-left = holds.past

  pub spans-left : every (λ p. span_rule p (postings_of W p)) (finished s.partitions) ≡ true
  spans-left = spans-told W (finished s.partitions) holds.sizes

  -- ---- the output in progress

  abbrev a : Account
  a = b.account

  account-is : left.lists.account ≡ a
  account-is = ap (λ (e : Lists). e.account) left.stands.same

  taking-left : taking W s ≡ pairs (inputs_of a)
  taking-left = taking-is s W left.lists.account holds.portions ∙ ap (λ (x : Account). pairs (inputs_of x)) account-is

  steps-left : s.merge.steps ≡ a.steps
  steps-left = holds.steps ∙ ap (λ (x : Account). x.steps) account-is

  pub output-left : eqb a.steps 0 ≡ false → empty (merged a) ≡ false
      → content W (output_of W s) ≡ padded (1023 * blocks_of (merged a)) all_ones (progress (pairs (inputs_of a)) a.steps)
  unfolding merged blocks_of
  output-left y z =
      ap (content W) (output-going s W left.lists holds busy)
      ∙ (going s W left.lists holds busy).filled (ap (λ l. empty (result l)) taking-left ∙ z)
      ∙ ap (λ l. padded (1023 * output_blocks (result l)) all_ones (progress l s.merge.steps)) taking-left
      ∙ ap (λ j. padded (1023 * output_blocks (result (pairs (inputs_of a)))) all_ones (progress (pairs (inputs_of a)) j)) steps-left
    where
      busy : in_progress s ≡ true
      busy = ap (λ n. not (eqb n 0)) steps-left ∙ ap not y

-- the hits of a query before and after a call
pub hits-kept : (c r : ℕ) (card_fits : card_length c ≡ true) (register_fits : register_length r ≡ true) (cs : List Call) (q : Call) → showing q ≡ false
    → (t : Stretch) (ns : List Name) (places before after : List Hit) (m n : ℕ) → answer_of (query_of (probe_after c r cs) t ns places) ≡ hits before m
    → answer_of (query_of (probe_after c r (cs ++ (q ∷ []))) t ns places) ≡ hits after n → after ≡ before
hits-kept c r card_fits register_fits cs q e t ns places before after m n x y =
    sym then.hits_are ∙ stay ∙ first.hits_are
  where
    first : ByBooks (books_after c r cs) t (length places) ns before m
    first = by-books c r card_fits register_fits cs t ns places before m x

    then : ByBooks (books_after c r (cs ++ (q ∷ []))) t (length places) ns after n
    then = by-books c r card_fits register_fits (cs ++ (q ∷ [])) t ns places after n y

    stay : hits_within t (length places) ns (books_after c r (cs ++ (q ∷ []))).ledger ≡ hits_within t (length places) ns (books_after c r cs).ledger
    stay = stay-after c r card_fits register_fits cs q e t (length places) ns
