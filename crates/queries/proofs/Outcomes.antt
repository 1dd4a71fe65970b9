-- What a query comes to, test by test, and that what the search promises is what the query is.
use Rattle.std.specs.Prelude.{Result, Ok, Err}
use Rattle.lists.proofs.Prelude.{Bool, true, false, ◌&&◌, not, List, [], ◌∷◌, foldr, map, ◌≡◌, refl, sym, ap, ap₂, ◌∙◌, subst, ℕ, ◌+◌, ◌*◌, ◌≤◌, mul-le-mul_left, arith, eqb, ltb, length, take, replicate, length-take, length-replicate, take_all, ltb-false, eqb-false, eq-eqb, not-false, any, every, empty, or-none, and_both}
use Rattle.words.specs.Words.{words}
use Rattle.postings.specs.declared.Stretch.{Stretch}
use Rattle.answers.specs.Answers.{Answer, Outcome, refuse, leave, refuse_if, hits, answer_of, state_of}
use Rattle.answers.specs.Numbers.{refusal_number, found_as}
use Rattle.answers.specs.declared.Refusal.{Refusal}
use Rattle.answers.specs.declared.Refusal.TheVariants.{Malformed, BadIdentifier, BadQuery, BadStretch}
use Rattle.answers.specs.declared.Found.{Found}
use Rattle.answers.specs.declared.Hit.{Hit}
use Rattle.state.specs.declared.State.{State}
use Rattle.state.specs.Views.{blocks, finished}
use Rattle.state.specs.Rules.{state_rule}
use Rattle.state.specs.Probe.{Probe, has_length}
use Rattle.state.specs.Shown.{shows_in, shown_in}
use Rattle.state.proofs.Kept.{state-kept}
use Rattle.identifiers.specs.Names.{Name, bad_length, distinct}
use Rattle.identifiers.specs.Register.{names, register_rule}
use Rattle.partitions.specs.Reading.{stored}
use Rattle.partitions.specs.Formed.{partitions_formed, identifier_formed}
use Rattle.stretches.specs.Reached.{read_by}
use Rattle.sums.specs.Tally.{lists_ruled}
use Rattle.census.specs.Existing.{CountedWell}
use Rattle.scores.specs.Terms.{Term, terms_of}
use Rattle.admission.specs.Admission.{first_of, same_lengths, probe_tests}
use Rattle.admission.proofs.Laws.{refused-apart, barred}
use Rattle.ranking.specs.declared.Top.{Top}
use Rattle.queries.specs.declared.Answered.{Answered}
use Rattle.queries.specs.declared.judging.Known.{Known}
use Rattle.ranking.specs.Hits.{place, score, matching, ranked}
use Rattle.queries.specs.Query.{count_in, taken_up, numbers, query_formed, existing_in, existing_on, hits_of, fill, querying, query_of}
use Rattle.ranking.specs.Asked.{bad_query, bad_stretch}
use Rattle.ranking.specs.Top.{no_hit, listed_hits, top_of}
use Rattle.queries.specs.Walks.{found_in, Walkable}
use Rattle.queries.specs.Gathered.{Sound, Readied, stored_under, Serving, GatheredWell}
use Rattle.queries.specs.Finds.{probe_of, hits_in, answered, rest_of, Finds}
use Rattle.ranking.proofs.Tops.{listed-of}
use Rattle.queries.proofs.Matching.{served-falls, served-ranges, found-hits}
use Rattle.queries.proofs.Numbers.{numbers-few, numbers-different, taken-each}

-- ---- the refusals in order

-- a test that does not hold
unrefused : (n : ℕ) (o : Outcome (List Hit)) → refuse_if false n o ≡ o
unfolding refuse_if
unrefused n o = refl

module _ (p : Probe) (t : Stretch) (ns : List Name) (places : List Hit) where
  abbrev W : List ℕ
  W = words p.card

  -- the state as it is read
  abbrev read : State
  read = read_by t p.state

  -- what refusal 3 asks beyond the register's rule, and what follows it
  abbrev rest : Bool
  rest =
      partitions_formed W (blocks p.state) (finished p.state.partitions)
      && (lists_ruled W read && every (identifier_formed W read) (numbers p.register ns))

  abbrev following : Outcome (List Hit)
  following =
      leave (hits (hits_of W read t (existing_on p t) (length places) (numbers p.register ns)) (taken_up W read (numbers p.register ns)))
      (fill (hits_of W read t (existing_on p t) (length places) (numbers p.register ns)) places)

  -- refused by what is judged first
  query-barred : (why : Refusal) → refusal_number why ≡ first_of (1 ∷ 2 ∷ 3 ∷ []) (probe_tests (state_rule p.state) p.state.lengths p.card p.register)
      → query_of p t ns places ≡ refuse (refusal_number why)
  unfolding query_of querying query_formed
  query-barred why e =
      rw (refused-apart (register_rule p.register) rest)
      (barred (3 ∷ 4 ∷ 14 ∷ 17 ∷ []) (not rest ∷ any bad_length ns ∷ bad_query (length places) ns ∷ bad_stretch t ∷ []) following (1 ∷ 2 ∷ 3 ∷ [])
      (probe_tests (state_rule p.state) p.state.lengths p.card p.register) why e)

  module _ (a : state_rule p.state ≡ true) (b : same_lengths p.state.lengths p.card p.register ≡ true) (c : register_rule p.register ≡ true) where
    query-partitions : partitions_formed W (blocks p.state) (finished p.state.partitions) ≡ false → query_of p t ns places ≡ refuse 3
    unfolding query_of querying query_formed refuse_if
    query-partitions d = rw (a, b, c, d)

    -- past the partitions the lists come, and then the rest
    query-read : partitions_formed W (blocks p.state) (finished p.state.partitions) ≡ true
        → query_of p t ns places ≡ refuse_if (not (lists_ruled W read)) 3 (rest_of W read t (existing_on p t) p.register ns places)
    unfolding query_of querying query_formed rest_of
    query-read d =
        rw (a, b, c, d) (unrefused 1 _ ∙ unrefused 2 _ ∙ refused-apart (lists_ruled W read) (every (identifier_formed W read) (numbers p.register ns)) 3 _)

module _ (W : List ℕ) (s : State) (t : Stretch) (n : ℕ) (register : List ℕ) (ns : List Name) (places : List Hit) where
  abbrev said : Outcome (List Hit)
  said =
      leave (hits (hits_of W s t n (length places) (numbers register ns)) (taken_up W s (numbers register ns)))
      (fill (hits_of W s t n (length places) (numbers register ns)) places)

  rest-malformed : every (identifier_formed W s) (numbers register ns) ≡ false → rest_of W s t n register ns places ≡ refuse 3
  unfolding rest_of refuse_if
  rest-malformed c = rw c

  module _ (c : every (identifier_formed W s) (numbers register ns) ≡ true) where
    rest-identifier : any bad_length ns ≡ true → rest_of W s t n register ns places ≡ refuse 4
    unfolding rest_of refuse_if
    rest-identifier d = rw (c, d)

    module _ (d : any bad_length ns ≡ false) where
      rest-bad : bad_query (length places) ns ≡ true → rest_of W s t n register ns places ≡ refuse 14
      unfolding rest_of refuse_if
      rest-bad e = rw (c, d, e)

      module _ (e : bad_query (length places) ns ≡ false) where
        rest-stretch : bad_stretch t ≡ true → rest_of W s t n register ns places ≡ refuse 17
        unfolding rest_of refuse_if
        rest-stretch f = rw (c, d, e, f)

        rest-hits : bad_stretch t ≡ false → rest_of W s t n register ns places ≡ said
        unfolding rest_of refuse_if
        rest-hits f = rw (c, d, e, f)

-- ---- what is promised

-- a refusal
pub finds-refused : (o : Outcome (List Hit)) (k : ℕ) (why : Refusal) → o ≡ refuse (refusal_number why) → Finds (answer_of o) k (Err why) (top_of [])
finds-refused o k why e = record {
  answer = sym (ap answer_of e);
  kept = rw e;
  used = λ n q. let z : ◌≡◌ {A = ℕ} 0 1 = cc in absurd (omega arith);
  fits = omega arith;
  most = omega arith;
}

-- as the code gives it
pub refused_as : (x : Answer) (k : ℕ) (why : Refusal) (r : Answered) → r ≡ record { answer = Err why; top = top_of [] } → Finds x k (Err why) (top_of []) → Finds x k r.answer r.top
refused_as x k why r e v = subst (λ (y : Answered). Finds x k y.answer y.top) (sym e) v

-- hits
pub finds-hits : (o : Outcome (List Hit)) (k : ℕ) (l : List Hit) (m : ℕ) (left : List Hit) (t : Top) → o ≡ leave (hits l m) left → t ≡ top_of l → length l ≤ k → length l ≤ 32
    → (taken : ℕ) → taken ≡ m → Finds (answer_of o) k (Ok (record { hits = t.used; taken = taken })) t
finds-hits o k l m left t e q f g taken w = record {
  answer = ap₂ hits (ap listed_hits q ∙ listed-of l) w ∙ sym (ap answer_of e);
  kept = q ∙ rw e;
  used = λ a h. cc;
  fits = rw q f;
  most = rw q g;
}

-- ---- what 14 leaves

-- a query that is not refused with 14
pub record Proper (k : ℕ) (ns : List Name) : Type 0 where
  pub few : length ns ≤ 5
  pub once : distinct ns ≡ true
  pub some : 1 ≤ k
  pub most : k ≤ 32

pub proper : (k : ℕ) (ns : List Name) → bad_query k ns ≡ false → Proper k ns
unfolding bad_query
proper k ns e =
    let a = or-none (empty ns) _ e in
    let b = or-none (ltb 5 (length ns)) _ a.1 in
    let c = or-none (not (distinct ns)) _ b.1 in
    let d = or-none (eqb k 0) _ c.1 in
    let n = eqb-false k 0 d.0 in
    record { few = ltb-false 5 (length ns) b.0; once = not-false _ c.0; some = omega arith; most = ltb-false 32 k d.1 }

-- ---- the rest of a query on sound buffers

module _ (s : State) (card register : List ℕ) (sound : Sound s card register) (st : Stretch) (live : ℕ) (ns : List Name) (k : ℕ) where
  abbrev outcome : Outcome (List Hit)
  outcome = rest_of (words card) s st live register ns (replicate k no_hit)

  -- 3: what is read of an identifier is malformed
  pub finds-malformed : every (identifier_formed (words card) s) (numbers register ns) ≡ false → Finds (answer_of outcome) k (Err Malformed) (top_of [])
  finds-malformed f = finds-refused outcome k Malformed (rest-malformed (words card) s st live register ns (replicate k no_hit) f)

  module _ (R H : List ℕ) (known : Known) (gathered : GatheredWell (words card) R s st live (numbers register ns) H known) where
    well : every (identifier_formed (words card) s) (numbers register ns) ≡ true
    well = gathered.fine

    -- 4
    pub finds-identifier : any bad_length ns ≡ true → Finds (answer_of outcome) k (Err BadIdentifier) (top_of [])
    finds-identifier d = finds-refused outcome k BadIdentifier (rest-identifier (words card) s st live register ns (replicate k no_hit) well d)

    module _ (d : any bad_length ns ≡ false) where
      asked : (b : Bool) → bad_query k ns ≡ b → bad_query (length (replicate k no_hit)) ns ≡ b
      asked b e = ap (λ (n : ℕ). bad_query n ns) (length-replicate k no_hit) ∙ e

      -- 14
      pub finds-bad : bad_query k ns ≡ true → Finds (answer_of outcome) k (Err BadQuery) (top_of [])
      finds-bad e = finds-refused outcome k BadQuery (rest-bad (words card) s st live register ns (replicate k no_hit) well d (asked true e))

      module _ (e : bad_query k ns ≡ false) where
        -- 17
        pub finds-stretch : bad_stretch st ≡ true → Finds (answer_of outcome) k (Err BadStretch) (top_of [])
        finds-stretch g = finds-refused outcome k BadStretch (rest-stretch (words card) s st live register ns (replicate k no_hit) well d (asked false e) g)

        few-numbers : length (numbers register ns) ≤ 5
        few-numbers = omega (arith, numbers-few (names register) ns, (proper k ns e).few)

        all-five : take 5 (numbers register ns) ≡ numbers register ns
        all-five = take_all 5 (numbers register ns) few-numbers

        -- the lists of a term, and the terms
        abbrev lists : ℕ
        lists = s.partitions.used + 1

        abbrev terms : List Term
        terms = terms_of (words card) R lists known.used H

        all-served : Serving (words card) s st live (numbers register ns) terms
        all-served = subst (λ (l : List ℕ). Serving (words card) s st live l terms) all-five gathered.keeps.served

        -- the terms can be merged
        pub terms-walkable : (spare : ℕ) → Readied s card R (length H) spare → Walkable (words card) R lists known.used H
        terms-walkable spare ready =
            let five : known.used ≤ 5 = omega (arith, gathered.keeps.used, ap length all-five, few-numbers) in
            let kept = (state-kept s sound.rule).partitions.used in
            let less = mul-le-mul_left {m = known.used} {n = 5} (4 * lists + 4) five in
            record {
              fits = omega (arith, ready.room);
              short = ready.most;
              lists = omega arith;
              terms = five;
              kept = gathered.keeps.kept;
              falls = served-falls (words card) s st live (numbers register ns) terms all-served;
              ranges = λ w. served-ranges (words card) s st live w (numbers register ns) terms all-served;
            }

        all-taken : known.taken ≡ taken_up (words card) s (numbers register ns)
        all-taken =
            gathered.keeps.taken ∙ ap (stored_under (words card) s) all-five
            ∙ sym (taken-each (words card) s (numbers register ns) (numbers-different (names register) ns (proper k ns e).once))

        hits_few : (n : ℕ) → n ≡ k → length (hits_of (words card) s st live n (numbers register ns)) ≤ k
        unfolding hits_of ranked
        hits_few n q = rw q (omega (arith, length-take k (foldr place [] (map (λ w. record { window = w; score = score live (count_in (words card) s) (shown_in st s.windows) (numbers register ns) w }) (matching live (count_in (words card) s) (shown_in st s.windows) (numbers register ns))))))

        -- the best hits of the walk are the answer's
        pub finds-walked : bad_stretch st ≡ false → (t : Top) → t ≡ top_of (take k (foldr place [] (found_in (shows_in st s.windows.current) terms)))
            → Finds (answer_of outcome) k (Ok (record { hits = t.used; taken = known.taken })) t
        finds-walked g t q =
            let n : length (replicate k no_hit) ≡ k = length-replicate k no_hit in
            let h = found-hits (words card) s st live k (numbers register ns) terms all-served in
            let o = rest-hits (words card) s st live register ns (replicate k no_hit) well d (asked false e) g in
            let l = hits_few (length (replicate k no_hit)) n in
            finds-hits outcome k (hits_of (words card) s st live (length (replicate k no_hit)) (numbers register ns)) (taken_up (words card) s (numbers register ns)) _ t o
            (q ∙ ap top_of (h ∙ ap (λ (j : ℕ). hits_of (words card) s st live j (numbers register ns)) (sym n))) l (omega (arith, (proper k ns e).most)) known.taken all-taken

-- ---- all lists, and N

module _ (s : State) (card register : List ℕ) (t : Stretch) (ns : List Name) (k : ℕ) where
  abbrev pub reading : Outcome (List Hit)
  reading =
      refuse_if (not (lists_ruled (words card) s)) 3 (rest_of (words card) s t (existing_in (words card) s t) register ns (replicate k no_hit))

  -- 3: a list of what is read
  pub finds-lists : lists_ruled (words card) s ≡ false → Finds (answer_of reading) k (Err Malformed) (top_of [])
  unfolding refuse_if
  finds-lists e = finds-refused reading k Malformed (rw e)

  -- past them the rest decides, with N as it is counted
  pub finds-rest : (n : ℕ) → CountedWell (lists_ruled (words card) s) (stored (words card) s) (shown_in t s.windows) n
      → (r : Answered) → Finds (answer_of (rest_of (words card) s t n register ns (replicate k no_hit))) k r.answer r.top → Finds (answer_of reading) k r.answer r.top
  unfolding refuse_if existing_in
  finds-rest n v r g = rw (v.fine, ← v.windows) g

-- ---- what comes before the rest

module _ (s : State) (card register : List ℕ) (t : Stretch) (ns : List Name) (k : ℕ) where
  abbrev p : Probe
  p = probe_of s card register

  -- 1 to 3, by what is judged first
  pub finds-barred : (why : Refusal) → refusal_number why ≡ first_of (1 ∷ 2 ∷ 3 ∷ []) (probe_tests (state_rule s) s.lengths card register)
      → Finds (answered p t ns k) k (Err why) (top_of [])
  finds-barred why e = finds-refused (query_of p t ns (replicate k no_hit)) k why (query-barred p t ns (replicate k no_hit) why e)

  module _ (a : state_rule s ≡ true) (b : length card ≡ s.lengths.card) (c : length register ≡ s.lengths.register) (d : register_rule register ≡ true) where
    lengths-same : same_lengths s.lengths card register ≡ true
    lengths-same = and_both (has_length card s.lengths.card) _ (eq-eqb _ _ b) (eq-eqb _ _ c)

    -- 3: the finished partitions
    pub finds-partitions : partitions_formed (words card) (blocks s) (finished s.partitions) ≡ false → Finds (answered p t ns k) k (Err Malformed) (top_of [])
    finds-partitions e = finds-refused (query_of p t ns (replicate k no_hit)) k Malformed (query-partitions p t ns (replicate k no_hit) a lengths-same d e)

    -- past them what is read decides
    pub answered-read : partitions_formed (words card) (blocks s) (finished s.partitions) ≡ true
        → answered p t ns k ≡ answer_of (refuse_if (not (lists_ruled (words card) (read_by t s))) 3 (rest_of (words card) (read_by t s) t (existing_in (words card) (read_by t s) t) register ns (replicate k no_hit)))
    answered-read e = ap answer_of (query-read p t ns (replicate k no_hit) a lengths-same d e)

-- ---- a lent list

-- every refusal leaves the list, and hits fill it
fills-if : (places : List Hit) (t : Bool) (n : ℕ) (o : Outcome (List Hit)) → fill (hits_in (answer_of o)) places ≡ state_of places o
    → fill (hits_in (answer_of (refuse_if t n o))) places ≡ state_of places (refuse_if t n o)
unfolding refuse_if
fills-if places true n o e = refl
fills-if places false n o e = e

pub fills : (p : Probe) (t : Stretch) (ns : List Name) (places : List Hit) → fill (hits_in (answer_of (query_of p t ns places))) places ≡ state_of places (query_of p t ns places)
unfolding query_of querying
fills p t ns places =
    fills-if places _ 1 _ (fills-if places _ 2 _ (fills-if places _ 3 _ (fills-if places _ 4 _ (fills-if places _ 14 _ (fills-if places _ 17 _ refl)))))

-- the answer looks at the list's length alone
same_if : (t : Bool) (n : ℕ) (o q : Outcome (List Hit)) → answer_of o ≡ answer_of q → answer_of (refuse_if t n o) ≡ answer_of (refuse_if t n q)
unfolding refuse_if
same_if true n o q e = refl
same_if false n o q e = e

same_answer : (p : Probe) (t : Stretch) (ns : List Name) (places others found : List Hit) → length places ≡ length others → answer_of (querying p t ns places found) ≡ answer_of (querying p t ns others found)
unfolding querying
same_answer p t ns places others l e =
    same_if _ 1 _ _ (same_if _ 2 _ _ (same_if _ 3 _ _ (same_if _ 4 _ _ (rw e (same_if _ 14 _ _ (same_if _ 17 _ _ refl))))))

same-query : (p : Probe) (t : Stretch) (ns : List Name) (places others : List Hit) → length places ≡ length others → answer_of (query_of p t ns places) ≡ answer_of (query_of p t ns others)
unfolding query_of
same-query p t ns places others e =
    same_answer p t ns places others _ e
    ∙ ap (λ (n : ℕ). answer_of (querying p t ns others (hits_of (words p.card) (read_by t p.state) t (existing_on p t) n (numbers p.register ns)))) e

-- what the search finds for as many places fills the lent list as the query does, with the query's answer
pub found-filled : (p : Probe) (t : Stretch) (ns : List Name) (places : List Hit) (a : Result Found Refusal) (u : Top) → Finds (answered p t ns (length places)) (length places) a u
    → (found_as a u.hits ≡ answer_of (query_of p t ns places)) × (fill (listed_hits u) places ≡ state_of places (query_of p t ns places))
found-filled p t ns places a u v =
    (v.answer ∙ same, ap (λ (l : List Hit). fill l places) (ap listed_hits v.kept ∙ listed-of _ ∙ ap hits_in same) ∙ fills p t ns places)
  where
    same : answer_of (query_of p t ns (replicate (length places) no_hit)) ≡ answer_of (query_of p t ns places)
    same = same-query p t ns (replicate (length places) no_hit) places (length-replicate (length places) no_hit)
