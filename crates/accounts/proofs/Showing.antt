-- What moves the hits of a query: a close and a removal, and no other call.
use Rattle.lists.proofs.Prelude.{Bool, true, false, cond, List, ◌≡◌, refl, sym, ap, ◌∙◌, ℕ, suc, ◌-◌, ◌≤◌, arith, ltb, length, ltb-true, lt-ltb, keep, every, down, keep-agree, every-down, every-keep, not-false}
use Rattle.postings.specs.declared.Stretch.{Stretch}
use Rattle.answers.specs.Answers.{Outcome, state_of}
use Rattle.answers.specs.declared.Hit.{Hit}
use Rattle.answers.proofs.Kept.{after-if, after-choose}
use Rattle.state.specs.Shown.{within}
use Rattle.identifiers.specs.Names.{Name, among}
use Rattle.ranking.specs.Hits.{ranked}
use Rattle.engine.specs.Calls.{Call, Open, Event, Close, Remove, RemoveAll, Flush, Step, Query, Mean, Forecast}
use Rattle.accounts.specs.Account.{Account, stepping, flushing, flushing_if}
use Rattle.accounts.specs.Ledger.{Ledger, live, shown, shown_within, existing_within, opens, counts}
use Rattle.accounts.specs.Books.{Books, showing, planned_in, books, books_call}
use Rattle.accounts.proofs.Ranked.{ranked-agree}
use Rattle.accounts.proofs.Live.{live-counts-other}
use Rattle.accounts.proofs.Lawful.{Lawful}
use Rattle.accounts.proofs.Counted.{more-elsewhere}

-- ---- the hits by a ledger

-- of the windows that show and pass a test
abbrev hits_among : (ℕ → Bool) → ℕ → List Name → Ledger → List Hit
hits_among p k ns l = ranked (length (keep (live l) (keep p (shown l)))) l.count (keep p (shown l)) k ns

-- of a stretch
abbrev pub hits_within : Stretch → ℕ → List Name → Ledger → List Hit
hits_within t k ns l = ranked (existing_within t l) l.count (shown_within t l) k ns

module _ (p : ℕ → Bool) (k : ℕ) (ns : List Name) (l : Ledger) where
  -- opening a window leaves them
  hits-opens : l.is_open ≡ false → hits_among p k ns (opens l) ≡ hits_among p k ns l
  hits-opens n = ap (λ (ws : List ℕ). ranked (length (keep (live (opens l)) (keep p ws))) (opens l).count (keep p ws) k ns) same ∙ (unfold opens live in refl)
    where
      one : suc l.last - 1 ≡ l.last
      one = omega arith

      same : shown (opens l) ≡ shown l
      same = unfold shown opens in (ap down one ∙ sym (ap (λ t. down (cond t (l.last - 1) l.last)) n))

  -- and so does an event
  hits-counts : (n : Name) → l.is_open ≡ true → 1 ≤ l.last → ((v : ℕ) → among n l.identifiers ≡ false → l.count n v ≡ 0) → hits_among p k ns (counts l n) ≡ hits_among p k ns l
  hits-counts n o given new =
      ap (λ (ws : List ℕ). ranked (length (keep (live (counts l n)) (keep p ws))) (counts l n).count (keep p ws) k ns) same
      ∙ ap (λ (ws : List ℕ). ranked (length ws) (counts l n).count (keep p (shown l)) k ns)
      (keep-agree (live (counts l n)) (live l) earlier (λ v h. live-counts-other l n v (new v) (apart v h)) (keep p (shown l)) before)
      ∙ ranked-agree (length (keep (live l) (keep p (shown l)))) (counts l n).count l.count earlier (keep p (shown l)) k ns before (λ i v h. unfold counts in more-elsewhere l n i v (apart v h))
    where
      same : shown (counts l n) ≡ shown l
      same = unfold shown counts in refl

      -- the windows that show were given before the open one
      earlier : ℕ → Bool
      earlier v = ltb v l.last

      apart : (v : ℕ) → earlier v ≡ true → l.last ≡ v → ⊥
      apart v h e = omega (arith, ltb-true v l.last h)

      before : every earlier (keep p (shown l)) ≡ true
      before =
          every-keep p earlier (shown l)
          (unfold shown in rw o (every-down earlier (l.last - 1) (λ v h. lt-ltb (suc v) l.last (omega arith))))

-- ---- every call

-- what holds of the books before a call and of all that it may leave holds after a flush or a step
module _ (b : Books) (P : Books → Type 0) (here : P b) (blocks : ℕ) (a : Account) (f : Account → Outcome Books) (left : (c : Account) → P (state_of b (f c))) where
  stays-flush : P (state_of b (flushing blocks a f))
  unfolding flushing
  stays-flush = after-choose P b _ _ _ (λ _. left a) (λ _. after-if P b here _ 10 _ λ _. after-if P b here _ 11 _ λ _. after-if P b here _ 12 _ λ _. left _)

  stays-flush_if : (t : Bool) → P (state_of b (flushing_if blocks t a f))
  unfolding flushing_if
  stays-flush_if t = after-choose P b t _ _ (λ _. stays-flush) (λ _. left a)

  stays_step : P (state_of b (stepping blocks a f))
  unfolding stepping
  stays_step = after-if P b here _ 12 _ λ _. after-if P b here _ 13 _ λ _. left _

module _ (blocks entries : ℕ) (b : Books) (s : Lawful entries b.ledger) (k : ℕ) (ns : List Name) where
  module _ (p : ℕ → Bool) where
    -- books with the hits that there were
    abbrev Same : Books → Type 0
    Same c = hits_among p k ns c.ledger ≡ hits_among p k ns b.ledger

    hits-among-stay : (q : Call) → showing q ≡ false → Same (state_of b (books_call blocks entries b q))
    unfolding planned_in books
    hits-among-stay Open e = after-if Same b refl _ 5 _ λ n. after-if Same b refl _ 6 _ λ _. hits-opens p k ns b.ledger n
    hits-among-stay (Event n) e =
        after-if Same b refl _ 4 _ λ _. after-if Same b refl _ 5 _ λ o. after-if Same b refl _ 6 _ λ _. after-if Same b refl _ 8 _ λ _. after-if Same b refl _ 9 _ λ _.
        stays-flush_if b Same refl blocks b.account _ (λ a. let y = not-false _ o in hits-counts p k ns b.ledger n y (s.given y) (λ v z. s.uncounted n v z)) _
    hits-among-stay Close e = absurd (let z : ◌≡◌ {A = ℕ} 0 1 = cc in omega arith)
    hits-among-stay (Remove w) e = absurd (let z : ◌≡◌ {A = ℕ} 0 1 = cc in omega arith)
    hits-among-stay (RemoveAll ws) e = absurd (let z : ◌≡◌ {A = ℕ} 0 1 = cc in omega arith)
    hits-among-stay Flush e = stays-flush b Same refl blocks b.account _ (λ a. refl)
    hits-among-stay Step e = stays_step b Same refl blocks b.account _ (λ a. refl)
    hits-among-stay (Query j t ms) e = after-if Same b refl _ 4 _ λ _. after-if Same b refl _ 14 _ λ _. after-if Same b refl _ 17 _ λ _. refl
    hits-among-stay (Mean n) e = after-if Same b refl _ 4 _ λ _. after-if Same b refl _ 15 _ λ _. refl
    hits-among-stay (Forecast plan numbers) e = after-if Same b refl _ 3 _ λ _. refl

  -- of a stretch
  pub hits-within-stay : (t : Stretch) (q : Call) → showing q ≡ false → hits_within t k ns (state_of b (books_call blocks entries b q)).ledger ≡ hits_within t k ns b.ledger
  unfolding existing_within shown_within
  hits-within-stay t = hits-among-stay (within t)
