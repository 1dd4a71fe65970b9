-- Open, close, event and flush on bytes are those on lists.
use Rattle.lists.proofs.Prelude.{true, false, ◌&&◌, not, cond, List, [], ◌∷◌, ◌++◌, ◌≡◌, refl, sym, ap, ap₂, ◌∙◌, subst, ℕ, suc, ◌+◌, ◌-◌, ◌*◌, ◌≤◌, arith, eqb, leb, pos, length, leb-false, not-true, any, elem, by-test, and_both}
use Rattle.words.specs.Words.{words}
use Rattle.postings.specs.declared.Posting.{Posting}
use Rattle.postings.specs.Order.{same_pair}
use Rattle.postings.specs.Merge.{put}
use Rattle.answers.specs.Answers.{done, number, Outcome, leave}
use Rattle.state.specs.declared.Lengths.{Lengths}
use Rattle.state.specs.declared.Windows.{Windows}
use Rattle.state.specs.declared.State.{State}
use Rattle.state.specs.Views.{blocks, register_size, listed, buffered, listed_of, buffer_of}
use Rattle.state.specs.Rules.{state_rule}
use Rattle.state.specs.Probe.{Store, Probe, has_length}
use Rattle.state.proofs.Rows.{held}
use Rattle.state.proofs.Kept.{lengths-kept}
use Rattle.identifiers.specs.Names.{Name, bad_length, number_of}
use Rattle.identifiers.specs.Register.{names, register_rule, added}
use Rattle.identifiers.proofs.Added.{names-added, rule-added, length-added}
use Rattle.flushes.specs.Flush.{flushing_if, flush_of}
use Rattle.windows.specs.Calls.{opened, is_open, open_of, closed, close_of}
use Rattle.events.specs.Event.{once, event_flushes, counted, is_new, event_of}
use Rattle.engine.specs.Calls.{Open, Event, Close, Flush, with_store, with_state, probe_call}
use Rattle.accounts.specs.Account.{Account, overflows, flushing_if as account_flushing_if}
use Rattle.accounts.specs.Lists.{Lists, opened_lists, closed_lists, once_of, counted_lists, with_account, planned_lists, pursued, is_open as is_open_in, is_new as is_new_in}
use Rattle.accounts.proofs.Shaped.{overflows-is}
use Rattle.accounts.proofs.Numbers.{new_is}
use Rattle.decoded.proofs.Holds.{Holds, Stored, buffer-is}
use Rattle.decoded.proofs.Ruled.{ruled, same_length}
use Rattle.decoded.proofs.Fronts.{holds-fronted}
use Rattle.decoded.proofs.Flushing.{Same, both_leave, same-carry, refusing, passing, Fine, flush-same, flush_if-same}

-- a state held by a probe is held by the probe with that state
pub stored-state : {ls : Lengths} (p : Probe) (e e' : Lists) (s : State) → Stored ls p e → Holds s (words p.card) e' → s.lengths ≡ p.state.lengths → e'.names ≡ e.names → Stored ls (with_state p s) e'
stored-state p e e' s k h same named = record {
  holds = h;
  sized = same ∙ k.sized;
  card = k.card ∙ ap (λ (l : Lengths). l.card) (sym same);
  register = k.register ∙ ap (λ (l : Lengths). l.register) (sym same);
  rule = k.rule;
  names = k.names ∙ sym named;
}

-- and so is a store
pub stored-store : {ls : Lengths} (p : Probe) (e e' : Lists) (q : Store) → Stored ls p e → Holds q.state (words q.card) e' → q.state.lengths ≡ p.state.lengths → length q.card ≡ length p.card → e'.names ≡ e.names → Stored ls (with_store p q) e'
stored-store p e e' q k h same long named = record {
  holds = h;
  sized = same ∙ k.sized;
  card = long ∙ k.card ∙ ap (λ (l : Lengths). l.card) (sym same);
  register = k.register ∙ ap (λ (l : Lengths). l.register) (sym same);
  rule = k.rule;
  names = k.names ∙ sym named;
}

module _ {ls : Lengths} (p : Probe) (e : Lists) (k : Stored ls p e) (fine : Fine (blocks p.state) e) where
  abbrev s : State
  s = p.state

  abbrev W : List ℕ
  W = words p.card

  abbrev h : Holds s W e
  h = k.holds

  -- no cause for refusals 1 and 2
  pub no-first : not (state_rule s) ≡ false
  no-first = ap not (ruled s W e h fine.rule)

  pub no_second : not (has_length p.card s.lengths.card) ≡ false
  no_second = ap not (same_length p.card s.lengths.card k.card)

  pub no-second-both : not (has_length p.card s.lengths.card && has_length p.register s.lengths.register) ≡ false
  no-second-both =
      ap not (and_both (has_length p.card s.lengths.card) _ (same_length p.card s.lengths.card k.card) (same_length p.register s.lengths.register k.register))

  -- the window numbers are the same
  pub opened-is : is_open s ≡ is_open_in e
  opened-is = ap (λ (w : Windows). not (eqb w.current 0)) h.windows

  last-is : s.windows.last ≡ e.windows.last
  last-is = ap (λ (w : Windows). w.last) h.windows

  -- ---- open

  holds_opened : Holds (opened s) W (opened_lists e)
  unfolding opened opened_lists
  holds_opened =
      holds-fronted s W e (opened_lists e) h (record { last = suc s.windows.last; live = s.windows.live; current = suc s.windows.last; events = 0 }) s.listed s.buffer
      (ap (λ (w : Windows). record { last = suc w.last; live = w.live; current = suc w.last; events = 0 }) h.windows) h.listed h.buffer refl refl

  pub open-same : Same (Stored ls) (probe_call p Open) (pursued (blocks s) (register_size s) e Open)
  unfolding probe_call open_of planned_lists pursued
  open-same =
      same-carry (λ t e'. Stored ls (with_state p t) e') (Stored ls) (with_state p) (λ t e' r. r)
      (passing R _ 1 _ _ no-first
      (refusing R _ _ 5 _ _ opened-is λ _.
      refusing R _ _ 6 _ _ (ap (leb 65535) last-is) λ _.
      subst (λ n. Same R (leave (number (suc n)) (opened s)) (leave (number (suc e.windows.last)) (opened_lists e))) (sym last-is)
      (both_leave (stored-state p e (opened_lists e) (opened s) k holds_opened (unfold opened in refl) (unfold opened_lists in refl)))))
    where
      R : State → Lists → Type 0
      R t e' = Stored ls (with_state p t) e'

  -- ---- close

  holds-closed : Holds (closed s) W (closed_lists e)
  unfolding closed closed_lists
  holds-closed =
      holds-fronted s W e (closed_lists e) h
      (record { last = cond (eqb s.windows.events 0) (s.windows.last - 1) s.windows.last; live = cond (eqb s.windows.events 0) s.windows.live (suc s.windows.live); current = 0; events = 0 }) (listed_of []) s.buffer
      (ap (λ (w : Windows). record { last = cond (eqb w.events 0) (w.last - 1) w.last; live = cond (eqb w.events 0) w.live (suc w.live); current = 0; events = 0 }) h.windows) refl h.buffer refl refl

  pub close-same : Same (Stored ls) (probe_call p Close) (pursued (blocks s) (register_size s) e Close)
  unfolding probe_call close_of planned_lists pursued
  close-same =
      same-carry (λ t e'. Stored ls (with_state p t) e') (Stored ls) (with_state p) (λ t e' r. r)
      (passing R _ 1 _ _ no-first
      (refusing R _ _ 5 _ _ (ap not opened-is) λ _.
      both_leave (stored-state p e (closed_lists e) (closed s) k holds-closed (unfold closed in refl) (unfold closed_lists in refl))))
    where
      R : State → Lists → Type 0
      R t e' = Stored ls (with_state p t) e'

  -- ---- flush

  pub flush-call-same : Same (Stored ls) (probe_call p Flush) (pursued (blocks s) (register_size s) e Flush)
  unfolding probe_call flush_of pursued
  flush-call-same =
      same-carry (λ q e'. Stored ls (with_store p q) e') (Stored ls) (with_store p) (λ q e' r. r)
      (passing R _ 1 _ _ no-first
      (passing R _ 2 _ _ no_second
      (flush-same s p.card e h fine R (λ t c. leave done (record { state = t; card = c })) (λ a. leave done (with_account e a))
      (λ t c a held' same long. both_leave (stored-store p e (with_account e a) (record { state = t; card = c }) k held' same long refl))
      k.card)))
    where
      R : Store → Lists → Type 0
      R q e' = Stored ls (with_store p q) e'

  -- ---- event

  -- the number of an identifier
  number_is : (n : Name) → number_of (names p.register) n ≡ number_of e.names n
  number_is n = ap (λ ms. number_of ms n) k.names

  new-same : (n : Name) → is_new p.register n ≡ is_new_in e n
  new-same n = ap (λ ms. leb (length ms) (number_of ms n)) k.names

  pub listed-is : listed s.listed ≡ e.listed
  listed-is = ap listed h.listed ∙ held 64 0 e.listed

  -- what is counted
  once-same : (n : Name) → once s (number_of (names p.register) n) ≡ once_of e n
  once-same n = ap₂ (λ (i w : ℕ). record { id = i; window = w; count = pos 1 }) (number_is n) (ap (λ (w : Windows). w.current) h.windows)

  flushes-same : (n : Name) → event_flushes s (number_of (names p.register) n) ≡ overflows (once_of e n) e.account
  unfolding event_flushes
  flushes-same n =
      ap₂ (λ (x : Posting) (l : List Posting). eqb (length l) 128 && not (any (same_pair x) l)) (once-same n) (buffer-is s W e h) ∙ sym (overflows-is (once_of e n) e.account)

  -- the state with the event counted, after a flush or without one
  holds-counted : (t : State) (X : List ℕ) (a : Account) (n : Name) → Holds t X (with_account e a) → Holds (counted t (number_of (names p.register) n)) X (counted_lists e n a)
  unfolding counted counted_lists
  holds-counted t X a n g =
      holds-fronted t X (with_account e a) (counted_lists e n a) g
      (record { last = t.windows.last; live = t.windows.live; current = t.windows.current; events = suc t.windows.events })
      (listed_of (cond (elem i (listed t.listed)) (listed t.listed) (listed t.listed ++ (i ∷ []))))
      (buffer_of (put (once t i) (buffered t.buffer)))
      (ap (λ (w : Windows). record { last = w.last; live = w.live; current = w.current; events = suc w.events }) g.windows)
      (ap₂ (λ (l : List ℕ) (j : ℕ). listed_of (cond (elem j l) l (l ++ (j ∷ [])))) (ap listed g.listed ∙ held 64 0 e.listed) (number_is n))
      (ap₂ (λ (x : Posting) (l : List Posting). buffer_of (put x l))
      (ap₂ (λ (j w : ℕ). record { id = j; window = w; count = pos 1 }) (number_is n) (ap (λ (w : Windows). w.current) g.windows))
      (buffer-is t X (with_account e a) g))
      refl refl
    where
      i : ℕ
      i = number_of (names p.register) n

  -- the register with the identifier
  module _ (n : Name) (good : bad_length n ≡ false) (eight : (is_new_in e n && leb (register_size s) (length e.names)) ≡ false) where
    abbrev noted : List ℕ
    noted = cond (is_new p.register n) (added p.register n) p.register

    -- a new identifier finds an unused entry
    room : is_new p.register n ≡ true → 65 * length (names p.register) + 65 ≤ length p.register
    room y =
        let low : leb (register_size s) (length e.names) ≡ false = sym (ap (λ t. t && leb (register_size s) (length e.names)) (sym (new-same n) ∙ y)) ∙ eight in
        omega (arith, leb-false (register_size s) (length e.names) low, ap length k.names, k.register, (lengths-kept s.lengths h.lengths).register)

    noted-names : names noted ≡ cond (is_new_in e n) (e.names ++ (n ∷ [])) e.names
    noted-names =
        by-test (is_new p.register n)
        (λ y. ap (λ t. names (cond t (added p.register n) p.register)) y ∙ names-added p.register n k.rule good (room y) ∙ ap (λ ms. ms ++ (n ∷ [])) k.names
        ∙ sym (ap (λ t. cond t (e.names ++ (n ∷ [])) e.names) (sym (new-same n) ∙ y)))
        (λ z. ap (λ t. names (cond t (added p.register n) p.register)) z ∙ k.names ∙ sym (ap (λ t. cond t (e.names ++ (n ∷ [])) e.names) (sym (new-same n) ∙ z)))

    noted-rule : register_rule noted ≡ true
    noted-rule =
        by-test (is_new p.register n)
        (λ y. ap (λ t. register_rule (cond t (added p.register n) p.register)) y
        ∙ rule-added p.register n k.rule good (room y) (not-true _ (sym (new_is (names p.register) n) ∙ y)))
        (λ z. ap (λ t. register_rule (cond t (added p.register n) p.register)) z ∙ k.rule)

    noted-length : length noted ≡ length p.register
    noted-length =
        by-test (is_new p.register n)
        (λ y. ap (λ t. length (cond t (added p.register n) p.register)) y ∙ length-added p.register n)
        (λ z. ap (λ t. length (cond t (added p.register n) p.register)) z)

    stored-counted : (t : State) (c : List ℕ) (a : Account) → Holds t (words c) (with_account e a) → t.lengths ≡ s.lengths → length c ≡ length p.card
        → Stored ls (record { state = counted t (number_of (names p.register) n); card = c; register = noted }) (counted_lists e n a)
    stored-counted t c a g same long = record {
      holds = holds-counted t (words c) a n g;
      sized = lengths-same ∙ same ∙ k.sized;
      card = long ∙ k.card ∙ ap (λ (l : Lengths). l.card) (sym (lengths-same ∙ same));
      register = noted-length ∙ k.register ∙ ap (λ (l : Lengths). l.register) (sym (lengths-same ∙ same));
      rule = noted-rule;
      names = noted-names ∙ named;
    }
      where
        lengths-same : (counted t (number_of (names p.register) n)).lengths ≡ t.lengths
        lengths-same = unfold counted in refl

        named : cond (is_new_in e n) (e.names ++ (n ∷ [])) e.names ≡ (counted_lists e n a).names
        named = unfold counted_lists in refl

  pub event-same : (n : Name) → Same (Stored ls) (probe_call p (Event n)) (pursued (blocks s) (register_size s) e (Event n))
  unfolding probe_call event_of planned_lists pursued
  event-same n =
      passing (Stored ls) _ 1 _ _ no-first
      (passing (Stored ls) _ 2 _ _ no-second-both
      (passing (Stored ls) _ 3 _ _ (ap not k.rule)
      (refusing (Stored ls) _ _ 4 _ _ refl λ four.
      refusing (Stored ls) _ _ 5 _ _ (ap not opened-is) λ _.
      refusing (Stored ls) _ _ 6 _ _ (ap (λ (w : Windows). leb 32767 w.events) h.windows) λ _.
      refusing (Stored ls) _ _ 8 _ _ (ap₂ (λ t (ms : List Name). t && leb (register_size s) (length ms)) (new-same n) k.names) λ eight.
      refusing (Stored ls) _ _ 9 _ _ (ap₂ (λ (i : ℕ) (l : List ℕ). not (elem i l) && leb 64 (length l)) (number_is n) listed-is) λ _.
      subst (λ t. Same (Stored ls) (flushing_if t s p.card writes) (account_flushing_if (blocks s) (overflows (once_of e n) e.account) e.account lists)) (sym (flushes-same n))
      (flush_if-same s p.card e h fine (Stored ls) writes lists (overflows (once_of e n) e.account)
      (λ t c a g same long. both_leave (stored-counted n four eight t c a g same long)) k.card))))
    where
      writes : State → List ℕ → Outcome Probe
      writes t c =
          leave done
          (record { state = counted t (number_of (names p.register) n); card = c; register = cond (is_new p.register n) (added p.register n) p.register })

      lists : Account → Outcome Lists
      lists a = leave done (counted_lists e n a)
