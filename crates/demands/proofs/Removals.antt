-- Removal of several windows: what it comes to by single removals one after another, and what the ledger is after it.
use Rattle.lists.proofs.Prelude.{Bool, true, false, ◌||◌, cond, List, [], ◌∷◌, map, ◌≡◌, refl, sym, ap, ◌∙◌, subst, ℕ, suc, ◌≤◌, arith, eqb, leb, length, take, eqb-true, not, empty, elem, by-test, and_right}
use Rattle.words.specs.Words.{words, Below}
use Rattle.answers.specs.Answers.{Answer, done, refused, Outcome, refuse, leave, refuse_if, choose, next, in_turn, answer_of, state_of, carry}
use Rattle.answers.specs.Unchanged.{Unchanged}
use Rattle.answers.proofs.Kept.{unchanged-if, unchanged-turn}
use Rattle.state.specs.declared.State.{State}
use Rattle.state.specs.Rules.{state_rule}
use Rattle.state.specs.Probe.{Store, Probe, has_length}
use Rattle.identifiers.specs.Names.{Name}
use Rattle.flushes.specs.Flush.{flushing, flushing_if}
use Rattle.removals.specs.Removal.{removing, remove_of}
use Rattle.batches.proofs.Chain.{late}
use Rattle.batches.proofs.Later.{batch-later}
use Rattle.batches.specs.Batch.{batch_rule, batch_formed, remove_all_of}
use Rattle.engine.specs.Calls.{Remove, RemoveAll, store_in, with_store, probe_call, run, afterwards}
use Rattle.accounts.specs.Account as account
use Rattle.accounts.specs.Account.{Account}
use Rattle.accounts.specs.Ledger.{Ledger, live, removes}
use Rattle.accounts.specs.Books.{Books, removal_in, books, books_call}
use Rattle.accounts.proofs.Live.{live-removes}
use Rattle.demands.specs.Words.{Together, all_removed, one_refused}
use Rattle.demands.proofs.Granted.{Where, where-if, done-granted}

-- ---- what a single removal comes to

-- refused with 12 at most, or done, and G holds of what is left
data Plain {S : Type 0} (G : S → Type 0) : Outcome S → Type 0 where
  refusing : {n : ℕ} → n ≤ 12 → Plain G (refuse n)
  leaving : {s : S} → G s → Plain G (leave done s)

module _ {S : Type 0} {G : S → Type 0} where
  plain-if : (t : Bool) (n : ℕ) (o : Outcome S) → n ≤ 12 → Plain G o → Plain G (refuse_if t n o)
  unfolding refuse_if
  plain-if true n o h p = refusing h
  plain-if false n o h p = p

  plain-choose : (t : Bool) (o q : Outcome S) → Plain G o → Plain G q → Plain G (choose t o q)
  unfolding choose
  plain-choose true o q x y = x
  plain-choose false o q x y = y

  plain-next : {H : S → Type 0} {o : Outcome S} → Plain H o → (k : S → Outcome S) → ((t : S) → H t → Plain G (k t)) → Plain G (next o k)
  unfolding next
  plain-next (refusing h) k f = refusing h
  plain-next (leaving {s = t} x) k f = f t x

  -- a flush first or not, on bytes and on the account
  plain-flush : (t : Bool) (s : State) (card : List ℕ) (k : State → List ℕ → Outcome S) → ((u : State) (c : List ℕ) → Plain G (k u c)) → Plain G (flushing_if t s card k)
  unfolding flushing_if flushing
  plain-flush t s card k h =
      plain-choose t _ _ (plain-choose _ _ _ (h s card) (plain-if _ 10 _ (omega arith) (plain-if _ 11 _ (omega arith) (plain-if _ 12 _ (omega arith) (h _ _))))) (h s card)

  plain-account : (t : Bool) (blocks : ℕ) (a : Account) (k : Account → Outcome S) → ((b : Account) → Plain G (k b)) → Plain G (account.flushing_if blocks t a k)
  unfolding account.flushing_if account.flushing
  plain-account t blocks a k h =
      plain-choose t _ _ (plain-choose _ _ _ (h a) (plain-if _ 10 _ (omega arith) (plain-if _ 11 _ (omega arith) (plain-if _ 12 _ (omega arith) (h _))))) (h a)

  plain_done : {o : Outcome S} → Plain G o → answer_of o ≡ done → (s : S) → G (state_of s o)
  plain_done (refusing {n = n} h) e s = absurd (done-granted n e)
  plain_done (leaving g) e s = g

  plain-low : {o : Outcome S} → Plain G o → answer_of o ≡ refused 16 → ⊥
  plain-low (refusing {n = n} h) e = let z : n ≡ 16 = cc in omega arith
  plain-low (leaving g) e = let z : ◌≡◌ {A = ℕ} 0 1 = cc in omega arith

removal-plain : (q : Store) (w : ℕ) → Plain (λ (r : Store). Unit {0}) (remove_of q w)
unfolding remove_of removing
removal-plain q w =
    plain-if _ 1 _ (omega arith) (plain-if _ 2 _ (omega arith) (plain-if _ 3 _ (omega arith) (plain-if _ 5 _ (omega arith) (plain-if _ 7 _ (omega arith)
    (plain-flush _ q.state q.card _ (λ u c. leaving tt))))))

-- ---- one after another

-- one removal that is done, and then others
joins : (p : Probe) (w : ℕ) (q : Probe) (ws : List ℕ) (o : Outcome Probe) → probe_call p (Remove w) ≡ leave done q → Together q ws o → Together p (w ∷ ws) o
joins p w q ws o e t = go o t
  where
    told : run probe_call p (map Remove (w ∷ ws)) ≡ done ∷ run probe_call q (map Remove ws)
    told = unfold run in ap (λ (x : Outcome Probe). answer_of x ∷ run probe_call (state_of p x) (map Remove ws)) e

    left : afterwards probe_call p (map Remove (w ∷ ws)) ≡ afterwards probe_call q (map Remove ws)
    left = unfold afterwards in ap (λ (x : Outcome Probe). afterwards probe_call (state_of p x) (map Remove ws)) e

    go : (x : Outcome Probe) → Together q ws x → Together p (w ∷ ws) x
    go _ (all_removed h) = subst (λ (r : Probe). Together p (w ∷ ws) (leave done r)) left (all_removed (told ∙ ap (λ (l : List Answer). done ∷ l) h))
    go _ (one_refused n i low h) = one_refused n (suc i) (omega arith) (ap (take (suc (suc i))) told ∙ ap (λ (l : List Answer). done ∷ l) h)

next-together : (p : Probe) (w : ℕ) (ws : List ℕ) (k : Store → Outcome Store) → ((q : Probe) → Together q ws (carry (with_store q) (k (store_in q))))
    → (o : Outcome Store) → remove_of (store_in p) w ≡ o → Plain (λ (r : Store). Unit {0}) o → Together p (w ∷ ws) (carry (with_store p) (next o k))
unfolding probe_call next
next-together p w ws k h (refuse n) e x = one_refused n 0 (omega arith) (unfold run in ap (λ (y : Outcome Store). answer_of (carry (with_store p) y) ∷ []) e)
next-together p w ws k h (leave _ q) e (leaving u) = joins p w (with_store p q) ws _ (ap (carry (with_store p)) e) (h (with_store p q))

turn-together : (ws : List ℕ) (p : Probe) → Together p ws (carry (with_store p) (in_turn remove_of (store_in p) ws))
unfolding in_turn
turn-together [] p = unfold afterwards in all_removed (unfold run in refl)
turn-together (w ∷ ws) p = next-together p w ws _ (turn-together ws) _ refl (removal-plain (store_in p) w)

-- ---- the call

module _ (p : Probe) (ws : List ℕ) (one : state_rule p.state ≡ true) (two : has_length p.card p.state.lengths.card ≡ true) (three : batch_formed (words p.card) p.state ws ≡ true) where
  -- it comes to the removals
  passed : batch_rule ws ≡ true → probe_call p (RemoveAll ws) ≡ carry (with_store p) (in_turn remove_of (store_in p) ws)
  unfolding probe_call remove_all_of refuse_if
  passed sixteen = rw (one, two, three, sixteen)

  pub removals-together : batch_rule ws ≡ true → Together p ws (probe_call p (RemoveAll ws))
  removals-together sixteen = subst (Together p ws) (sym (passed sixteen)) (turn-together ws p)

  -- and to none of 1 to 3
  pub removals-late : Below 256 p.card → length p.state.buffer.postings ≡ 128 → p.state.windows.last ≤ 65535 → batch_rule ws ≡ true
      → (n : ℕ) → answer_of (probe_call p (RemoveAll ws)) ≡ refused n → late n ≡ true
  removals-late bytes wide last sixteen n e =
      batch-later p.state p.card ws bytes wide last one (eqb-true _ _ two) three (and_right (leb (length ws) 32) _ (and_right (not (empty ws)) _ sixteen)) n
      (sym (carried (in_turn remove_of (store_in p) ws)) ∙ sym (ap answer_of (passed sixteen)) ∙ e)
    where
      carried : (o : Outcome Store) → answer_of (carry (with_store p) o) ≡ answer_of o
      carried (refuse m) = refl
      carried (leave x q) = refl

  pub list-bad : batch_rule ws ≡ false → answer_of (probe_call p (RemoveAll ws)) ≡ refused 16
  unfolding probe_call remove_all_of refuse_if
  list-bad sixteen = rw (one, two, three, sixteen)

-- ---- the ledger

-- without the windows of a list
abbrev pub without : Ledger → List ℕ → Ledger
without l [] = l
without l (w ∷ ws) = without (removes l w) ws

-- taken out by one or by the others
out : {A : Type 0} (s t : Bool) (z x : A) → cond t z (cond s z x) ≡ cond (s || t) z x
out true true z x = refl
out true false z x = refl
out false t z x = refl

pub count-without : (ws : List ℕ) (l : Ledger) (n : Name) (v : ℕ) → (without l ws).count n v ≡ cond (elem v ws) 0 (l.count n v)
count-without [] l n v = refl
count-without (w ∷ ws) l n v = count-without ws (removes l w) n v ∙ (unfold removes in out (eqb w v) (elem v ws) 0 (l.count n v))

pub live-without : (ws : List ℕ) (l : Ledger) (v : ℕ) → live (without l ws) v ≡ cond (elem v ws) false (live l v)
live-without [] l v = refl
live-without (w ∷ ws) l v = live-without ws (removes l w) v ∙ ap (cond (elem v ws) false) (live-removes l w v) ∙ out (eqb w v) (elem v ws) false (live l v)

module _ (n m : ℕ) where
  removal-ledger : (b : Books) (w : ℕ) → Plain (λ (c : Books). c.ledger ≡ removes b.ledger w) (removal_in n m b w)
  removal-ledger b w = plain-if _ 5 _ (omega arith) (plain-if _ 7 _ (omega arith) (plain-account _ n b.account _ (λ a. leaving refl)))

  removals-ledger : (ws : List ℕ) (b : Books) → Plain (λ (c : Books). c.ledger ≡ without b.ledger ws) (in_turn (removal_in n m) b ws)
  unfolding in_turn
  removals-ledger [] b = leaving refl
  removals-ledger (w ∷ ws) b =
      plain-next (removal-ledger b w) _ (λ c e. subst (λ (l : Ledger). Plain (λ (d : Books). d.ledger ≡ without l ws) (in_turn (removal_in n m) c ws)) e (removals-ledger ws c))

  module _ (b : Books) (ws : List ℕ) where
    pub list-bad-books : batch_rule ws ≡ false → answer_of (books_call n m b (RemoveAll ws)) ≡ refused 16
    unfolding books refuse_if
    list-bad-books e = rw e

    pub bad-books-list : answer_of (books_call n m b (RemoveAll ws)) ≡ refused 16 → batch_rule ws ≡ false
    unfolding books refuse_if
    bad-books-list e = by-test (batch_rule ws) (λ y. absurd (plain-low (removals-ledger ws b) (rw y at e))) (λ z. z)

    pub books-removed : answer_of (books_call n m b (RemoveAll ws)) ≡ done → (state_of b (books_call n m b (RemoveAll ws))).ledger ≡ without b.ledger ws
    books-removed e = taken.holds e
      where
        taken : Where b done (λ (c : Books). c.ledger ≡ without b.ledger ws) (books_call n m b (RemoveAll ws))
        taken = unfold books in where-if done-granted _ 16 _ λ _. record { holds = λ d. plain_done (removals-ledger ws b) d b }

    pub books-unchanged : Unchanged b (books_call n m b (RemoveAll ws))
    unfolding books
    books-unchanged = unchanged-if _ 16 _ (unchanged-turn (removal_in n m) b ws)
