-- Stored postings have an identifier of the register and a window from 1 up to the last that has events.
use Rattle.lists.proofs.Prelude.{Bool, true, ◌&&◌, List, [], ◌∷◌, map, foldr, ◌≡◌, refl, sym, ap, ◌∙◌, ℕ, suc, ◌*◌, ◌<◌, ◌≤◌, arith, eqb, leb, ℤ, pos, neg_ℤ, drop, ne_eqb, le-leb, leb-true, keep, every, by-test, and_left, and_right, and_both, every_append, every-keep, every-from, every_take, every_drop, and-false}
use Rattle.postings.specs.declared.Posting.{Posting}
use Rattle.postings.specs.Merge.{counting, put, is_counted, nonzero, pairs, negated}
use Rattle.postings.specs.Sums.{sum}
use Rattle.postings.proofs.Merge.{every-puts}
use Rattle.state.specs.Levels.{due_at, oldest_at, oldest, replaced}
use Rattle.removals.specs.Removal.{of_window, counts_of}
use Rattle.accounts.specs.Account.{Portion, Account, postings_in, stored_in, due_of, inputs_of, merged, portion_of, completed, furthered, stepped_account, flushed_account, added_to}
use Rattle.accounts.proofs.Parts.{sum-apart}
use Rattle.accounts.proofs.Stored.{level_of, stored-flushed, portion-postings, step-ends, step-goes}
use Rattle.accounts.proofs.Steps.{pair_count}
use Rattle.accounts.proofs.Shaped.{every-replaced}

-- an identifier of at most 1,023, and a window from 1 to t
abbrev pub stored_rule : ℕ → Posting → Bool
stored_rule t p = leb p.id 1023 && (leb 1 p.window && leb p.window t)

pub record StoredKept (t : ℕ) (p : Posting) : Type 0 where
  pub id : p.id ≤ 1023
  pub some : 1 ≤ p.window
  pub most : p.window ≤ t

pub stored-kept : (t : ℕ) (p : Posting) → stored_rule t p ≡ true → StoredKept t p
stored-kept t p e =
    let r = and_right (leb p.id 1023) _ e in
    record { id = leb-true _ _ (and_left (leb p.id 1023) _ e); some = leb-true _ _ (and_left (leb 1 p.window) _ r); most = leb-true _ _ (and_right (leb 1 p.window) _ r) }

pub stored-rule : (t : ℕ) (p : Posting) → p.id ≤ 1023 → 1 ≤ p.window → p.window ≤ t → stored_rule t p ≡ true
stored-rule t p a b c = rw (le-leb _ _ a, le-leb _ _ b, le-leb _ _ c)

-- all that is stored
abbrev pub Ranged : ℕ → Account → Type 0
Ranged t a = every (stored_rule t) (stored_in a) ≡ true

-- with a later last window
pub ranged-up : (t u : ℕ) → t ≤ u → (l : List Posting) → every (stored_rule t) l ≡ true → every (stored_rule u) l ≡ true
ranged-up t u h l e =
    every-from (stored_rule t) (stored_rule t) (stored_rule u)
    (λ p a b. let k = stored-kept t p a in stored-rule u p k.id k.some (omega (arith, k.most))) l e e

-- windows above t have no sum
pub sum-later : (t : ℕ) (l : List Posting) (i w : ℕ) → every (stored_rule t) l ≡ true → t < w → sum l i w ≡ pos 0
sum-later t l i w e h =
    sum-apart i w (stored_rule t) (λ p y. rw (ne_eqb p.window w (λ q. omega (arith, (stored-kept t p y).most))) (and-false (eqb p.id i))) l e

-- ---- partitions and buffer

module _ (t : ℕ) (a : Account) where
  pub ranged-partitions : Ranged t a → every (stored_rule t) (postings_in a.partitions) ≡ true
  ranged-partitions e = and_left (every (stored_rule t) (postings_in a.partitions)) _ (sym (every_append (stored_rule t) (postings_in a.partitions) a.buffer) ∙ e)

  pub ranged-buffer : Ranged t a → every (stored_rule t) a.buffer ≡ true
  ranged-buffer e = and_right (every (stored_rule t) (postings_in a.partitions)) _ (sym (every_append (stored_rule t) (postings_in a.partitions) a.buffer) ∙ e)

  ranged-both : every (stored_rule t) (postings_in a.partitions) ≡ true → every (stored_rule t) a.buffer ≡ true → Ranged t a
  ranged-both e f = every_append (stored_rule t) (postings_in a.partitions) a.buffer ∙ and_both (every (stored_rule t) (postings_in a.partitions)) _ e f

-- every posting of every partition
pub every-portion : (t : Posting → Bool) (ps : List Portion) → every t (postings_in ps) ≡ every (λ (p : Portion). every t p.postings) ps
every-portion t [] = refl
every-portion t (p ∷ ps) = every_append t p.postings (postings_in ps) ∙ ap (λ b. every t p.postings && b) (every-portion t ps)

-- the rule asks nothing of the count
by-pair : (t : ℕ) (q : Posting) (c : ℤ) → stored_rule t q ≡ true → stored_rule t (counting q c) ≡ true
by-pair t q c e = e

ranged-merged : (t : ℕ) (l m : List Posting) → every (stored_rule t) l ≡ true → every (stored_rule t) m ≡ true → every (stored_rule t) (nonzero (foldr put m l)) ≡ true
unfolding nonzero
ranged-merged t l m e f = every-keep is_counted (stored_rule t) (foldr put m l) (every-puts (stored_rule t) (by-pair t) l m e f)

-- ---- what calls leave

pub ranged-flushed : (t : ℕ) (a : Account) → Ranged t a → Ranged t (flushed_account a)
ranged-flushed t a e = rw (stored-flushed a) e

-- the inputs of a merge are some of the partitions
pub every-oldest : (t : Portion → Bool) (vs : List ℕ) (ps : List Portion) → every t ps ≡ true → every t (oldest level_of vs ps) ≡ true
every-oldest t [] ps e = refl
every-oldest t (v ∷ vs) ps e = every_take t (due_at v) (drop (oldest_at level_of v ps) ps) (every_drop t (oldest_at level_of v ps) ps e)

pub ranged-inputs : (t : ℕ) (a : Account) → every (stored_rule t) (postings_in a.partitions) ≡ true → every (stored_rule t) (inputs_of a) ≡ true
unfolding inputs_of
ranged-inputs t a e =
    every-portion (stored_rule t) (oldest level_of (due_of a) a.partitions)
    ∙ every-oldest (λ (p : Portion). every (stored_rule t) p.postings) (due_of a) a.partitions (sym (every-portion (stored_rule t) a.partitions) ∙ e)

-- so is its result
pub merged-ranged : (t : ℕ) (a : Account) → every (stored_rule t) (postings_in a.partitions) ≡ true → every (stored_rule t) (merged a) ≡ true
unfolding merged pairs
merged-ranged t a e = ranged-merged t (inputs_of a) [] (ranged-inputs t a e) refl

pub ranged-stepped : (t : ℕ) (a : Account) → Ranged t a → Ranged t (stepped_account a)
ranged-stepped t a e =
    by-test (leb (pair_count a) (16 * suc a.steps))
    (λ y. rw (step-ends a y) (ranged-both t (completed a) done (unfold completed in ranged-buffer t a e)))
    (λ n. rw (step-goes a n) (unfold furthered in e))
  where
    parts : every (λ (p : Portion). every (stored_rule t) p.postings) a.partitions ≡ true
    parts = sym (every-portion (stored_rule t) a.partitions) ∙ ranged-partitions t a e

    result : every (stored_rule t) (merged a) ≡ true
    result = merged-ranged t a (ranged-partitions t a e)

    done : every (stored_rule t) (postings_in (completed a).partitions) ≡ true
    done = unfold completed in
        (every-portion (stored_rule t) (replaced level_of (due_of a) a.partitions (portion_of a))
        ∙ every-replaced level_of (λ (p : Portion). every (stored_rule t) p.postings) (due_of a) a.partitions (portion_of a) parts
        (sym (every-portion (stored_rule t) (portion_of a)) ∙ rw (portion-postings a) result))

pub ranged-added : (t : ℕ) (ps : List Posting) (a : Account) → every (stored_rule t) ps ≡ true → Ranged t a → Ranged t (added_to ps a)
unfolding added_to
ranged-added t ps a e f = ranged-both t (added_to ps a) (ranged-partitions t a f) (ranged-merged t ps a.buffer e (ranged-buffer t a f))

-- what a removal takes back is in the range of what is stored
pub ranged-back : (t w : ℕ) (l : List Posting) → every (stored_rule t) l ≡ true → every (stored_rule t) (negated (counts_of w l)) ≡ true
unfolding negated counts_of nonzero pairs
ranged-back t w l e =
    turned (keep is_counted (keep is_counted (foldr put [] (of_window w l))))
    (every-keep is_counted (stored_rule t) (keep is_counted (foldr put [] (of_window w l)))
    (every-keep is_counted (stored_rule t) (foldr put [] (of_window w l))
    (every-puts (stored_rule t) (by-pair t) (of_window w l) [] (every-keep (λ p. eqb p.window w) (stored_rule t) l e) refl)))
  where
    turned : (m : List Posting) → every (stored_rule t) m ≡ true → every (stored_rule t) (map (λ p. counting p (neg_ℤ p.count)) m) ≡ true
    turned [] e = refl
    turned (p ∷ m) e = and_both (stored_rule t p) _ (and_left (stored_rule t p) _ e) (turned m (and_right (stored_rule t p) _ e))
