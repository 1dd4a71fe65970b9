-- A judged window's counts can be taken back from the buffer, with a flush first or without.
use Rattle.std.specs.Prelude.{Option, Some, None, Ok}
use Rattle.lists.proofs.Prelude.{true, List, [], List-as-Memᴰ, ◌≡◌, refl, ap, ◌∙◌, ℕ, zero, suc, ◌+◌, ◌≤◌, arith, leb, ℤ, pos, negsuc, nat_abs, neg_ℤ, ◌+ℤ◌, +ℤ_idr, +ℤ_invl, +ℤ_assoc, neg_ℤ-+ℤ, length, leb-true, le-leb, eqb-true, ltb-false, every, empty, by-test, and_left, and_right, and_both, every-member, empty-length}
use Rattle.words.specs.Words.{words}
use Rattle.postings.specs.declared.Posting.{Posting}
use Rattle.postings.specs.Order.{ordered}
use Rattle.postings.specs.Merge.{is_counted}
use Rattle.postings.specs.Sums.{sum}
use Rattle.postings.proofs.Sums.{sum-append}
use Rattle.state.specs.declared.State.{State}
use Rattle.state.specs.Views.{blocks, buffered, finished}
use Rattle.state.proofs.Kept.{rules-of}
use Rattle.partitions.specs.Reading.{in_partitions, stored}
use Rattle.partitions.specs.Formed.{partitions_formed, lists_rule, sums_in_range}
use Rattle.buffer.proofs.Canonical.{canonical-of, rule-canonical, rule-counts}
use Rattle.flushes.specs.Flush.{flushed_to}
use Rattle.flushes.specs.Targets.{Aimed}
use Rattle.flushes.proofs.Targets.{not-wanted-only}
use Rattle.sums.specs.declared.Counts.{Counts}
use Rattle.sums.specs.Views.{counts_in}
use Rattle.removals.specs.Removal.{of_window, counts_of, lists_formed, removal_formed, removal_flushes}
use Rattle.removals.specs.Taking.{takeable, Takeable, Removable, emptied, Emptiable}
use Rattle.sums.proofs.Windowed.{window-fits, counts-ordered, counts_some, count-there}

-- ---- signed numbers

pub nat_abs-neg : (z : ℤ) → nat_abs (neg_ℤ z) ≡ nat_abs z
nat_abs-neg (pos zero) = refl
nat_abs-neg (pos (suc n)) = refl
nat_abs-neg (negsuc n) = refl

-- taking a sum back from its second part leaves the first, negated
pub back : (a b : ℤ) → neg_ℤ (a +ℤ b) +ℤ b ≡ neg_ℤ a
back a b =
    ap (λ (z : ℤ). z +ℤ b) (neg_ℤ-+ℤ a b) ∙ +ℤ_assoc (neg_ℤ a) (neg_ℤ b) b ∙ ap (λ (z : ℤ). neg_ℤ a +ℤ z) (+ℤ_invl b) ∙ +ℤ_idr (neg_ℤ a)

-- ---- what refusal 3 lets through

pub record Formed (W : List ℕ) (s : State) (w : ℕ) : Type 0 where
  pub parts : sums_in_range (of_window w (in_partitions W (finished s.partitions))) ≡ true
  pub all : sums_in_range (of_window w (stored W s)) ≡ true
  pub few : length (counts_of w (stored W s)) ≤ 64

pub formed-of : (W : List ℕ) (s : State) (w : ℕ) → removal_formed W s w ≡ true → Formed W s w
unfolding removal_formed lists_formed
formed-of W s w e =
    let a = and_right (partitions_formed W (blocks s) (finished s.partitions)) _ e in
    let b = and_right (every (lists_rule W) (finished s.partitions)) _ a in
    let c = and_right (sums_in_range (of_window w (in_partitions W (finished s.partitions)))) _ b in
    record {
      parts = and_left (sums_in_range (of_window w (in_partitions W (finished s.partitions)))) _ b;
      all = and_left (sums_in_range (of_window w (stored W s))) _ c;
      few = leb-true _ _ (and_right (sums_in_range (of_window w (stored W s))) _ c);
    }

module _ (s : State) (card : List ℕ) (w : ℕ) (c : Counts) (j : Removable s card w c) where
  abbrev all : List Posting
  all = stored (words card) s

  in_order : ordered (counts_in c) ≡ true
  in_order = rw j.counts (counts-ordered w all)

  some : every is_counted (counts_in c) ≡ true
  some = rw j.counts (counts_some w all)

  short : length (counts_in c) ≤ 64
  short = rw j.counts (formed-of (words card) s w j.formed).few

  -- a count is in range
  small : (p : Posting) → List-as-Memᴰ p (counts_of w all) → nat_abs p.count ≤ 32767
  small p m = rw (count-there w all p m).1 (window-fits w p.id all (formed-of (words card) s w j.formed).all)

  split : (i v : ℕ) → sum all i v ≡ sum (in_partitions (words card) (finished s.partitions)) i v +ℤ sum (buffered s.buffer) i v
  unfolding stored
  split i v = sum-append i v (in_partitions (words card) (finished s.partitions)) (buffered s.buffer)

  -- from the buffer, what is left is the sum over the partitions, negated
  from-buffer : every (takeable (buffered s.buffer)) (counts_in c) ≡ true
  from-buffer =
      rw j.counts
      (every-member (takeable (buffered s.buffer)) (counts_of w all)
      (λ p m. let t = count-there w all p m in
      let a = sum (in_partitions (words card) (finished s.partitions)) p.id w in
      let b = sum (buffered s.buffer) p.id w in
      let e : neg_ℤ p.count +ℤ sum (buffered s.buffer) p.id p.window ≡ neg_ℤ a = rw (t.0, t.1, split p.id w) (back a b) in
      and_both (leb (nat_abs p.count) 32767) _ (le-leb _ _ (small p m))
      (rw (e, nat_abs-neg a) (le-leb _ _ (window-fits w p.id (in_partitions (words card) (finished s.partitions)) (formed-of (words card) s w j.formed).parts)))))

  -- from an empty one, the count itself, negated
  from-none : every (takeable []) (counts_in c) ≡ true
  from-none =
      rw j.counts
      (every-member (takeable []) (counts_of w all)
      (λ p m. rw (+ℤ_idr (neg_ℤ p.count), nat_abs-neg p.count, le-leb _ _ (small p m))))

  -- without a flush
  pub takeable-plain : Aimed (removal_flushes s (counts_in c)) s card (Ok None) → Takeable s.buffer c
  unfolding removal_flushes
  takeable-plain e =
      let r = rules-of s j.rule in
      record {
        canonical = rule-canonical s.windows s.buffer r.buffer;
        counted = rule-counts s.windows s.buffer r.buffer;
        few = j.few;
        in_order = in_order;
        some = some;
        within = from-buffer;
        room = by-test (empty (buffered s.buffer))
            (λ y. let z : length (buffered s.buffer) ≡ 0 = eqb-true _ _ (empty-length (buffered s.buffer) ∙ y) in omega (arith, short))
            (λ m. let z = ltb-false 128 (length (buffered s.buffer) + length (counts_in c)) (not-wanted-only _ _ e.1 m) in omega arith);
      }

  -- after a flush, which leaves an empty buffer
  pub takeable-flushed : (k : ℕ) → Takeable (flushed_to s k).buffer c
  unfolding flushed_to
  takeable-flushed k = record {
    canonical = λ e. canonical-of [] refl (omega arith);
    counted = refl;
    few = j.few;
    in_order = in_order;
    some = some;
    within = from-none;
    room = omega (arith, short);
  }

  -- a flush keeps N
  pub live-flushed : (k : ℕ) → (flushed_to s k).windows.live ≡ s.windows.live
  unfolding flushed_to
  live-flushed k = refl

  -- with a flush or without: what it asks for, that the counts can be taken back after it, and that it keeps N
  pub emptiable : (b : Option ℕ) → Aimed (removal_flushes s (counts_in c)) s card (Ok b) → Emptiable s card b
  emptiable None e = tt
  emptiable (Some k) e = (j.rule, j.size, e.1)

  pub takeable-emptied : (b : Option ℕ) → Aimed (removal_flushes s (counts_in c)) s card (Ok b) → Takeable (emptied s b).buffer c
  takeable-emptied None e = takeable-plain e
  takeable-emptied (Some k) e = takeable-flushed k

  pub live-emptied : (b : Option ℕ) → (emptied s b).windows.live ≡ s.windows.live
  live-emptied None = refl
  live-emptied (Some k) = live-flushed k
