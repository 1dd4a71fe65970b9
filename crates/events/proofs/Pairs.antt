-- One count more of an identifier in the open window: its buffered count lies between 1 and the window's events, so the sum fits and is not 0.
use Rattle.lists.proofs.Prelude.{true, false, ◌≡◌, refl, sym, ◌∙◌, ℕ, zero, suc, ◌+◌, ◌<◌, ◌≤◌, arith, ℤ, pos, negsuc, any, by-test, every-at}
use Rattle.postings.specs.Order.{same_pair}
use Rattle.postings.specs.Merge.{is_zero, put, nonzero}
use Rattle.postings.specs.Sums.{sum, above}
use Rattle.postings.proofs.Order.{same-pair}
use Rattle.postings.proofs.Merge.{sum-none}
use Rattle.state.specs.declared.Windows.{Windows}
use Rattle.state.specs.declared.Buffer.{Buffer}
use Rattle.state.specs.Views.{buffered, no_posting}
use Rattle.state.specs.Rules.{posting_rule, buffer_rule}
use Rattle.state.proofs.Kept.{posting-kept, buffer-kept}
use Rattle.buffer.specs.Places.{pair, places_before, posting_at}
use Rattle.buffer.specs.Canonical.{Addable}
use Rattle.buffer.proofs.Canonical.{rule-counts}
use Rattle.buffer.proofs.Ranks.{rank-there}
use Rattle.buffer.proofs.Puts.{sum-there, added-kept}

-- a count above 0 is what it counts
positive : (z : ℤ) → 1 ≤ above z → z ≡ pos (above z)
positive (pos m) h = refl
positive (negsuc m) h = absurd (omega arith)

-- a number above 0 is no count of 0
pub some-count : (m : ℕ) → 1 ≤ m → is_zero (pos m) ≡ false
some-count zero h = absurd (omega arith)
some-count (suc m) h = refl

-- a sum that counts at most n
record Within (z : ℤ) (n : ℕ) : Type 0 where
  size : ℕ
  is : z ≡ pos size
  most : size ≤ n

module _ (w : Windows) (b : Buffer) (i : ℕ) (rule : buffer_rule w b ≡ true) where
  -- what is buffered of the pair is at most the window's events
  own : Within (sum (buffered b) i w.current) w.events
  own =
      let l = buffered b in
      let p = pair i w.current in
      let k = buffer-kept w b rule in
      by-test (any (same_pair p) l)
      (λ y. let t = rank-there p l no_posting k.order y in
      let q = posting_at (places_before p l) l in
      let f = posting-kept w q (every-at (posting_rule w) l no_posting k.rules (places_before p l) t.0) in
      let o = f.own (sym (same-pair p q t.1).1) in
      record { size = above q.count; is = sum-there p l k.order y ∙ positive q.count o.0; most = o.1 })
      (λ n. record { size = 0; is = sum-none p l n; most = omega arith })

  -- so the pair can be added to
  pub pair-addable : w.events < 32767 → (any (same_pair (pair i w.current)) (buffered b) ≡ false → b.used < 128) → Addable b (pair i w.current)
  pair-addable h room =
      record {
        counted = rule-counts w b rule;
        amount = refl;
        room = room;
        within = rw own.is (omega (arith, own.most));
      }

  -- and no count comes to 0
  pub pair-kept : nonzero (put (pair i w.current) (buffered b)) ≡ put (pair i w.current) (buffered b)
  pair-kept =
      let k = buffer-kept w b rule in
      added-kept (pair i w.current) (buffered b) k.order (rule-counts w b rule) (rw own.is (some-count (1 + own.size) (omega arith)))
