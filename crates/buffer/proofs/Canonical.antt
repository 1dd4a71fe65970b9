-- The canonical form of a buffer: which buffers have it, and what the helper functions make of it.
use Rattle.lists.proofs.Prelude.{true, List, ◌≡◌, sym, ap, ap₂, ◌∙◌, ℕ, ◌+◌, ◌-◌, ◌<◌, ◌≤◌, add-one, arith, leb, eqb, length, set, length-set, length-take-le, take-append_seam, leb-true, eqb-true, every, and_left, and_right, every-from, refl}
use Rattle.lists.proofs.Shifts.{raised, lowered}
use Rattle.lists.proofs.Places.{length-insert, length_without, filled-insert, filled-without}
use Rattle.lists.proofs.Padding.{padded-form, padded-set}
use Rattle.postings.specs.declared.Posting.{Posting}
use Rattle.postings.specs.Order.{ordered}
use Rattle.postings.specs.Merge.{is_counted}
use Rattle.postings.proofs.Sums.{is-zero}
use Rattle.state.specs.declared.Buffer.{Buffer}
use Rattle.state.specs.declared.Windows.{Windows}
use Rattle.state.specs.Views.{buffered, buffer_of, padded, no_posting}
use Rattle.state.specs.Rules.{posting_rule, unused_posting, buffer_rule}
use Rattle.buffer.specs.Places.{inserted_at, dropped_at}
use Rattle.buffer.specs.Canonical.{Canonical}

-- a list put into a buffer is what it holds
pub buffered-of : (l : List Posting) → buffered (buffer_of l) ≡ l
buffered-of l = take-append_seam l _

-- an ordered list of at most 128 postings makes a canonical buffer
pub canonical-of : (l : List Posting) → ordered l ≡ true → length l ≤ 128 → Canonical (buffer_of l)
canonical-of l o h = record { short = h; in_order = rw (buffered-of l) o; clean = ap buffer_of (sym (buffered-of l)) }

-- the count of used places is the list's length
pub canonical-used : (b : Buffer) → Canonical b → length (buffered b) ≡ b.used
canonical-used b c = sym (ap (λ (x : Buffer). x.used) c.clean)

-- what refusal 1 lets through
module _ (w : Windows) (b : Buffer) (r : buffer_rule w b ≡ true) where
  -- so the buffer is canonical
  pub rule-canonical : length b.postings ≡ 128 → Canonical b
  unfolding buffer_rule
  rule-canonical e =
      let h : b.used ≤ 128 = leb-true b.used 128 (and_left _ _ r) in
      let s = and_right (leb b.used 128) _ r in
      let t = and_right (every (posting_rule w) (buffered b)) _ (and_right (ordered (buffered b)) _ s) in
      let u : b.used ≡ length (buffered b) = sym (length-take-le b.used b.postings (omega arith)) in
      let x : b.postings ≡ padded 128 no_posting (buffered b) = padded-form no_posting unused_posting unused 128 b.used b.postings e h t in
      record { short = h; in_order = and_left _ _ s; clean = λ k. record { used = u k; postings = x k } }
    where
      unused : (q : Posting) → unused_posting q ≡ true → q ≡ no_posting
      unused q f =
          let i : q.id ≡ 0 = eqb-true q.id 0 (and_left _ _ f) in
          let g = and_right (eqb q.id 0) _ f in
          let v : q.window ≡ 0 = eqb-true q.window 0 (and_left _ _ g) in
          let z = is-zero q.count (and_right (eqb q.window 0) _ g) in
          λ k. record { id = i k; window = v k; count = z k }

  -- and each posting counts
  pub rule-counts : every is_counted (buffered b) ≡ true
  unfolding buffer_rule posting_rule
  rule-counts =
      let t = and_left (every (posting_rule w) (buffered b)) _ (and_right (ordered (buffered b)) _ (and_right (leb b.used 128) _ r)) in
      every-from (posting_rule w) (posting_rule w) is_counted
      (λ q f g. and_left (is_counted q) _ (and_right (leb q.window w.last) _ (and_right (leb 1 q.window) _ (and_right (leb q.id 1023) _ f))))
      (buffered b) t t

-- ---- one place more, one less, one changed

-- a buffer of a count and an array
abbrev pub made : ℕ → List Posting → Buffer
made u xs = record { used = u; postings = xs }

module _ (l : List Posting) (k : ℕ) where
  inserted : (b : Buffer) → b ≡ buffer_of l → (p : Posting) → k ≤ length l → length l < 128 → made (b.used + 1) (set (raised b.used k b.postings) k p) ≡ buffer_of (inserted_at k p l)
  inserted b e p h f =
      rw e (ap₂ made (add-one (length l) ∙ sym (length-insert k p l)) (filled-insert 128 no_posting l k p h f))

  dropped : (b : Buffer) → b ≡ buffer_of l → k < length l → length l ≤ 128 → made (b.used - 1) (set (lowered k (b.used - 1) b.postings) (b.used - 1) no_posting) ≡ buffer_of (dropped_at k l)
  dropped b e h f =
      let n : length l - 1 ≡ length (dropped_at k l) = omega (arith, length_without k l h) in
      rw e (ap₂ made n (filled-without 128 no_posting l k h f))

  changed : (b : Buffer) → b ≡ buffer_of l → (p : Posting) → k < length l → made b.used (set b.postings k p) ≡ buffer_of (set l k p)
  changed b e p h = rw e (ap₂ made (sym (length-set l k p)) (padded-set no_posting 128 l _ k p refl h))

module _ (b : Buffer) (c : Canonical b) (k : ℕ) where
  -- a posting put in, the rest having moved up
  pub insert-made : (p : Posting) → k ≤ b.used → b.used < 128 → made (b.used + 1) (set (raised b.used k b.postings) k p) ≡ buffer_of (inserted_at k p (buffered b))
  insert-made p h f = let u = canonical-used b c in inserted (buffered b) k b c.clean p (omega arith) (omega arith)

  -- a posting dropped, the rest having moved down
  pub remove-made : k < b.used → made (b.used - 1) (set (lowered k (b.used - 1) b.postings) (b.used - 1) no_posting) ≡ buffer_of (dropped_at k (buffered b))
  remove-made h = let u = canonical-used b c in dropped (buffered b) k b c.clean (omega arith) (omega (arith, c.short))

  -- a posting in the place of another
  pub replace-made : (p : Posting) → k < b.used → made b.used (set b.postings k p) ≡ buffer_of (set (buffered b) k p)
  replace-made p h = let u = canonical-used b c in changed (buffered b) k b c.clean p (omega arith)
