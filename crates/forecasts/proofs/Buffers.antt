-- The buffer keeps its rule when a window is opened or closed and when an event is counted.
use Rattle.lists.proofs.Prelude.{Bool, true, false, cond, List, [], ◌∷◌, ◌≡◌, refl, sym, ℕ, suc, ◌+◌, ◌-◌, ◌<◌, ◌≤◌, arith, eqb, leb, ℤ, pos, negsuc, nat_abs, ◌+ℤ◌, length, eqb-true, eqb-false, any, every, by-test, and_left, and_right, and_both, every-from}
use Rattle.postings.specs.declared.Posting.{Posting}
use Rattle.postings.specs.Order.{precedes, same_pair, ordered}
use Rattle.postings.specs.Merge.{counting, put, is_zero}
use Rattle.postings.specs.Sums.{above}
use Rattle.postings.proofs.Order.{same-pair}
use Rattle.postings.proofs.Merge.{put-ordered, length-put, length-put-there}
use Rattle.state.specs.declared.Windows.{Windows}
use Rattle.state.specs.declared.Buffer.{Buffer}
use Rattle.state.specs.Views.{buffered, buffer_of}
use Rattle.state.specs.Rules.{posting_rule, buffer_rule}
use Rattle.state.proofs.Kept.{PostingKept, posting-kept, posting-rule, BufferKept, buffer-kept}
use Rattle.state.proofs.Forms.{buffer-rule}
use Rattle.buffer.specs.Places.{pair}
use Rattle.events.proofs.Pairs.{some-count}

-- postings that pass t, with p put in, pass u: those that stay, p by itself, and p added to what is there of its pair
put-passes : (t u : Posting → Bool) (p : Posting) → ((q : Posting) → t q ≡ true → u q ≡ true) → u p ≡ true
    → ((q : Posting) → same_pair p q ≡ true → t q ≡ true → u (counting q (p.count +ℤ q.count)) ≡ true) → (l : List Posting) → every t l ≡ true → every u (put p l) ≡ true
put-passes t u p stay own join [] e = and_both (u p) true own e
put-passes t u p stay own join (q ∷ l) e =
    let a = and_left (t q) _ e in
    let b = and_right (t q) _ e in
    let rest : every u l ≡ true = every-from t t u (λ r x y. stay r x) l b b in
    by-test (same_pair p q)
    (λ y. rw y (and_both (u (counting q (p.count +ℤ q.count))) _ (join q y a) rest))
    (λ n. by-test (precedes p q)
    (λ y. rw (n, y) (and_both (u p) _ own (and_both (u q) _ (stay q a) rest)))
    (λ m. rw (n, m) (and_both (u q) _ (stay q a) (put-passes t u p stay own join l b))))

-- one more than a count above 0
record Grown (z : ℤ) : Type 0 where
  counts : is_zero (pos 1 +ℤ z) ≡ false
  size : nat_abs (pos 1 +ℤ z) ≡ suc (above z)
  more : above (pos 1 +ℤ z) ≡ suc (above z)

grown : (z : ℤ) → 1 ≤ above z → Grown z
grown (pos m) h = record { counts = some-count (1 + m) (omega arith); size = omega arith; more = omega arith }
grown (negsuc m) h = absurd (omega arith)

-- the window numbers after an event
abbrev pub one_event_more : Windows → Windows
one_event_more w = record { last = w.last; live = w.live; current = w.current; events = suc w.events }

module _ (w : Windows) (b : Buffer) (rule : buffer_rule w b ≡ true) where
  -- an event of identifier i in the open window
  pub buffer-counted : (i : ℕ) → i ≤ 1023 → 1 ≤ w.current → w.current ≤ w.last → w.events < 32767
      → (any (same_pair (pair i w.current)) (buffered b) ≡ false → length (buffered b) < 128) → length (buffered b) ≤ 128
      → buffer_rule (one_event_more w) (buffer_of (put (pair i w.current) (buffered b))) ≡ true
  buffer-counted i small some given left room few =
      buffer-rule (one_event_more w) (put (pair i w.current) (buffered b))
      (by-test (any (same_pair (pair i w.current)) (buffered b))
      (λ y. omega (arith, length-put-there (pair i w.current) (buffered b) k.order y))
      (λ n. omega (arith, length-put (pair i w.current) (buffered b), room n)))
      (put-ordered (pair i w.current) (buffered b) k.order)
      (put-passes (posting_rule w) (posting_rule (one_event_more w)) (pair i w.current) stay own join (buffered b) k.rules)
    where
      k : BufferKept w b
      k = buffer-kept w b rule

      stay : (q : Posting) → posting_rule w q ≡ true → posting_rule (one_event_more w) q ≡ true
      stay q e =
          let f = posting-kept w q e in
          posting-rule (one_event_more w) q
          (record { id = f.id; some = f.some; given = f.given; counts = f.counts; small = f.small; own = λ z. let o = f.own z in (o.0, omega (arith, o.1)) })

      own : posting_rule (one_event_more w) (pair i w.current) ≡ true
      own = posting-rule (one_event_more w) (pair i w.current) (record { id = small; some = some; given = given; counts = refl; small = omega arith; own = λ z. (omega arith, omega arith) })

      join : (q : Posting) → same_pair (pair i w.current) q ≡ true → posting_rule w q ≡ true → posting_rule (one_event_more w) (counting q (pos 1 +ℤ q.count)) ≡ true
      join q y e =
          let f = posting-kept w q e in
          let o = f.own (sym (same-pair (pair i w.current) q y).1) in
          let g = grown q.count o.0 in
          posting-rule (one_event_more w) (counting q (pos 1 +ℤ q.count))
          (record { id = f.id; some = f.some; given = f.given; counts = g.counts; small = omega (arith, g.size, o.1); own = λ z. (omega (arith, g.more), omega (arith, g.more, o.1)) })

  -- with other window numbers, where each posting keeps its rule
  renumbered : (v : Windows) → ((p : Posting) → PostingKept w p → PostingKept v p) → buffer_rule v b ≡ true
  unfolding buffer_rule
  renumbered v each =
      let a = and_right (leb b.used 128) _ rule in
      let c = and_right (ordered (buffered b)) _ a in
      let kept = and_left (every (posting_rule w) (buffered b)) _ c in
      and_both (leb b.used 128) _ (and_left (leb b.used 128) _ rule)
      (and_both (ordered (buffered b)) _ (and_left (ordered (buffered b)) _ a)
      (and_both (every (posting_rule v) (buffered b)) _
      (every-from (posting_rule w) (posting_rule w) (posting_rule v) (λ p x y. posting-rule v p (each p (posting-kept w p x))) (buffered b) kept kept)
      (and_right (every (posting_rule w) (buffered b)) _ c)))

  -- a window is opened, with the number after the last
  pub buffer-opened : (live : ℕ) → buffer_rule (record { last = suc w.last; live = live; current = suc w.last; events = 0 }) b ≡ true
  buffer-opened live =
      renumbered _ (λ p f. record {
        id = f.id;
        some = f.some;
        given = omega (arith, f.given);
        counts = f.counts;
        small = f.small;
        own = λ z. absurd (omega (arith, f.given));
      })

  -- the open window is closed, and gives its number back where it has no events
  pub buffer-closed : (live : ℕ) → w.current ≡ w.last → buffer_rule (record { last = cond (eqb w.events 0) (w.last - 1) w.last; live = live; current = 0; events = 0 }) b ≡ true
  buffer-closed live number =
      renumbered _ (λ p f. record {
        id = f.id;
        some = f.some;
        given = given p f;
        counts = f.counts;
        small = f.small;
        own = λ z. absurd (omega (arith, f.some));
      })
    where
      given : (p : Posting) → PostingKept w p → p.window ≤ cond (eqb w.events 0) (w.last - 1) w.last
      given p f =
          by-test (eqb w.events 0)
          (λ y. rw y
          (by-test (eqb p.window w.current)
          (λ z. let o = f.own (eqb-true _ _ z) in absurd (omega (arith, o.0, o.1, eqb-true w.events 0 y)))
          (λ n. omega (arith, f.given, eqb-false p.window w.current n))))
          (λ n. rw n f.given)
