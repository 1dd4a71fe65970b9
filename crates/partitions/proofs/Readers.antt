-- Laws of a reader: what it has still to come, posting by posting.
use Rattle.lists.proofs.Prelude.{true, cond, ◌&&◌, List, [], ◌∷◌, ◌++◌, map, ◌≡◌, refl, sym, ap, ap₂, ◌∙◌, ℕ, suc, ◌+◌, ◌-◌, ◌%◌, ◌<◌, ◌≤◌, arith, leb, ltb, length, get_or, take, drop, length-drop, length-take-le, lt-ltb, ltb-true, ltb-false, leb-true, eqb-true, by-test, and_left, and_right, never}
use Rattle.lists.proofs.Sections.{part-add}
use Rattle.postings.specs.declared.Posting.{Posting}
use Rattle.postings.specs.Pack.{posted}
use Rattle.card.specs.declared.Cursor.{Cursor}
use Rattle.card.specs.Cursors.{ahead, head_of, moved_of}
use Rattle.card.proofs.Cursors.{ahead_more, good-moved}
use Rattle.partitions.specs.declared.Reader.{Reader}
use Rattle.partitions.specs.Terms.{past_entry}
use Rattle.partitions.specs.Readers.{posted_by, postings_ahead, numbered, GoodReader, first_ahead, moved_reader}
use Rattle.partitions.proofs.Listed.{resumed, lists_by, resumed-more, resumed-most, ahead-entry, ahead_none, left-entry, good-entry}

-- the words under one identifier, and then as the entries say
group : (id : ℕ) (x : ℕ) (xs ys es : List ℕ)
    → posted_by id (suc (length xs)) (x ∷ (xs ++ ys)) es ≡ posted id x ∷ (map (posted id) xs ++ posted_by (get_or es 0 0) (get_or es 1 0) ys (drop 3 es))
unfolding posted_by
group id x [] ys es = refl
group id x (y ∷ xs) ys es =
    let e : suc (suc (length xs)) - 1 ≡ suc (length xs) = omega arith in
    rw (lt-ltb 1 (suc (suc (length xs))) (omega arith), e) (ap (λ (l : List Posting). posted id x ∷ l) (group id y xs ys es))

groups : (id n : ℕ) (xs ys es : List ℕ) → length xs ≡ n → 1 ≤ n
    → posted_by id n (xs ++ ys) es ≡ map (posted id) xs ++ posted_by (get_or es 0 0) (get_or es 1 0) ys (drop 3 es)
groups id n [] ys es e h = absurd (omega arith)
groups id n (x ∷ xs) ys es e h = rw (← e) (group id x xs ys es)

-- a reader at an entry has the postings of this entry and the later ones to come
module _ (xs : List ℕ) (total : ℕ) (fits : total ≤ length xs) where
  -- the posting words after the first so many
  abbrev from : ℕ → List ℕ
  from sum = take (total - sum) (drop sum xs)

  reads-one : (next sum i n f : ℕ) (es : List ℕ) → resumed total next sum (i ∷ n ∷ f ∷ es) ≡ true
      → posted_by (get_or es 0 0) (get_or es 1 0) (from (sum + n)) (drop 3 es) ≡ lists_by xs es
      → posted_by i n (from sum) es ≡ lists_by xs (i ∷ n ∷ f ∷ es)
  unfolding lists_by
  reads-one next sum i n f es e k =
      let r = resumed-more total next sum i n f es e in
      let m = resumed-most total (suc i) (sum + n) es r.1 in
      let q : total - sum ≡ n + (total - (sum + n)) = omega arith in
      let len : length (take n (drop sum xs)) ≡ n = length-take-le n (drop sum xs) (simp length-drop (omega arith)) in
      ap (λ (j : ℕ). posted_by i n (take j (drop sum xs)) es) q
      ∙ ap (λ (l : List ℕ). posted_by i n l es) (part-add xs sum n (total - (sum + n)))
      ∙ groups i n (take n (drop sum xs)) (from (sum + n)) es len r.0.some
      ∙ ap₂ (λ (j : ℕ) (l : List Posting). map (posted i) (take n (drop j xs)) ++ l) (sym r.0.starts) k

  -- and so has a reader that stands at any entry
  pub reads_on : (next sum i n f : ℕ) (es : List ℕ) → resumed total next sum (i ∷ n ∷ f ∷ es) ≡ true
      → posted_by i n (from sum) es ≡ lists_by xs (i ∷ n ∷ f ∷ es)
  unfolding resumed lists_by posted_by
  reads_on next sum i n f [] e =
      let p = (resumed-more total next sum i n f [] e).1 in
      let z : total - (sum + n) ≡ 0 = omega (arith, eqb-true (sum + n) total p) in
      reads-one next sum i n f [] e (rw z)
  reads_on next sum i n f (a ∷ []) e = never (resumed-more total next sum i n f (a ∷ []) e).1
  reads_on next sum i n f (a ∷ b ∷ []) e = never (resumed-more total next sum i n f (a ∷ b ∷ []) e).1
  reads_on next sum i n f (a ∷ b ∷ d ∷ es) e =
      reads-one next sum i n f (a ∷ b ∷ d ∷ es) e (reads_on (suc i) (sum + n) a b d es (resumed-more total next sum i n f (a ∷ b ∷ d ∷ es) e).1)

-- entries that keep their rule have small numbers
pub resumed-numbered : (total next sum : ℕ) (es : List ℕ) → resumed total next sum es ≡ true → numbered es ≡ true
unfolding resumed numbered
resumed-numbered total next sum [] e = refl
resumed-numbered total next sum (i ∷ []) e = never e
resumed-numbered total next sum (i ∷ n ∷ []) e = never e
resumed-numbered total next sum (i ∷ n ∷ f ∷ es) e =
    let a = and_left (leb next i && (leb i 1023 && _)) _ e in
    rw (and_left (leb i 1023) _ (and_right (leb next i) _ a)) (resumed-numbered total (suc i) (sum + n) es (and_right (leb next i && (leb i 1023 && _)) _ e))

module _ (W : List ℕ) where
  -- a reader at its end has none
  pub reader-none : (r : Reader) → r.postings.left ≡ 0 → postings_ahead W r ≡ []
  unfolding postings_ahead posted_by
  reader-none r e = rw (ahead_none W r.postings e)

  -- an entry's number is small, and so are those after it
  pub numbered_more : (e : Cursor) → 3 ≤ e.left → numbered (ahead W e) ≡ true → (head_of W e ≤ 1023) × (numbered (ahead W (past_entry W e)) ≡ true)
  unfolding numbered
  numbered_more e h q =
      let p = rw (ahead-entry W e h) at q in
      (leb-true _ _ (and_left (leb (head_of W e) 1023) _ p), and_right (leb (head_of W e) 1023) _ p)

  module _ (r : Reader) (h : 0 < r.postings.left) where
    abbrev tail : List Posting
    tail =
        cond (ltb 1 r.here) (posted_by r.id (r.here - 1) (ahead W (moved_of W r.postings)) (ahead W r.entries))
        (posted_by (get_or (ahead W r.entries) 0 0) (get_or (ahead W r.entries) 1 0) (ahead W (moved_of W r.postings)) (drop 3 (ahead W r.entries)))

    tail-moved : r.entries.left % 3 ≡ 0 → tail ≡ postings_ahead W (moved_reader W r)
    unfolding postings_ahead moved_reader
    tail-moved t =
        by-test (ltb 1 r.here) (λ e. rw e)
        (λ e. by-test (ltb 0 r.entries.left)
        (λ q. let l = ltb-true 0 r.entries.left q in rw (e, q, ahead-entry W r.entries (omega arith)))
        (λ q. let l = ltb-false 0 r.entries.left q in let z : r.entries.left ≡ 0 = omega arith in rw (e, q, ahead_none W r.entries z)))

    tail-split : postings_ahead W r ≡ first_ahead W r ∷ tail
    unfolding postings_ahead posted_by
    tail-split = rw (ahead_more W r.postings h)

    -- the first posting to come, and those of the moved reader
    pub reader-more : GoodReader W r → postings_ahead W r ≡ first_ahead W r ∷ postings_ahead W (moved_reader W r)
    reader-more g = tail-split ∙ ap (λ (l : List Posting). first_ahead W r ∷ l) (tail-moved g.threes)

    -- the moved reader is good
    pub good-reader-more : GoodReader W r → GoodReader W (moved_reader W r)
    unfolding moved_reader
    good-reader-more g =
        let p = good-moved W r.postings h g.postings in
        by-test (ltb 1 r.here) (λ e. rw e (record { postings = p; entries = g.entries; threes = g.threes; numbers = g.numbers; small = g.small }))
        (λ e. by-test (ltb 0 r.entries.left)
        (λ q. let l = ltb-true 0 r.entries.left q in let t = g.threes in
        let three : 3 ≤ r.entries.left = omega arith in
        let n = numbered_more r.entries three g.numbers in
        rw (e, q) (record { postings = p; entries = good-entry W r.entries three g.entries; threes = omega (arith, left-entry W r.entries three); numbers = n.1; small = n.0 }))
        (λ q. rw (e, q) (record { postings = p; entries = g.entries; threes = g.threes; numbers = g.numbers; small = omega arith })))

    -- the same of a reader that is told by an equation
    pub reader-step : GoodReader W r → (s : Reader) → s ≡ moved_reader W r
        → (s ≡ moved_reader W r) × (postings_ahead W r ≡ first_ahead W r ∷ postings_ahead W s) × GoodReader W s
    reader-step g s q = (q, rw q (reader-more g), rw q (good-reader-more g))
