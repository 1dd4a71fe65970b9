-- The entries of a partition word by word: their rule, and the postings that they lead to.
use Rattle.lists.proofs.Prelude.{Bool, true, false, ◌&&◌, and-false, List, [], ◌∷◌, ◌++◌, map, append-nil, ◌≡◌, refl, sym, ap, ap₂, ◌∙◌, ℕ, zero, suc, ◌+◌, ◌-◌, ◌*◌, ◌<◌, ◌≤◌, add-one, arith, eqb, leb, ltb, length, get_or, take, drop, leb-true, eqb-true, le-leb, every, total_by, joined, rising, up_to, same, by-test, and_left, and_right, every-from, keep_append, never}
use Rattle.lists.proofs.Sections.{and-absorb, drop-three}
use Rattle.postings.specs.declared.Posting.{Posting}
use Rattle.postings.specs.Pack.{posted}
use Rattle.postings.specs.Sums.{under}
use Rattle.card.specs.declared.Cursor.{Cursor}
use Rattle.card.specs.Cursors.{ahead, ahead_at, Good, head_of, moved_of}
use Rattle.card.proofs.Cursors.{ahead_more, good-moved}
use Rattle.partitions.specs.declared.Entry.{Entry}
use Rattle.partitions.specs.Reading.{field, entry_number, entry_count, entry_start, posting_words, list_of, decode}
use Rattle.partitions.specs.Formed.{ascending, running, entries_rule}
use Rattle.partitions.proofs.Lookup.{under-own, under-other}
use Rattle.partitions.specs.Terms.{term_words, term_rule, past_entry, entry_ahead}

-- the rule of the entries resumed: numbers from `next` on, `sum` postings before, and `total` in all
unfoldable pub resumed : ℕ → ℕ → ℕ → List ℕ → Bool
resumed total next sum [] = eqb sum total
resumed total next sum (i ∷ []) = false
resumed total next sum (i ∷ n ∷ []) = false
resumed total next sum (i ∷ n ∷ f ∷ es) = term_rule next sum i n f && resumed total (suc i) (sum + n) es

-- entries of a partition of so many postings: the rule resumed somewhere
pub record Resumes (total : ℕ) (es : List ℕ) : Type 0 where
  pub next : ℕ
  pub sum : ℕ
  pub rule : resumed total next sum es ≡ true

-- the postings that entries lead to, among the posting words xs
unfoldable pub lists_by : List ℕ → List ℕ → List Posting
lists_by xs [] = []
lists_by xs (i ∷ []) = []
lists_by xs (i ∷ n ∷ []) = []
lists_by xs (i ∷ n ∷ f ∷ es) = map (posted i) (take n (drop f xs)) ++ lists_by xs es

-- the tests of a first entry and of the others, apart
arrange : (a b c d x y z v w : Bool) → ((a && x) && ((b && y) && ((c && z) && ((d && v) && w)))) ≡ ((a && (b && (c && d))) && (x && (y && (z && (v && w)))))
arrange false b c d x y z v w = refl
arrange true false c d x y z v w = and-false x
arrange true true false d x y z v w = rw (and-false y, and-false x)
arrange true true true false x y z v w = rw (and-false z, and-false y, and-false x)
arrange true true true true x y z v w = refl

from_zero : (l : List ℕ) → every (leb 0) l ≡ true
from_zero [] = refl
from_zero (x ∷ l) = rw (le-leb 0 x (omega arith)) (from_zero l)

-- numbers above i are above what is at most i
from-lower : (a i : ℕ) (l : List ℕ) → leb a i ≡ true → every (ltb i) l ≡ true → every (leb a) l ≡ true
from-lower a i l e f =
    every-from (ltb i) (ltb i) (leb a) (λ x p q. le-leb a x (omega (arith, leb-true a i e, leb-true (suc i) x p))) l f f

module _ (c : List ℕ) where
  -- the words of n entries from entry j on
  abbrev from : ℕ → ℕ → List ℕ
  from j n = take (3 * n) (drop (8 + 3 * j) c)

  from_more : (j n : ℕ) → 8 + 3 * (j + suc n) ≤ length c → from j (suc n) ≡ entry_number c j ∷ entry_count c j ∷ entry_start c j ∷ from (suc j) n
  from_more j n h =
      let e : 3 * suc n ≡ suc (suc (suc (3 * n))) = omega arith in
      let a : 1 + (8 + 3 * j) ≡ 9 + 3 * j = omega arith in
      let b : 2 + (8 + 3 * j) ≡ 10 + 3 * j = omega arith in
      let d : 3 + (8 + 3 * j) ≡ 8 + 3 * suc j = omega arith in
      ap (λ (l : List ℕ). take (3 * suc n) l) (drop-three c (8 + 3 * j) 0 (omega arith))
      ∙ ap (λ (k : ℕ). take k (get_or c (8 + 3 * j) 0 ∷ get_or c (1 + (8 + 3 * j)) 0 ∷ get_or c (2 + (8 + 3 * j)) 0 ∷ drop (3 + (8 + 3 * j)) c)) e
      ∙ ap (λ (k : ℕ). get_or c (8 + 3 * j) 0 ∷ get_or c k 0 ∷ get_or c (2 + (8 + 3 * j)) 0 ∷ take (3 * n) (drop (3 + (8 + 3 * j)) c)) a
      ∙ ap (λ (k : ℕ). get_or c (8 + 3 * j) 0 ∷ get_or c (9 + 3 * j) 0 ∷ get_or c k 0 ∷ take (3 * n) (drop (3 + (8 + 3 * j)) c)) b
      ∙ ap (λ (k : ℕ). get_or c (8 + 3 * j) 0 ∷ get_or c (9 + 3 * j) 0 ∷ get_or c (10 + 3 * j) 0 ∷ take (3 * n) (drop k c)) d

  -- the rule of n entries from entry j on, with numbers from `next` on and `sum` postings before
  abbrev rules : ℕ → ℕ → ℕ → ℕ → Bool
  rules next sum j n =
      (every (leb next) (map (entry_number c) (rising j n)) && ascending (map (entry_number c) (rising j n)))
      && (every (λ k. leb (entry_number c k) 1023) (rising j n)
      && (every (λ k. leb 1 (entry_count c k)) (rising j n)
      && (same (map (entry_start c) (rising j n)) (running sum (map (entry_count c) (rising j n)))
      && eqb (sum + total_by (entry_count c) (rising j n)) (field c 1))))

  rules-resumed : (next sum j n : ℕ) → 8 + 3 * (j + n) ≤ length c → rules next sum j n ≡ resumed (field c 1) next sum (from j n)
  unfolding resumed rising
  rules-resumed next sum j zero h = let z : sum + 0 ≡ sum = omega arith in ap (λ (x : ℕ). eqb x (field c 1)) z
  rules-resumed next sum j (suc n) h =
      let i = entry_number c j in
      let k = entry_count c j in
      let f = entry_start c j in
      let ns = map (entry_number c) (rising (suc j) n) in
      let more = total_by (entry_count c) (rising (suc j) n) in
      let q : sum + (k + more) ≡ (sum + k) + more = omega arith in
      let s = same (map (entry_start c) (rising (suc j) n)) (running (sum + k) (map (entry_count c) (rising (suc j) n))) in
      let y = every (λ m. leb (entry_number c m) 1023) (rising (suc j) n) in
      let z = every (λ m. leb 1 (entry_count c m)) (rising (suc j) n) in
      ap₂ (λ (t : Bool) (x : ℕ). t && ((leb i 1023 && y) && ((leb 1 k && z) && ((eqb f sum && s) && eqb x (field c 1)))))
      (and-absorb (leb next i) (every (leb next) ns) (every (ltb i) ns) (ascending ns) (λ a b. from-lower next i ns a b)) q
      ∙ arrange (leb next i) (leb i 1023) (leb 1 k) (eqb f sum) (every (ltb i) ns && ascending ns) y z s (eqb ((sum + k) + more) (field c 1))
      ∙ ap (λ (t : Bool). term_rule next sum i k f && t) (rules-resumed (suc i) (sum + k) (suc j) n (omega arith))
      ∙ sym (ap (resumed (field c 1) next sum) (from_more j n h))

  module _ (h : 8 + 3 * field c 0 ≤ length c) where
    -- the rule of all entries is the rule resumed at the first
    pub entries-resumed : entries_rule c ≡ resumed (field c 1) 0 0 (term_words c)
    entries-resumed =
        let ns = map (entry_number c) (up_to (field c 0)) in
        let t = total_by (entry_count c) (up_to (field c 0)) in
        let z : t ≡ 0 + t = omega arith in
        ap₂ (λ (b : Bool) (x : ℕ). (b && ascending ns)
        && (every (λ k. leb (entry_number c k) 1023) (up_to (field c 0))
        && (every (λ k. leb 1 (entry_count c k)) (up_to (field c 0))
        && (same (map (entry_start c) (up_to (field c 0))) (running 0 (map (entry_count c) (up_to (field c 0)))) && eqb x (field c 1)))))
        (sym (from_zero ns)) z
        ∙ rules-resumed 0 0 0 (field c 0) (omega arith)

    -- the postings of a content are those that its entries lead to
    pub decode-lists : decode c ≡ lists_by (posting_words c) (term_words c)
    unfolding decode rising lists_by
    decode-lists = lists-from 0 (field c 0) (omega arith)
      where
        lists-from : (j n : ℕ) → 8 + 3 * (j + n) ≤ length c → joined (map (list_of c) (rising j n)) ≡ lists_by (posting_words c) (from j n)
        lists-from j zero l = refl
        lists-from j (suc n) l =
            ap (λ (r : List Posting). list_of c j ++ r) (lists-from (suc j) n (omega arith)) ∙ sym (ap (lists_by (posting_words c)) (from_more j n l))

-- what an entry's rule says
pub record TermFacts (next sum i n f : ℕ) : Type 0 where
  pub above : next ≤ i
  pub small : i ≤ 1023
  pub some : 1 ≤ n
  pub starts : f ≡ sum

-- an entry that keeps its rule
pub term-facts : (next sum i n f : ℕ) → term_rule next sum i n f ≡ true → TermFacts next sum i n f
term-facts next sum i n f e =
    let a = and_right (leb next i) _ e in
    let b = and_right (leb i 1023) _ a in
    record {
      above = leb-true _ _ (and_left (leb next i) _ e);
      small = leb-true _ _ (and_left (leb i 1023) _ a);
      some = leb-true _ _ (and_left (leb 1 n) _ b);
      starts = eqb-true _ _ (and_right (leb 1 n) _ b);
    }

module _ (total : ℕ) where
  -- the rule of a first entry, and the rule resumed after it
  pub resumed-more : (next sum i n f : ℕ) (es : List ℕ) → resumed total next sum (i ∷ n ∷ f ∷ es) ≡ true
      → TermFacts next sum i n f × (resumed total (suc i) (sum + n) es ≡ true)
  unfolding resumed
  resumed-more next sum i n f es e =
      (term-facts next sum i n f (and_left (term_rule next sum i n f) _ e), and_right (term_rule next sum i n f) _ e)

  -- the sum of the counts before is at most that of all
  pub resumed-most : (next sum : ℕ) (es : List ℕ) → resumed total next sum es ≡ true → sum ≤ total
  unfolding resumed
  resumed-most next sum [] e = omega (arith, eqb-true sum total e)
  resumed-most next sum (i ∷ []) e = never e
  resumed-most next sum (i ∷ n ∷ []) e = never e
  resumed-most next sum (i ∷ n ∷ f ∷ es) e =
      let r = resumed-more next sum i n f es e in omega (arith, resumed-most (suc i) (sum + n) es r.1)

  -- of equal entries
  pub resumes-at : {es fs : List ℕ} → es ≡ fs → Resumes total es → Resumes total fs
  resumes-at {es} {fs} q r = record { next = r.next; sum = r.sum; rule = ap (resumed total r.next r.sum) (sym q) ∙ r.rule }

  -- after one entry
  pub resumes-more : (i n f : ℕ) (es : List ℕ) → Resumes total (i ∷ n ∷ f ∷ es) → Resumes total es
  resumes-more i n f es r = record { next = suc i; sum = r.sum + n; rule = (resumed-more r.next r.sum i n f es r.rule).1 }

  -- an entry's postings are among those that there are
  pub resumes-room : (i n f : ℕ) (es : List ℕ) → Resumes total (i ∷ n ∷ f ∷ es) → f + n ≤ total
  resumes-room i n f es r =
      let s = resumed-more r.next r.sum i n f es r.rule in
      omega (arith, s.0.starts, resumed-most (suc i) (r.sum + n) es s.1)

  -- a first entry that breaks its rule, one that keeps it, and no entry any more
  pub resumed-fails : (next sum i n f : ℕ) (es : List ℕ) → term_rule next sum i n f ≡ false → resumed total next sum (i ∷ n ∷ f ∷ es) ≡ false
  unfolding resumed
  resumed-fails next sum i n f es e = ap (λ (t : Bool). t && resumed total (suc i) (sum + n) es) e

  pub resumed-step : (next sum i n f : ℕ) (es : List ℕ) → term_rule next sum i n f ≡ true → resumed total next sum (i ∷ n ∷ f ∷ es) ≡ resumed total (i + 1) (sum + n) es
  unfolding resumed
  resumed-step next sum i n f es e =
      ap (λ (t : Bool). t && resumed total (suc i) (sum + n) es) e ∙ ap (λ (k : ℕ). resumed total k (sum + n) es) (sym (add-one i))

  pub resumed-done : (next sum : ℕ) (es : List ℕ) → es ≡ [] → resumed total next sum es ≡ eqb sum total
  unfolding resumed
  resumed-done next sum es e = rw e

module _ (xs : List ℕ) where
  -- no entries lead to no postings
  pub lists-none : (es : List ℕ) → es ≡ [] → lists_by xs es ≡ []
  unfolding lists_by
  lists-none es q = rw q

  -- an entry of another number adds nothing
  pub under-passed : (id i n f : ℕ) (es : List ℕ) → (i ≡ id → ⊥) → under id (lists_by xs (i ∷ n ∷ f ∷ es)) ≡ under id (lists_by xs es)
  unfolding lists_by
  under-passed id i n f es h =
      keep_append (λ p. eqb p.id id) (map (posted i) (take n (drop f xs))) (lists_by xs es)
      ∙ ap (λ (l : List Posting). l ++ under id (lists_by xs es)) (under-other i id (take n (drop f xs)) h)

  -- entries of higher numbers have nothing
  under-higher : (id total next sum : ℕ) (es : List ℕ) → id < next → resumed total next sum es ≡ true → under id (lists_by xs es) ≡ []
  unfolding lists_by resumed
  under-higher id total next sum [] h e = refl
  under-higher id total next sum (i ∷ []) h e = refl
  under-higher id total next sum (i ∷ n ∷ []) h e = refl
  under-higher id total next sum (i ∷ n ∷ f ∷ es) h e =
      let r = resumed-more total next sum i n f es e in
      let a = r.0.above in
      under-passed id i n f es (λ q. omega arith) ∙ under-higher id total (suc i) (sum + n) es (omega arith) r.1

  -- the entry of the number itself has all
  pub under-found : (total id i n f : ℕ) (es : List ℕ) → i ≡ id → Resumes total (i ∷ n ∷ f ∷ es) → under id (lists_by xs (i ∷ n ∷ f ∷ es)) ≡ map (posted id) (take n (drop f xs))
  unfolding lists_by
  under-found total id i n f es q r =
      let l = map (posted i) (take n (drop f xs)) in
      let s = resumed-more total r.next r.sum i n f es r.rule in
      rw (← q)
      (keep_append (λ p. eqb p.id i) l (lists_by xs es)
      ∙ ap₂ (λ (a b : List Posting). a ++ b) (under-own i (take n (drop f xs))) (under-higher i total (suc i) (r.sum + n) es (omega arith) s.1)
      ∙ append-nil l)

-- a moved cursor has one word fewer to come
left-moved : (W : List ℕ) (e : Cursor) → (moved_of W e).left ≡ e.left - 1
left-moved W e = by-test (eqb e.word 1022 && ltb 1 e.left) (λ y. rw y) (λ y. rw y)

-- the entry at a cursor
module _ (W : List ℕ) (e : Cursor) (h : 3 ≤ e.left) where
  left-second : 0 < (moved_of W e).left
  left-second = omega (arith, left-moved W e)

  left-third : 0 < (moved_of W (moved_of W e)).left
  left-third = omega (arith, left-moved W e, left-moved W (moved_of W e))

  -- three words fewer are to come past it
  pub left-entry : (past_entry W e).left ≡ e.left - 3
  left-entry = omega (arith, left-moved W e, left-moved W (moved_of W e), left-moved W (moved_of W (moved_of W e)))

  -- its words, and those past it
  pub ahead-entry : ahead W e ≡ (entry_ahead W e).number ∷ (entry_ahead W e).count ∷ (entry_ahead W e).first ∷ ahead W (past_entry W e)
  ahead-entry =
      ahead_more W e (omega arith)
      ∙ ap (λ (l : List ℕ). head_of W e ∷ l)
      (ahead_more W (moved_of W e) left-second ∙ ap (λ (l : List ℕ). head_of W (moved_of W e) ∷ l) (ahead_more W (moved_of W (moved_of W e)) left-third))

  -- the second and the third word of an entry, for cursors that are told by an equation
  module _ (g : Good W e) where
    good-second : Good W (moved_of W e)
    good-second = good-moved W e (omega arith) g

    good-third : Good W (moved_of W (moved_of W e))
    good-third = good-moved W (moved_of W e) left-second good-second

    pub second_word : (c : Cursor) → c ≡ moved_of W e → (0 < c.left) × Good W c
    second_word c q = rw q (left-second, good-second)

    pub third-word : (c : Cursor) → c ≡ moved_of W (moved_of W e) → (0 < c.left) × Good W c
    third-word c q = rw q (left-third, good-third)

    -- the cursor past it is good
    pub good-entry : Good W (past_entry W e)
    good-entry = good-moved W (moved_of W (moved_of W e)) left-third good-third

-- no word is ahead of a cursor that has none to come
pub ahead_none : (W : List ℕ) (e : Cursor) → e.left ≡ 0 → ahead W e ≡ []
unfolding ahead_at
ahead_none W e h = rw h

-- what is known of an entry that was read at a cursor
pub record Passed (W : List ℕ) (e : Cursor) (x : Entry) : Type 0 where
  pub words : ahead W e ≡ x.number ∷ x.count ∷ x.first ∷ ahead W x.rest
  pub good : Good W x.rest
  pub left : x.rest.left ≡ e.left - 3

-- an entry told by an equation
pub entry-passed : (W : List ℕ) (e : Cursor) → 3 ≤ e.left → Good W e → (x : Entry) → x ≡ entry_ahead W e → Passed W e x
entry-passed W e h g x q = rw q (record { words = ahead-entry W e h; good = good-entry W e h g; left = left-entry W e h })
