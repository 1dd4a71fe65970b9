-- Where entries and postings of a partition begin, and what is known there.
use Rattle.lists.proofs.Prelude.{Bool, true, false, ◌&&◌, List, ◌∷◌, map, ◌≡◌, sym, ap, ap₂, ◌∙◌, ℕ, zero, suc, ◌+◌, ◌-◌, ◌*◌, ◌<◌, ◌≤◌, arith, length, take, drop, length-drop, drop-drop, length-take-le, never}
use Rattle.postings.specs.Pack.{posted}
use Rattle.postings.specs.Sums.{under}
use Rattle.state.specs.declared.Partition.{Partition}
use Rattle.card.specs.declared.Cursor.{Cursor}
use Rattle.card.specs.Chains.{blocks_for, chain, chain_rule, content}
use Rattle.card.specs.Cursors.{word_in, Chained, ahead, Good}
use Rattle.card.proofs.Cursors.{length-ahead}
use Rattle.card.proofs.Seeking.{rule-chained}
use Rattle.partitions.specs.declared.Entry.{Entry}
use Rattle.partitions.specs.declared.Reader.{Reader}
use Rattle.partitions.specs.Reading.{field, chain_of, posting_words, postings_of}
use Rattle.partitions.specs.Formed.{header_rule, entries_rule, partition_rule}
use Rattle.partitions.specs.Terms.{EntriesAt, term_words, Readable}
use Rattle.partitions.specs.Readers.{posted_by, postings_ahead, GoodReader}
use Rattle.partitions.proofs.Lookup.{rule-chain, rule-header, rule-entries}
use Rattle.partitions.proofs.Headers.{first_word, header-room}
use Rattle.partitions.proofs.Listed.{resumed, Resumes, lists_by, entries-resumed, decode-lists, resumed-more, resumes-at, resumes-room, under-found, Passed}
use Rattle.partitions.proofs.Readers.{reads_on, resumed-numbered}

-- a chain that keeps the rule has a block
pub rule-some : (W : List ℕ) (limit b n : ℕ) → chain_rule W limit b n ≡ true → 0 < n
unfolding chain_rule
rule-some W limit b zero e = never e
rule-some W limit b (suc n) e = omega arith

-- the rule of a partition, by the first part of it that fails
module _ (W : List ℕ) (limit : ℕ) (p : Partition) where
  pub fails-chain : chain_rule W limit p.first (blocks_for p.length) ≡ false → partition_rule W limit p ≡ false
  unfolding partition_rule
  fails-chain e = rw e

  module _ (g : chain_rule W limit p.first (blocks_for p.length) ≡ true) where
    pub fails-header : header_rule p (content W (chain_of W p)) ≡ false → partition_rule W limit p ≡ false
    unfolding partition_rule
    fails-header e = ap₂ (λ (a b : Bool). a && (b && entries_rule (content W (chain_of W p)))) g e

    pub leaves-entries : header_rule p (content W (chain_of W p)) ≡ true → partition_rule W limit p ≡ entries_rule (content W (chain_of W p))
    unfolding partition_rule
    leaves-entries e = ap₂ (λ (a b : Bool). a && (b && entries_rule (content W (chain_of W p)))) g e

  -- a partition that keeps the rule may be read
  pub rule-readable : length W ≡ 1024 * limit → limit ≤ 4096 → partition_rule W limit p ≡ true → Readable W p
  rule-readable l f e =
      record {
        chained = rule-chained W limit p.first (blocks_for p.length) l f (rule-chain W limit p e);
        header = rule-header W limit p e;
        entries = rule-entries W limit p e;
      }

module _ (W : List ℕ) (p : Partition) (g : Chained W p.first (blocks_for p.length)) (h : header_rule p (content W (chain_of W p)) ≡ true) where
  abbrev held : List ℕ
  held = content W (chain_of W p)

  -- a word of the header, as the card has it
  pub header-word : (j x : ℕ) → j < 1023 → x ≡ word_in W p.first j → x ≡ field held j
  header-word j x l q = q ∙ sym (first_word W p.first (blocks_for p.length) g j (header-room W p g h).some l)

  -- the cursor sought at the entries
  pub entries_at : (terms n : ℕ) → terms ≡ word_in W p.first 0 → n ≡ blocks_for p.length → (e : Cursor)
      → ahead W e ≡ take (3 * terms) (drop 8 (content W (chain W p.first n))) → Good W e → EntriesAt W p e
  entries_at terms n t m e a k =
      let r = header-room W p g h in
      let w = r.words in
      let q : ahead W e ≡ term_words held =
      a ∙ ap₂ (λ (x y : ℕ). take (3 * x) (drop 8 (content W (chain W p.first y)))) (header-word 0 terms (omega arith) t) m in
      let len : length (term_words held) ≡ 3 * field held 0 = length-take-le (3 * field held 0) (drop 8 held) (simp length-drop (omega arith)) in
      record { good = k; terms = sym (length-ahead W e) ∙ ap length q ∙ len; entries = q }

  -- the rule of the entries is the rule resumed at that cursor
  pub entries-start : (e : Cursor) → EntriesAt W p e → (count : ℕ) → count ≡ word_in W p.first 1 → entries_rule held ≡ resumed count 0 0 (ahead W e)
  entries-start e a count q =
      let w = (header-room W p g h).words in
      entries-resumed held (omega arith)
      ∙ ap₂ (λ (t : ℕ) (es : List ℕ). resumed t 0 0 es) (sym (header-word 1 count (omega arith) q)) (sym a.entries)

module _ (W : List ℕ) (p : Partition) (ok : Readable W p) where
  abbrev kept : List ℕ
  kept = content W (chain_of W p)

  rule-start : (e : Cursor) → EntriesAt W p e → resumed (field kept 1) 0 0 (ahead W e) ≡ true
  rule-start e a =
      let w = (header-room W p ok.chained ok.header).words in
      ap (resumed (field kept 1) 0 0) a.entries ∙ sym (entries-resumed kept (omega arith)) ∙ ok.entries

  -- at the cursor on all entries their rule is resumed, and all postings are led to
  pub resumes-start : (e : Cursor) → EntriesAt W p e → Resumes (field kept 1) (ahead W e)
  resumes-start e a = record { next = 0; sum = 0; rule = rule-start e a }

  lists-start : (e : Cursor) → EntriesAt W p e → lists_by (posting_words kept) (ahead W e) ≡ postings_of W p
  unfolding postings_of
  lists-start e a =
      let w = (header-room W p ok.chained ok.header).words in
      ap (lists_by (posting_words kept)) a.entries ∙ sym (decode-lists kept (omega arith))

  pub under-start : (id : ℕ) (e : Cursor) → EntriesAt W p e → under id (lists_by (posting_words kept) (ahead W e)) ≡ under id (postings_of W p)
  under-start id e a = ap (under id) (lists-start e a)

  -- the entry's list lies in the content
  module _ (e : Cursor) (x : Entry) (r : Resumes (field kept 1) (ahead W e)) (q : Passed W e x) where
    here : Resumes (field kept 1) (x.number ∷ x.count ∷ x.first ∷ ahead W x.rest)
    here = resumes-at (field kept 1) q.words r

    pub list-room : x.first + x.count ≤ field kept 1
    list-room = resumes-room (field kept 1) x.number x.count x.first (ahead W x.rest) here

    -- the cursor sought at the list of the identifier has all its postings
    pub list-found : (id : ℕ) → x.number ≡ id → under id (lists_by (posting_words kept) (ahead W e)) ≡ under id (postings_of W p)
        → (terms n : ℕ) → terms ≡ word_in W p.first 0 → n ≡ blocks_for p.length → (l : List ℕ)
        → l ≡ take x.count (drop (8 + 3 * terms + x.first) (content W (chain W p.first n))) → map (posted id) l ≡ under id (postings_of W p)
    list-found id i u terms n t m l a =
        let c = ap₂ (λ (y z : ℕ). take x.count (drop (8 + 3 * y + x.first) (content W (chain W p.first z)))) (header-word W p ok.chained ok.header 0 terms (omega arith) t) m in
        let d = ap (take x.count) (sym (drop-drop x.first (8 + 3 * field kept 0) kept)) in
        ap (map (posted id)) (a ∙ c ∙ d)
        ∙ sym (under-found (posting_words kept) (field kept 1) id x.number x.count x.first (ahead W x.rest) i here)
        ∙ ap (λ (es : List ℕ). under id (lists_by (posting_words kept) es)) (sym q.words) ∙ u

  -- a reader of the first entry and all postings
  module _ (e : Cursor) (x : Entry) (a : EntriesAt W p e) (q : Passed W e x) where
    rule-first : resumed (field kept 1) 0 0 (x.number ∷ x.count ∷ x.first ∷ ahead W x.rest) ≡ true
    rule-first = ap (resumed (field kept 1) 0 0) (sym q.words) ∙ rule-start e a

    pub first_small : x.number ≤ 1023
    first_small = (resumed-more (field kept 1) 0 0 x.number x.count x.first (ahead W x.rest) rule-first).0.small

    pub reader-opened : (r : Reader) → r.entries ≡ x.rest → r.id ≡ x.number → r.here ≡ x.count
        → (terms count n : ℕ) → terms ≡ word_in W p.first 0 → count ≡ word_in W p.first 1 → n ≡ blocks_for p.length
        → ahead W r.postings ≡ take count (drop (8 + 3 * terms) (content W (chain W p.first n))) → Good W r.postings
        → (postings_ahead W r ≡ postings_of W p) × GoodReader W r
    unfolding postings_ahead
    reader-opened r es i m terms count n t k b s g =
        let ro = header-room W p ok.chained ok.header in
        let w = ro.words in
        let wt = a.terms in
        let wl = q.left in
        let xs = posting_words kept in
        let c1 = ap₂ (λ (y z : ℕ). take count (drop (8 + 3 * y) (content W (chain W p.first z)))) (header-word W p ok.chained ok.header 0 terms (omega arith) t) b in
        let c2 = ap (λ (y : ℕ). take y xs) (header-word W p ok.chained ok.header 1 count (omega arith) k) in
        let rest = (resumed-more (field kept 1) 0 0 x.number x.count x.first (ahead W x.rest) rule-first).1 in
        let z : field kept 1 ≡ field kept 1 - 0 = omega arith in
        let len : field kept 1 ≤ length xs = simp length-drop (omega arith) in (
          ap₂ (λ (y : ℕ) (l : List ℕ). posted_by y r.here l (ahead W r.entries)) i (s ∙ c1 ∙ c2)
              ∙ ap₂ (λ (y : ℕ) (f : Cursor). posted_by x.number y (take (field kept 1) xs) (ahead W f)) m es
              ∙ ap (λ (y : ℕ). posted_by x.number x.count (take y xs) (ahead W x.rest)) z
              ∙ reads_on xs (field kept 1) len 0 0 x.number x.count x.first (ahead W x.rest) rule-first
              ∙ ap (lists_by xs) (sym q.words) ∙ lists-start e a,
          record {
            postings = g;
            entries = rw es q.good;
            threes = rw es (omega arith);
            numbers = rw es (resumed-numbered (field kept 1) (suc x.number) (0 + x.count) (ahead W x.rest) rest);
            small = rw i first_small;
          },
        )
