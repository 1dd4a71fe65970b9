-- The lowest and the highest window of postings to come, one after another, and of a partition that is read.
use Prim.Native.Nat.{min, max}
use Rattle.lists.proofs.Prelude.{◌&&◌, List, [], ◌∷◌, map, ◌≡◌, refl, sym, ap, ◌∙◌, ℕ, ◌-◌, ◌<◌, ◌≤◌, arith, eqb, ltb, by-test}
use Rattle.postings.specs.declared.Posting.{Posting}
use Rattle.postings.specs.Pack.{posted}
use Rattle.postings.specs.Spans.{lowest, highest}
use Rattle.postings.proofs.Spans.{min_assoc, max_assoc, lowest-most}
use Rattle.state.specs.declared.Partition.{Partition}
use Rattle.card.specs.declared.Cursor.{Cursor}
use Rattle.card.specs.Cursors.{ahead_at, ahead, head_of, moved_of}
use Rattle.card.proofs.Cursors.{ahead_more}
use Rattle.partitions.specs.declared.Reader.{Reader}
use Rattle.partitions.specs.Readers.{first_number, first_count, later_entries, posted_by, postings_ahead}
use Rattle.partitions.specs.Formed.{span_rule}

-- the postings of words, whatever their identifier
abbrev pub lying : List ℕ → Cursor → List Posting
lying W c = map (posted 0) (ahead W c)

-- what was met, and what is to come, make the lowest and the highest of all
pub record Met (W : List ℕ) (c at : Cursor) (low high : ℕ) : Type 0 where
  pub lows : lowest (lying W c) ≡ min low (lowest (lying W at))
  pub highs : highest (lying W c) ≡ max high (highest (lying W at))

pub met-first : (W : List ℕ) (c : Cursor) → Met W c c 65535 0
met-first W c = record {
  lows = omega (arith, lowest-most (lying W c));
  highs = omega arith;
}

-- a posting more
pub met-more : (W : List ℕ) (c at : Cursor) (low high : ℕ) → 0 < at.left → Met W c at low high
    → Met W c (moved_of W at) (min low (posted 0 (head_of W at)).window) (max high (posted 0 (head_of W at)).window)
unfolding lowest highest
met-more W c at low high h m =
    let e = ahead_more W at h in
    record {
      lows = m.lows ∙ ap (λ l. min low (lowest (map (posted 0) l))) e ∙ min_assoc low (posted 0 (head_of W at)).window (lowest (lying W (moved_of W at)));
      highs = m.highs ∙ ap (λ l. max high (highest (map (posted 0) l))) e ∙ max_assoc high (posted 0 (head_of W at)).window (highest (lying W (moved_of W at)));
    }

-- all were met
pub met_all : (W : List ℕ) (c at : Cursor) (low high : ℕ) → at.left ≡ 0 → low ≤ 65535 → Met W c at low high
    → (low ≡ lowest (lying W c)) × (high ≡ highest (lying W c))
unfolding lowest highest ahead_at
met_all W c at low high e h m =
    (sym (rw e at m.lows ∙ omega (arith, h)), sym (rw e at m.highs ∙ omega arith))

-- ---- a partition that is read

-- identifiers do not matter
pub lowest-posted : (i n : ℕ) (xs es : List ℕ) → lowest (posted_by i n xs es) ≡ lowest (map (posted 0) xs)
unfolding posted_by lowest
lowest-posted i n [] es = refl
lowest-posted i n (x ∷ xs) es =
    by-test (ltb 1 n)
    (λ y. rw y (ap (min (posted 0 x).window) (lowest-posted i (n - 1) xs es)))
    (λ m. rw m (ap (min (posted 0 x).window) (lowest-posted (first_number es) (first_count es) xs (later_entries es))))

pub highest-posted : (i n : ℕ) (xs es : List ℕ) → highest (posted_by i n xs es) ≡ highest (map (posted 0) xs)
unfolding posted_by highest
highest-posted i n [] es = refl
highest-posted i n (x ∷ xs) es =
    by-test (ltb 1 n)
    (λ y. rw y (ap (max (posted 0 x).window) (highest-posted i (n - 1) xs es)))
    (λ m. rw m (ap (max (posted 0 x).window) (highest-posted (first_number es) (first_count es) xs (later_entries es))))

-- the span of what a reader has still to come
pub span-reader : (W : List ℕ) (p : Partition) (r : Reader) (l : List Posting) → postings_ahead W r ≡ l
    → (eqb p.lowest (lowest (lying W r.postings)) && eqb p.highest (highest (lying W r.postings))) ≡ span_rule p l
unfolding postings_ahead
span-reader W p r l e =
    rw (← e, lowest-posted r.id r.here (ahead W r.postings) (ahead W r.entries), highest-posted r.id r.here (ahead W r.postings) (ahead W r.entries))
