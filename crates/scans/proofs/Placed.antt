-- One head: put, taken, and moved.
use Rattle.lists.proofs.Prelude.{List, [], ◌∷◌, ◌≡◌, refl, ap, ◌∙◌, ℕ, zero, suc, ◌+◌, ◌-◌, ◌*◌, ◌/◌, ◌<◌, ◌≤◌, arith, length, get_or, set}
use Rattle.keyed.specs.Keys.{reach, rest, head_val, head_fine}
use Rattle.postings.specs.Pack.{word_count, is_posting}
use Rattle.card.specs.Cursors.{head_of}
use Rattle.partitions.specs.declared.Reader.{Reader}
use Rattle.partitions.specs.Readers.{GoodReader, postings_ahead, moved_reader}
use Rattle.scans.specs.Items.{items, head_key}
use Rattle.scans.proofs.Heads.{items_more, items-none, items-rest, take_head}
use Rattle.scans.specs.Heads.{reader_at, ahead, view, Kept}

-- ten numbers
deca : (P : List ℕ → Type 0) → ((a0 a1 a2 a3 a4 a5 a6 a7 a8 a9 : ℕ) → P (a0 ∷ a1 ∷ a2 ∷ a3 ∷ a4 ∷ a5 ∷ a6 ∷ a7 ∷ a8 ∷ a9 ∷ [])) → (h : List ℕ) → length h ≡ 10 → P h
deca P f ([]) e = absurd (omega arith)
deca P f (a0 ∷ []) e = absurd (omega arith)
deca P f (a0 ∷ a1 ∷ []) e = absurd (omega arith)
deca P f (a0 ∷ a1 ∷ a2 ∷ []) e = absurd (omega arith)
deca P f (a0 ∷ a1 ∷ a2 ∷ a3 ∷ []) e = absurd (omega arith)
deca P f (a0 ∷ a1 ∷ a2 ∷ a3 ∷ a4 ∷ []) e = absurd (omega arith)
deca P f (a0 ∷ a1 ∷ a2 ∷ a3 ∷ a4 ∷ a5 ∷ []) e = absurd (omega arith)
deca P f (a0 ∷ a1 ∷ a2 ∷ a3 ∷ a4 ∷ a5 ∷ a6 ∷ []) e = absurd (omega arith)
deca P f (a0 ∷ a1 ∷ a2 ∷ a3 ∷ a4 ∷ a5 ∷ a6 ∷ a7 ∷ []) e = absurd (omega arith)
deca P f (a0 ∷ a1 ∷ a2 ∷ a3 ∷ a4 ∷ a5 ∷ a6 ∷ a7 ∷ a8 ∷ []) e = absurd (omega arith)
deca P f (a0 ∷ a1 ∷ a2 ∷ a3 ∷ a4 ∷ a5 ∷ a6 ∷ a7 ∷ a8 ∷ a9 ∷ []) e = f a0 a1 a2 a3 a4 a5 a6 a7 a8 a9
deca P f (a0 ∷ a1 ∷ a2 ∷ a3 ∷ a4 ∷ a5 ∷ a6 ∷ a7 ∷ a8 ∷ a9 ∷ x ∷ l) e = absurd (omega arith)

-- five of a reader's numbers have 16 bits
pub record Narrow (r : Reader) : Type 0 where
  pub block : r.postings.block ≤ 65535
  pub word : r.postings.word ≤ 65535
  pub block2 : r.entries.block ≤ 65535
  pub word2 : r.entries.word ≤ 65535
  pub id : r.id ≤ 65535

abbrev filled : List ℕ → Reader → List ℕ
filled h r =
    set (set (set (set (set (set (set (set h 2 r.postings.block) 3 r.postings.word) 4 r.postings.left) 5 r.entries.block) 6 r.entries.word) 7 r.entries.left) 8 r.id) 9 r.here

-- the head h stands for the reader r, and t is its reach
abbrev Put : List ℕ → Reader → ℕ → List ℕ → Type 0
Put W r t h = Kept W h × (ahead W h ≡ postings_ahead W r) × (view W h ≡ items W r) × (t ≡ reach (items W r))

module _ (W : List ℕ) where
  -- a spent reader is put
  pub put-none : (h : List ℕ) → length h ≡ 10 → (r : Reader) → Narrow r → GoodReader W r → r.postings.left ≡ 0
      → Put W r 0 (set (filled h r) 0 0)
  unfolding view
  put-none h e r s g z = deca (λ h. Put W r 0 (set (filled h r) 0 0)) each h e
    where
      none : 0 ≡ reach (items W r)
      none = rw (items-none W r z)

      each : (a0 a1 a2 a3 a4 a5 a6 a7 a8 a9 : ℕ) → Put W r 0 (0 ∷ a1 ∷ r.postings.block ∷ r.postings.word ∷ r.postings.left ∷ r.entries.block ∷ r.entries.word ∷ r.entries.left ∷ r.id ∷ r.here ∷ [])
      each a0 a1 a2 a3 a4 a5 a6 a7 a8 a9 = (record { ten = refl; small = record { block = s.block; word = s.word; block2 = s.block2; word2 = s.word2; id = s.id }; good = g; word = λ h. absurd (omega arith); top = none }, refl, refl, none)

  -- and another
  pub put_some : (h : List ℕ) → length h ≡ 10 → (r : Reader) → Narrow r → GoodReader W r → 0 < r.postings.left → (x : ℕ) → x ≡ head_of W r.postings
      → Put W r ((1023 - r.id) * 65536 + x / 65536 + 1) (set (set (filled h r) 0 ((1023 - r.id) * 65536 + x / 65536 + 1)) 1 x)
  unfolding view
  put_some h e r s g l x w =
      deca
      (λ h. Put W r ((1023 - r.id) * 65536 + x / 65536 + 1) (set (set (filled h r) 0 ((1023 - r.id) * 65536 + x / 65536 + 1)) 1 x))
      each h e
    where
      top : (1023 - r.id) * 65536 + x / 65536 + 1 ≡ reach (items W r)
      top = rw (items_more W r l g, ← w) (omega arith)

      each : (a0 a1 a2 a3 a4 a5 a6 a7 a8 a9 : ℕ) → Put W r ((1023 - r.id) * 65536 + x / 65536 + 1) (((1023 - r.id) * 65536 + x / 65536 + 1) ∷ x ∷ r.postings.block ∷ r.postings.word ∷ r.postings.left ∷ r.entries.block ∷ r.entries.word ∷ r.entries.left ∷ r.id ∷ r.here ∷ [])
      each a0 a1 a2 a3 a4 a5 a6 a7 a8 a9 = (record { ten = refl; small = record { block = s.block; word = s.word; block2 = s.block2; word2 = s.word2; id = s.id }; good = g; word = λ h. w; top = top }, refl, refl, top)

  -- ---- a head is taken

  module _ (h : List ℕ) (g : Kept W h) (k : ℕ) (t : get_or h 0 0 ≡ k + 1) where
    pub some : 0 < get_or h 4 0
    unfolding view
    some = go (get_or h 4 0) refl
      where
        go : (n : ℕ) → get_or h 4 0 ≡ n → 0 < get_or h 4 0
        go zero e = let z : reach (view W h) ≡ 0 = rw (items-none W (reader_at h) e) in absurd (omega (arith, z, g.top))
        go (suc n) e = omega arith

    pub hit : (items W (moved_reader W (reader_at h)) ≡ rest k (view W h)) × (word_count (get_or h 1 0) ≡ head_val k (view W h)) × (is_posting (get_or h 1 0) ≡ head_fine k (view W h))
    unfolding view
    hit =
        let m = items_more W (reader_at h) some g.good in
        let r : reach (view W h) ≡ suc (head_key W (reader_at h)) = rw m in
        let q : head_key W (reader_at h) ≡ k = omega (arith, r, g.top) in
        let w = g.word some in
        let u = take_head W k (reader_at h) some g.good q in
        (ap (items W) u.0 ∙ items-rest W k (reader_at h) g.good, rw w u.1, rw w u.2)
