-- The three lists of a state in their one form: what a used place after the count would break, and back.
use Rattle.lists.proofs.Prelude.{Bool, true, List, ◌≡◌, refl, sym, ℕ, zero, suc, ◌-◌, ◌≤◌, arith, eqb, leb, ℤ, pos, negsuc, length, drop, replicate, length-take-le, drop-append_seam, eqb-true, le-leb, every, different, by-test, and_left, and_right, every-replicate}
use Rattle.lists.proofs.Padding.{padded-form}
use Rattle.postings.specs.declared.Posting.{Posting}
use Rattle.postings.specs.Merge.{is_zero}
use Rattle.postings.specs.Order.{ordered}
use Rattle.state.specs.declared.Windows.{Windows}
use Rattle.state.specs.declared.Listed.{Listed}
use Rattle.state.specs.declared.Buffer.{Buffer}
use Rattle.state.specs.declared.Partition.{Partition}
use Rattle.state.specs.declared.Partitions.{Partitions}
use Rattle.state.specs.Views.{padded, no_posting, no_partition, listed, buffered, finished, listed_of, buffer_of, partitions_of}
use Rattle.state.specs.Levels.{levels, level_limit, of_level}
use Rattle.state.proofs.Rows.{same_parts, held}
use Rattle.state.specs.Rules.{unused_posting, unused_record, posting_rule, record_rule, never_rise, listed_rule, buffer_rule, partitions_rule}

-- ---- zeros are one value

zero-count : (z : ℤ) → is_zero z ≡ true → z ≡ pos 0
zero-count (pos zero) e = refl
zero-count (pos (suc n)) e = cc
zero-count (negsuc n) e = cc

posting-of : {i j v w : ℕ} {a b : ℤ} → i ≡ j → v ≡ w → a ≡ b → ◌≡◌ {A = Posting} (record { id = i; window = v; count = a }) (record { id = j; window = w; count = b })
posting-of p q r = cc

unused-posting : (p : Posting) → unused_posting p ≡ true → p ≡ no_posting
unused-posting p e =
    let r = and_right (eqb p.id 0) _ e in
    posting-of (eqb-true _ _ (and_left (eqb p.id 0) _ e)) (eqb-true _ _ (and_left (eqb p.window 0) _ r)) (zero-count _ (and_right (eqb p.window 0) _ r))

record_of : {i j v w a b l k h g : ℕ} → i ≡ j → v ≡ w → a ≡ b → l ≡ k → h ≡ g
    → ◌≡◌ {A = Partition} (record { first = i; level = v; length = a; lowest = l; highest = h }) (record { first = j; level = w; length = b; lowest = k; highest = g })
record_of p q r s t = cc

unused-record : (p : Partition) → unused_record p ≡ true → p ≡ no_partition
unused-record p e =
    let r = and_right (eqb p.first 0) _ e in
    let s = and_right (eqb p.level 0) _ r in
    let t = and_right (eqb p.length 0) _ s in
    record_of (eqb-true _ _ (and_left (eqb p.first 0) _ e)) (eqb-true _ _ (and_left (eqb p.level 0) _ r)) (eqb-true _ _ (and_left (eqb p.length 0) _ s))
    (eqb-true _ _ (and_left (eqb p.lowest 0) _ t)) (eqb-true _ _ (and_right (eqb p.lowest 0) _ t))

-- ---- from zeros after the count to the one form

listed-of : {n m : ℕ} {a b : List ℕ} → n ≡ m → a ≡ b → ◌≡◌ {A = Listed} (record { used = n; ids = a }) (record { used = m; ids = b })
listed-of p q = cc

pub listed-form : (l : Listed) → length l.ids ≡ 64 → l.used ≤ 64 → every (λ i. eqb i 0) (drop l.used l.ids) ≡ true → l ≡ listed_of (listed l)
listed-form l len h e =
    listed-of (sym (length-take-le l.used l.ids (omega arith))) (padded-form 0 (λ i. eqb i 0) (λ i t. eqb-true i 0 t) 64 l.used l.ids len h e)

buffer-of : {n m : ℕ} {a b : List Posting} → n ≡ m → a ≡ b → ◌≡◌ {A = Buffer} (record { used = n; postings = a }) (record { used = m; postings = b })
buffer-of p q = cc

pub buffer-form : (b : Buffer) → length b.postings ≡ 128 → b.used ≤ 128 → every unused_posting (drop b.used b.postings) ≡ true → b ≡ buffer_of (buffered b)
buffer-form b len h e =
    buffer-of (sym (length-take-le b.used b.postings (omega arith))) (padded-form no_posting unused_posting unused-posting 128 b.used b.postings len h e)

pub partitions-form : (p : Partitions) → length p.records ≡ 51 → p.used ≤ 51 → every unused_record (drop p.used p.records) ≡ true → p ≡ partitions_of (finished p)
partitions-form p len h e =
    same_parts (sym (length-take-le p.used p.records (omega arith))) (padded-form no_partition unused_record unused-record 51 p.used p.records len h e)

-- ---- the list that a form holds, and the rules of a list in that form, from what the list has to keep

-- nothing but the filling comes after
pub after : {A : Type 0} (t : A → Bool) (n : ℕ) (d : A) (l : List A) → t d ≡ true → every t (drop (length l) (padded n d l)) ≡ true
after t n d l e = rw (drop-append_seam l (replicate (n - length l) d)) (every-replicate t (n - length l) d e)

pub listed-rule : (w : Windows) (l : List ℕ) → length l ≤ 64 → every (λ i. leb i 1023) l ≡ true → different l ≡ true → (w.current ≡ 0 → length l ≡ 0) → listed_rule w (listed_of l) ≡ true
unfolding listed_rule
listed-rule w l h a b z =
    rw (held 64 0 l, le-leb (length l) 64 h, a, b, after (λ i. eqb i 0) 64 0 l refl)
    (by-test (eqb w.current 0) (λ y. rw (y, z (eqb-true _ _ y))) (λ n. rw n))

pub buffer-rule : (w : Windows) (l : List Posting) → length l ≤ 128 → ordered l ≡ true → every (posting_rule w) l ≡ true → buffer_rule w (buffer_of l) ≡ true
unfolding buffer_rule
buffer-rule w l h a b = rw (held 128 no_posting l, le-leb (length l) 128 h, a, b) (after unused_posting 128 no_posting l refl)

pub partitions-rule : (block_count : ℕ) (l : List Partition) → length l ≤ 51 → every (record_rule block_count) l ≡ true → never_rise l ≡ true
    → every (λ v. leb (of_level (λ q. q.level) v l) (level_limit v)) levels ≡ true → partitions_rule block_count (partitions_of l) ≡ true
unfolding partitions_rule
partitions-rule n l h a b e = rw (held 51 no_partition l, le-leb (length l) 51 h, a, b, e) (after unused_record 51 no_partition l refl)
