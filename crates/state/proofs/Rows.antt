-- The lists of partitions and of identifiers in their one form: one more, a run replaced or gone.
use Rattle.lists.proofs.Prelude.{List, [], ◌∷◌, ◌++◌, ◌≡◌, sym, ap, ◌∙◌, ℕ, ◌+◌, ◌<◌, ◌≤◌, arith, length, take, length-take, set, length-append, length-set, take-set-lt, take-append_seam}
use Rattle.lists.proofs.Padding.{padded-add, padded-set}
use Rattle.state.specs.declared.Listed.{Listed}
use Rattle.state.specs.declared.Partition.{Partition}
use Rattle.state.specs.declared.Partitions.{Partitions}
use Rattle.state.specs.Views.{listed, finished, listed_of, partitions_of, padded, no_partition}

one_more : {A : Type 0} (l : List A) (x : A) → length l + 1 ≡ length (l ++ (x ∷ []))
one_more l x = rw (length-append l (x ∷ []))

-- finished (partitions_of l), buffered (buffer_of l) and listed (listed_of l) are l
pub held : {A : Type 0} (n : ℕ) (d : A) (l : List A) → take (length l) (padded n d l) ≡ l
held n d l = take-append_seam l _

-- what the one form says of the count and of the array
pub used-form : (p : Partitions) → p ≡ partitions_of (finished p) → p.used ≡ length (finished p)
used-form p form = ap (λ (x : Partitions). x.used) form

pub records-form : (p : Partitions) → p ≡ partitions_of (finished p) → p.records ≡ padded 51 no_partition (finished p)
records-form p form = ap (λ (x : Partitions). x.records) form

-- the count is within the array
pub used-fits : (p : Partitions) → p ≡ partitions_of (finished p) → length p.records ≡ 51 → p.used ≤ 51
used-fits p form len =
    let k = used-form p form in
    let m = length-take p.used p.records in
    omega arith

-- the same count and the same array
pub same_parts : {n m : ℕ} {a b : List Partition} → n ≡ m → a ≡ b → ◌≡◌ {A = Partitions} (record { used = n; records = a }) (record { used = m; records = b })
same_parts e f = cc

-- a partition put after the last
pub added : (p : Partitions) (q : Partition) → p.used < 51 → p ≡ partitions_of (finished p)
    → record { used = p.used + 1; records = set p.records p.used q } ≡ partitions_of (finished p ++ (q ∷ []))
added p q room form =
    let k = used-form p form in
    let a = records-form p form in
    let u : p.used + 1 ≡ length (finished p ++ (q ∷ [])) = ap (λ (n : ℕ). n + 1) k ∙ one_more (finished p) q in
    rw (padded-add no_partition 51 (finished p) p.records p.used q a k (omega arith), u)

-- an identifier put after the last
pub noted : (l : Listed) (id : ℕ) → l.used < 64 → l ≡ listed_of (listed l)
    → record { used = l.used + 1; ids = set l.ids l.used id } ≡ listed_of (listed l ++ (id ∷ []))
noted l id room form =
    let k : l.used ≡ length (listed l) = ap (λ (x : Listed). x.used) form in
    let a : l.ids ≡ padded 64 0 (listed l) = ap (λ (x : Listed). x.ids) form in
    let u : l.used + 1 ≡ length (listed l ++ (id ∷ [])) = ap (λ (n : ℕ). n + 1) k ∙ one_more (listed l) id in
    rw (padded-add 0 64 (listed l) l.ids l.used id a k (omega arith), u)

-- a partition put at a place in use
module _ (p : Partitions) (at : ℕ) (q : Partition) (inside : at < p.used) (form : p ≡ partitions_of (finished p)) where
  abbrev put : Partitions
  put = record { used = p.used; records = set p.records at q }

  -- its list
  pub finished-set : finished put ≡ set (finished p) at q
  finished-set = take-set-lt p.used p.records at q inside

  -- and its form
  pub form-set : put ≡ partitions_of (finished put)
  form-set =
      let k = used-form p form in
      let a = records-form p form in
      let u : p.used ≡ length (set (finished p) at q) = k ∙ sym (length-set (finished p) at q) in
      rw finished-set (same_parts u (padded-set no_partition 51 (finished p) p.records at q a (omega arith)))
