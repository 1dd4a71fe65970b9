-- The inputs of a merge are a part of the list of finished partitions: what holds of all holds of them.
use Rattle.lists.proofs.Prelude.{Bool, true, false, cond, List, [], ◌∷◌, ◌++◌, map, ◌≡◌, refl, sym, ap, ◌∙◌, ℕ, zero, suc, ◌*◌, ◌≤◌, arith, eqb, leb, length, take, drop, length-take, take-append-drop, AllOf, every, joined, different, up_to, and_left, and_right, and_both, every_append, every_take, every_drop, every-keep, different-parts}
use Rattle.lists.proofs.Stores.{joined-append}
use Rattle.postings.specs.declared.Posting.{Posting}
use Rattle.postings.specs.Pack.{posted}
use Rattle.postings.specs.Merge.{is_counted, nonzero, pairs}
use Rattle.postings.proofs.Merge.{every-puts}
use Rattle.state.specs.declared.Partition.{Partition}
use Rattle.state.specs.Levels.{due_at, oldest_at, oldest}
use Rattle.card.specs.Chains.{blocks_for, content}
use Rattle.card.specs.Cursors.{InCard, Chained}
use Rattle.blocks.proofs.Stores.{chain-agree}
use Rattle.partitions.specs.Reading.{entry_number, entry_count, entry_start, posting_words, field, list_of, decode, chain_of, postings_of, in_partitions}
use Rattle.partitions.specs.Formed.{partition_rule, chains_of, ascending}
use Rattle.partitions.specs.Terms.{Readable}
use Rattle.partitions.proofs.Starts.{rule-readable}
use Rattle.partitions.proofs.Kept.{AgreeAll}
use Rattle.levels.proofs.Choosing.{level_of}

-- A part of a list -----------------------------------------------------------------------------------------------------

-- so many from a place on
pub record Part (is ps : List Partition) : Type 0 where
  pub from : ℕ
  pub count : ℕ
  pub same : is ≡ take count (drop from ps)

-- the oldest partitions of a level are one
pub oldest-part : (vs : List ℕ) (ps : List Partition) → Part (oldest level_of vs ps) ps
oldest-part [] ps = record { from = 0; count = 0; same = refl }
oldest-part (v ∷ vs) ps = record { from = oldest_at level_of v ps; count = due_at v; same = refl }

-- and at most eight
pub oldest-few : (vs : List ℕ) (ps : List Partition) → length (oldest level_of vs ps) ≤ 8
oldest-few [] ps = omega arith
oldest-few (v ∷ vs) ps = let l = length-take (due_at v) (drop (oldest_at level_of v ps) ps) in let m = most (eqb v 5) in omega arith
  where
    most : (t : Bool) → cond t 3 8 ≤ 8
    most true = omega arith
    most false = omega arith

all_take : (P : Partition → Type 0) (k : ℕ) (l : List Partition) → AllOf P l → AllOf P (take k l)
unfolding AllOf
all_take P zero l g = tt
all_take P (suc k) [] g = tt
all_take P (suc k) (p ∷ l) g = (g.0, all_take P k l g.1)

all_drop : (P : Partition → Type 0) (k : ℕ) (l : List Partition) → AllOf P l → AllOf P (drop k l)
unfolding AllOf
all_drop P zero l g = g
all_drop P (suc k) [] g = tt
all_drop P (suc k) (p ∷ l) g = all_drop P k l g.1

module _ (is ps : List Partition) (part : Part is ps) where
  pub part-all : (P : Partition → Type 0) → AllOf P ps → AllOf P is
  part-all P g = rw part.same (all_take P part.count (drop part.from ps) (all_drop P part.from ps g))

  pub part-every : (t : Partition → Bool) → every t ps ≡ true → every t is ≡ true
  part-every t e = rw part.same (every_take t part.count (drop part.from ps) (every_drop t part.from ps e))

  -- no block of it stands twice where none of all does
  pub part-different : (W : List ℕ) → different (chains_of W ps) ≡ true → different (chains_of W is) ≡ true
  unfolding chains_of
  part-different W e =
      let f = part.from in
      let k = part.count in
      let a = drop f ps in
      let s : chains_of W ps ≡ chains_of W (take f ps) ++ chains_of W a =
      ap (chains_of W) (sym (take-append-drop f ps)) ∙ joined-append (chain_of W) (take f ps) a in
      let u : chains_of W a ≡ chains_of W (take k a) ++ chains_of W (drop k a) =
      ap (chains_of W) (sym (take-append-drop k a)) ∙ joined-append (chain_of W) (take k a) (drop k a) in
      let r = (different-parts (chains_of W (take f ps)) (chains_of W a) (rw s at e)).right in
      rw part.same (different-parts (chains_of W (take k a)) (chains_of W (drop k a)) (rw u at r)).left

-- Well formed ------------------------------------------------------------------------------------------------------------

module _ (W : List ℕ) (n : ℕ) (long : length W ≡ 1024 * n) (few : n ≤ 4096) where
  -- partitions that keep the rule may be read
  pub all-readable : (ps : List Partition) → every (partition_rule W n) ps ≡ true → AllOf (Readable W) ps
  unfolding AllOf
  all-readable [] e = tt
  all-readable (p ∷ ps) e =
      (rule-readable W n p long few (and_left (partition_rule W n p) _ e), all-readable ps (and_right (partition_rule W n p) _ e))

  -- and their blocks are blocks of the card
  pub all-chained : (ps : List Partition) → every (partition_rule W n) ps ≡ true → AllOf (λ p. Chained W p.first (blocks_for p.length)) ps
  unfolding AllOf
  all-chained [] e = tt
  all-chained (p ∷ ps) e =
      ((rule-readable W n p long few (and_left (partition_rule W n p) _ e)).chained, all-chained ps (and_right (partition_rule W n p) _ e))

-- a card that agrees with another on partitions has their blocks too
in-card : (W' W : List ℕ) → length W' ≡ length W → (l : List ℕ) → AllOf (InCard W) l → AllOf (InCard W') l
unfolding AllOf
in-card W' W e [] g = tt
in-card W' W e (d ∷ l) g = (record { few = g.0.few; inside = omega (arith, g.0.inside) }, in-card W' W e l g.1)

pub chained-kept : (W' W : List ℕ) → length W' ≡ length W → (qs : List Partition) → AgreeAll W' W qs → AllOf (λ p. Chained W p.first (blocks_for p.length)) qs
    → AllOf (λ p. Chained W' p.first (blocks_for p.length)) qs
unfolding AllOf
chained-kept W' W e [] a g = tt
chained-kept W' W e (q ∷ qs) a g =
    (rw (chain-agree W' W q.first (blocks_for q.length) a.0) (in-card W' W e (chain_of W q) g.0), chained-kept W' W e qs a.1 g.1)

pub agrees-self : (W : List ℕ) (qs : List Partition) → AgreeAll W W qs
unfolding AllOf
agrees-self W [] = tt
agrees-self W (q ∷ qs) = (λ d m. refl, agrees-self W qs)

-- Identifiers ------------------------------------------------------------------------------------------------------------

-- an identifier of a register
abbrev pub numbered : Posting → Bool
numbered p = leb p.id 1023

every-joined : {A : Type 0} (f : A → List Posting) (l : List A) → every (λ x. every numbered (f x)) l ≡ true → every numbered (joined (map f l)) ≡ true
every-joined f [] e = refl
every-joined f (x ∷ l) e =
    every_append numbered (f x) (joined (map f l)) ∙ and_both (every numbered (f x)) _ (and_left _ _ e) (every-joined f l (and_right (every numbered (f x)) _ e))

every-posted : (i : ℕ) (ws : List ℕ) → leb i 1023 ≡ true → every numbered (map (posted i) ws) ≡ true
every-posted i [] e = refl
every-posted i (w ∷ ws) e = and_both (leb i 1023) _ e (every-posted i ws e)

every-listed : (c js : List ℕ) → every (λ j. leb (entry_number c j) 1023) js ≡ true → every (λ j. every numbered (list_of c j)) js ≡ true
every-listed c [] e = refl
every-listed c (j ∷ js) e =
    and_both (every numbered (list_of c j)) _ (every-posted (entry_number c j) (take (entry_count c j) (drop (entry_start c j) (posting_words c))) (and_left (leb (entry_number c j) 1023) _ e)) (every-listed c js (and_right (leb (entry_number c j) 1023) _ e))

module _ (W : List ℕ) where
  read-numbered : (p : Partition) → Readable W p → every numbered (postings_of W p) ≡ true
  unfolding postings_of decode
  read-numbered p r =
      let c = content W (chain_of W p) in
      every-joined (list_of c) (up_to (field c 0))
      (every-listed c (up_to (field c 0)) (and_left _ _ (and_right (ascending (map (entry_number c) (up_to (field c 0)))) _ r.entries)))

  all-numbered : (ps : List Partition) → AllOf (Readable W) ps → every (λ p. every numbered (postings_of W p)) ps ≡ true
  unfolding AllOf
  all-numbered [] g = refl
  all-numbered (p ∷ ps) g = and_both (every numbered (postings_of W p)) _ (read-numbered p g.0) (all-numbered ps g.1)

  -- so the pairs of partitions that may be read are of such identifiers
  pub pairs-numbered : (ps : List Partition) → AllOf (Readable W) ps → every numbered (nonzero (pairs (in_partitions W ps))) ≡ true
  unfolding nonzero pairs in_partitions
  pairs-numbered ps g =
      every-keep is_counted numbered (pairs (in_partitions W ps)) (every-puts numbered (λ q c e. e) (in_partitions W ps) [] (every-joined (postings_of W) ps (all-numbered ps g)) refl)
