-- A state that holds lists keeps its rules where the lists keep theirs: refusals 1 and 2 have no cause.
use Rattle.lists.proofs.Prelude.{Bool, true, false, ◌||◌, ◌&&◌, not, cond, List, [], ◌∷◌, map, ◌≡◌, refl, sym, ap, ap₂, ◌∙◌, subst, ℕ, ◌≤◌, eqb, leb, length, length-map, eqb-true, eq-eqb, every, empty, by-test, and_left, and_right, every-from, map-where, every_map, map-map}
use Rattle.postings.specs.Spans.{lowest, highest}
use Rattle.state.specs.declared.Partition.{Partition}
use Rattle.state.specs.declared.State.{State}
use Rattle.state.specs.Views.{no_partition, no_merge, blocks, finished, listed_of, buffer_of, partitions_of}
use Rattle.state.specs.Levels.{level_limit, levels, of_level}
use Rattle.state.specs.Rules.{windows_rule, listed_rule, buffer_rule, record_rule, never_rise, partitions_rule, merge_rule, state_rule}
use Rattle.state.specs.Probe.{has_length}
use Rattle.state.proofs.Rows.{held}
use Rattle.state.proofs.Forms.{partitions-rule}
use Rattle.state.proofs.Kept.{partitions-kept, state-rule}
use Rattle.partitions.specs.Layout.{length_of}
use Rattle.partitions.specs.Reading.{postings_of}
use Rattle.plans.specs.Merging.{due_in}
use Rattle.accounts.specs.Account.{due_of}
use Rattle.accounts.specs.Lists.{Lists, record_like, lists_rule}
use Rattle.decoded.specs.Portions.{portion_on, tells}
use Rattle.decoded.proofs.Maps.{count_map}
use Rattle.decoded.proofs.Holds.{Holds, due-is}

-- a record without its first block, of which no rule says anything
abbrev blank : Partition → Partition
blank p = record { first = 0; level = p.level; length = p.length; lowest = p.lowest; highest = p.highest }

blank_of : (p : Partition) {n l g : ℕ} → p.length ≡ n → p.lowest ≡ l → p.highest ≡ g → ◌≡◌ {A = Partition} (record { first = 0; level = p.level; length = n; lowest = l; highest = g }) (blank p)
blank_of p x y z = λ k. record { first = 0; level = p.level; length = sym x k; lowest = sym y k; highest = sym z k }

rise-blank : (ps : List Partition) → never_rise (map blank ps) ≡ never_rise ps
rise-blank [] = refl
rise-blank (p ∷ ps) = ap₂ ◌&&◌ (every_map (λ (q : Partition). leb q.level p.level) blank ps) (rise-blank ps)

partitions-blank : (n : ℕ) (ps : List Partition) → partitions_rule n (partitions_of (map blank ps)) ≡ true → partitions_rule n (partitions_of ps) ≡ true
unfolding record_rule
partitions-blank n ps e =
    let k = partitions-kept n (partitions_of (map blank ps)) e in
    let same : finished (partitions_of (map blank ps)) ≡ map blank ps = held 51 no_partition (map blank ps) in
    partitions-rule n ps (subst (λ m. m ≤ 51) (length-map ps blank) k.used)
    (sym (every_map (record_rule n) blank ps) ∙ ap (every (record_rule n)) (sym same) ∙ k.rules)
    (sym (rise-blank ps) ∙ ap never_rise (sym same) ∙ k.fall)
    (every-from (limited (map blank ps)) (limited (map blank ps)) (limited ps) (λ v x y. subst (λ m. leb m (level_limit v) ≡ true) (count_map blank (λ (q : Partition). q.level) v ps) x) levels
    (ap (λ l. every (limited l) levels) (sym same) ∙ k.limits) (ap (λ l. every (limited l) levels) (sym same) ∙ k.limits))
  where
    limited : List Partition → ℕ → Bool
    limited l v = leb (of_level (λ (q : Partition). q.level) v l) (level_limit v)

module _ (s : State) (W : List ℕ) (e : Lists) (h : Holds s W e) (rule : lists_rule (blocks s) e ≡ true) where
  -- the parts of the lists' rule
  record Parts : Type 0 where
    windows : windows_rule e.windows ≡ true
    listed : listed_rule e.windows (listed_of e.listed) ≡ true
    buffer : buffer_rule e.windows (buffer_of e.account.buffer) ≡ true
    partitions : partitions_rule (blocks s) (partitions_of (map record_like e.account.partitions)) ≡ true
    merge : (eqb e.account.steps 0 || not (empty (due_of e.account))) ≡ true

  parts : Parts
  unfolding lists_rule
  parts =
      let a = and_right (windows_rule e.windows) _ rule in
      let b = and_right (listed_rule e.windows (listed_of e.listed)) _ a in
      let c = and_right (buffer_rule e.windows (buffer_of e.account.buffer)) _ b in
      record {
        windows = and_left (windows_rule e.windows) _ rule;
        listed = and_left (listed_rule e.windows (listed_of e.listed)) _ a;
        buffer = and_left (buffer_rule e.windows (buffer_of e.account.buffer)) _ b;
        partitions = and_left (partitions_rule (blocks s) (partitions_of (map record_like e.account.partitions))) _ c;
        merge = and_right (partitions_rule (blocks s) (partitions_of (map record_like e.account.partitions))) _ c;
      }

  -- the records say what the partitions hold
  records-are : map record_like e.account.partitions ≡ map blank (finished s.partitions)
  records-are =
      ap (map record_like) (sym h.portions)
      ∙ map-map record_like (portion_on W) (finished s.partitions)
      ∙ map-where (λ p. tells p (postings_of W p)) (λ p. record_like (portion_on W p)) blank
      told
      (finished s.partitions) h.sizes
    where
      told : (p : Partition) → tells p (postings_of W p) ≡ true → record_like (portion_on W p) ≡ blank p
      told p y =
          let m = postings_of W p in
          let span = and_right (eqb p.length (length_of m)) _ y in
          let long = eqb-true p.length (length_of m) (and_left (eqb p.length (length_of m)) _ y) in
          let low = eqb-true p.lowest (lowest m) (and_left (eqb p.lowest (lowest m)) _ span) in
          let high = eqb-true p.highest (highest m) (and_right (eqb p.lowest (lowest m)) _ span) in
          blank_of p long low high

  partitions-ruled : partitions_rule (blocks s) s.partitions ≡ true
  partitions-ruled =
      ap (partitions_rule (blocks s)) h.partitions
      ∙ partitions-blank (blocks s) (finished s.partitions) (ap (λ l. partitions_rule (blocks s) (partitions_of l)) (sym records-are) ∙ parts.partitions)

  merge-ruled : merge_rule s.partitions s.merge ≡ true
  merge-ruled =
      by-test (eqb s.merge.steps 0)
      (λ y. ap (merge_rule s.partitions) (h.idle (eqb-true s.merge.steps 0 y)) ∙ nothing)
      (λ n. going n (sym (ap (λ m. eqb m 0) h.steps) ∙ n))
    where
      nothing : merge_rule s.partitions no_merge ≡ true
      nothing = unfold merge_rule in refl

      due : eqb e.account.steps 0 ≡ false → not (empty (due_of e.account)) ≡ true
      due m = sym (ap (λ t. t || not (empty (due_of e.account))) m) ∙ parts.merge

      going : eqb s.merge.steps 0 ≡ false → eqb e.account.steps 0 ≡ false → merge_rule s.partitions s.merge ≡ true
      going n m = unfold merge_rule in (ap (λ t. cond t (eqb s.merge.first 0 && eqb s.merge.length 0) (not (empty (due_in s)))) n ∙ ap (λ vs. not (empty vs)) (due-is s W e.account h.portions) ∙ due m)

  -- every rule of the state holds
  pub ruled : state_rule s ≡ true
  ruled = state-rule s (record {
    lengths = h.lengths;
    windows = ap windows_rule h.windows ∙ parts.windows;
    listed = ap₂ listed_rule h.windows h.listed ∙ parts.listed;
    buffer = ap₂ buffer_rule h.windows h.buffer ∙ parts.buffer;
    partitions = partitions-ruled;
    taken = h.taken;
    merge = merge-ruled;
  })

-- a buffer of the length given at the start
pub same_length : (l : List ℕ) (n : ℕ) → length l ≡ n → has_length l n ≡ true
same_length l n e = eq-eqb (length l) n e
