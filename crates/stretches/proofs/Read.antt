-- What is read keeps the rules that the whole keeps.
use Rattle.lists.proofs.Prelude.{Bool, true, not, List, [], ◌∷◌, map, ◌≡◌, refl, sym, ◌∙◌, ℕ, ◌≤◌, arith, eqb, leb, length-take, le-leb, leb-true, every, keep, joined, different, elem, by-test, and_left, and_right, and_both, every_append, every-keep, every-from, length-keep, different-parts, different-join}
use Rattle.postings.specs.declared.Stretch.{Stretch}
use Rattle.state.specs.declared.Partition.{Partition}
use Rattle.state.specs.declared.State.{State}
use Rattle.state.specs.Views.{blocks, finished, no_partition}
use Rattle.state.specs.Levels.{levels, level_limit, of_level}
use Rattle.state.specs.Rules.{record_rule, never_rise, merge_rule, state_rule}
use Rattle.state.proofs.Rows.{held}
use Rattle.state.proofs.Forms.{partitions-rule}
use Rattle.state.proofs.Kept.{rules-of, state-rule, state-kept}
use Rattle.partitions.specs.Formed.{partition_rule, chains_of, partitions_formed}
use Rattle.partitions.specs.Reading.{chain_of}
use Rattle.stretches.specs.Reached.{reaches, read_by}

module _ (t : Partition → Bool) where
  -- levels still never rise
  rise-keep : (l : List Partition) → never_rise l ≡ true → never_rise (keep t l) ≡ true
  rise-keep [] e = refl
  rise-keep (p ∷ l) e =
      let r = rise-keep l (and_right (every (λ q. leb q.level p.level) l) _ e) in
      by-test (t p)
      (λ y. rw y (and_both (every (λ q. leb q.level p.level) (keep t l)) _ (every-keep t (λ q. leb q.level p.level) l (and_left (every (λ q. leb q.level p.level) l) _ e)) r))
      (λ n. rw n r)

  -- no level has more
  level-keep : (v : ℕ) (l : List Partition) → of_level (λ (q : Partition). q.level) v (keep t l) ≤ of_level (λ (q : Partition). q.level) v l
  level-keep v [] = omega arith
  level-keep v (p ∷ l) =
      let r = level-keep v l in
      by-test (t p)
      (λ y. by-test (eqb p.level v) (λ z. rw (y, z) (omega (arith, r))) (λ m. rw (y, m) r))
      (λ n. by-test (eqb p.level v) (λ z. rw (n, z) (omega (arith, r))) (λ m. rw (n, m) r))

  limits-keep : (l : List Partition) (vs : List ℕ) → every (λ v. leb (of_level (λ (q : Partition). q.level) v l) (level_limit v)) vs ≡ true
      → every (λ v. leb (of_level (λ (q : Partition). q.level) v (keep t l)) (level_limit v)) vs ≡ true
  limits-keep l vs e =
      every-from (λ v. leb (of_level (λ (q : Partition). q.level) v l) (level_limit v)) (λ v. leb (of_level (λ (q : Partition). q.level) v l) (level_limit v)) (λ v. leb (of_level (λ (q : Partition). q.level) v (keep t l)) (level_limit v))
      (λ v a b. le-leb (of_level (λ (q : Partition). q.level) v (keep t l)) (level_limit v) (omega (arith, level-keep v l, leb-true (of_level (λ (q : Partition). q.level) v l) (level_limit v) a))) vs e e

  -- what holds of all blocks holds of some
  every-chains : (f : ℕ → Bool) (W : List ℕ) (l : List Partition) → every f (chains_of W l) ≡ true → every f (chains_of W (keep t l)) ≡ true
  unfolding chains_of
  every-chains f W [] e = refl
  every-chains f W (p ∷ l) e =
      let a = sym (every_append f (chain_of W p) (joined (map (chain_of W) l))) ∙ e in
      let r = every-chains f W l (and_right (every f (chain_of W p)) _ a) in
      by-test (t p)
      (λ y. rw y (every_append f (chain_of W p) (joined (map (chain_of W) (keep t l))) ∙ and_both (every f (chain_of W p)) _ (and_left (every f (chain_of W p)) _ a) r))
      (λ n. rw n r)

  -- no block stands in two places
  different-chains : (W : List ℕ) (l : List Partition) → different (chains_of W l) ≡ true → different (chains_of W (keep t l)) ≡ true
  unfolding chains_of
  different-chains W [] e = refl
  different-chains W (p ∷ l) e =
      let a = different-parts (chain_of W p) (joined (map (chain_of W) l)) e in
      let r = different-chains W l a.right in
      by-test (t p)
      (λ y. rw y (different-join (chain_of W p) (joined (map (chain_of W) (keep t l))) a.left r (every-chains (λ d. not (elem d (chain_of W p))) W l a.apart)))
      (λ n. rw n r)

  -- partitions of which all are well formed
  pub formed-keep : (W : List ℕ) (n : ℕ) (l : List Partition) → partitions_formed W n l ≡ true → partitions_formed W n (keep t l) ≡ true
  unfolding partitions_formed
  formed-keep W n l e =
      and_both (every (partition_rule W n) (keep t l)) _ (every-keep t (partition_rule W n) l (and_left (every (partition_rule W n) l) _ e))
      (different-chains W l (and_right (every (partition_rule W n) l) _ e))

module _ (t : Stretch) (s : State) (rule : state_rule s ≡ true) where
  abbrev l : List Partition
  l = keep (reaches t) (finished s.partitions)

  pub finished-read : finished (read_by t s).partitions ≡ l
  finished-read = held 51 no_partition l

  -- the state as it is read keeps its rules
  pub rule-read : state_rule (read_by t s) ≡ true
  rule-read =
      let a = rules-of s rule in
      let p = (state-kept s rule).partitions in
      state-rule (read_by t s) (record {
        lengths = a.lengths;
        windows = a.windows;
        listed = a.listed;
        buffer = a.buffer;
        partitions = partitions-rule (blocks s) l (omega (arith, length-keep (reaches t) (finished s.partitions), length-take s.partitions.used s.partitions.records, p.used))
            (every-keep (reaches t) (record_rule (blocks s)) (finished s.partitions) p.rules)
            (rise-keep (reaches t) (finished s.partitions) p.fall)
            (limits-keep (reaches t) (finished s.partitions) levels p.limits);
        taken = a.taken;
        merge = unfold merge_rule in refl;
      })

  -- and the partitions that are read are well formed
  pub formed-read : (W : List ℕ) → partitions_formed W (blocks s) (finished s.partitions) ≡ true → partitions_formed W (blocks s) (finished (read_by t s).partitions) ≡ true
  formed-read W e = rw finished-read (formed-keep (reaches t) W (blocks s) (finished s.partitions) e)
