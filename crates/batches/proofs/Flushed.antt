-- After a flush the rules hold that held before it, the same is stored, and one block less is free.
use Rattle.lists.proofs.Prelude.{true, false, ◌&&◌, List, [], ◌∷◌, ◌++◌, append-nil, ◌≡◌, refl, sym, ap, ap₂, ◌∙◌, ℕ, suc, ◌+◌, ◌*◌, ◌<◌, ◌≤◌, arith, eqb, leb, ltb, length, length-append, length-take-le, leb-true, le-leb, lt-ltb, eqb-true, eqb-false, eq-eqb, ne_eqb, AllOf, keep, every, empty, elem, up_to, total-more, by-test, and_left, and_right, and_both, every_append, keep-less, different-rising, elem-rising}
use Rattle.words.specs.Words.{all_ones}
use Rattle.postings.specs.declared.Posting.{Posting}
use Rattle.state.specs.declared.Partition.{Partition}
use Rattle.state.specs.declared.State.{State}
use Rattle.state.specs.Views.{no_partition, blocks, buffered, finished, partitions_of}
use Rattle.state.specs.Levels.{due_at, levels, of_level, due_levels}
use Rattle.state.specs.Rules.{record_rule, never_rise, merge_rule, state_rule}
use Rattle.state.proofs.Rows.{held}
use Rattle.state.proofs.Forms.{buffer-rule, partitions-rule}
use Rattle.state.proofs.Kept.{rules-of, state-rule, state-kept, record-rule}
use Rattle.levels.proofs.Replaced.{count-append, added-limits}
use Rattle.card.specs.Blocks.{is_free, free_blocks}
use Rattle.card.specs.Chains.{blocks_for}
use Rattle.blocks.proofs.FreeBlocks.{free-count, store_other, written-taken}
use Rattle.partitions.specs.Layout.{length_of, encode}
use Rattle.partitions.specs.Reading.{in_partitions, stored}
use Rattle.partitions.specs.Formed.{partitions_formed, lists_rule, Writable}
use Rattle.partitions.proofs.Lengths.{length-buffer, one_block}
use Rattle.partitions.proofs.Kept.{AgreeAll, lists-kept}
use Rattle.flushes.specs.Flush.{finished_blocks, flushed_to, flushed_card}
use Rattle.flushes.specs.Targets.{Chosen}
use Rattle.flushes.proofs.Rooms.{room-left, chosen-there, chosen-free}
use Rattle.flushes.proofs.Flushed.{buffer-writable, writable-span, flush_record, flush_card, flush-lists, flush-keeps, flush-formed, flush-stored}
use Rattle.sums.specs.Tally.{lists_ruled}

-- a partition of level 0 may stand last
rise-last : (l : List Partition) (r : Partition) → r.level ≡ 0 → never_rise l ≡ true → never_rise (l ++ (r ∷ [])) ≡ true
rise-last [] r z e = refl
rise-last (p ∷ l) r z e =
    and_both (every (λ q. leb q.level p.level) (l ++ (r ∷ []))) _
    (every_append (λ (q : Partition). leb q.level p.level) l (r ∷ []) ∙ and_both (every (λ (q : Partition). leb q.level p.level) l) _ (and_left (every (λ (q : Partition). leb q.level p.level) l) _ e) (and_both (leb r.level p.level) true (le-leb r.level p.level (omega arith)) refl))
    (rise-last l r z (and_right (every (λ (q : Partition). leb q.level p.level) l) _ e))

-- levels that are due stay due
due-more : (l m : List Partition) → empty (due_levels (λ q. q.level) l) ≡ false → empty (due_levels (λ q. q.level) (l ++ m)) ≡ false
due-more l m e = go levels e
  where
    go : (vs : List ℕ) → empty (keep (λ v. leb (due_at v) (of_level (λ (q : Partition). q.level) v l)) vs) ≡ false → empty (keep (λ v. leb (due_at v) (of_level (λ (q : Partition). q.level) v (l ++ m))) vs) ≡ false
    go [] f = f
    go (v ∷ vs) f =
        by-test (leb (due_at v) (of_level (λ (q : Partition). q.level) v l))
        (λ y. rw (le-leb (due_at v) (of_level (λ (q : Partition). q.level) v (l ++ m)) (omega (arith, leb-true (due_at v) _ y, count-append (λ (q : Partition). q.level) v l m))))
        (λ n. by-test (leb (due_at v) (of_level (λ (q : Partition). q.level) v (l ++ m))) (λ y. rw y) (λ z. rw z (go vs (rw n at f))))

-- lists on cards that agree on their blocks keep the rule alike
rules-kept : (W' W : List ℕ) (l : List Partition) → AgreeAll W' W l → every (lists_rule W') l ≡ every (lists_rule W) l
unfolding AllOf
rules-kept W' W [] g = refl
rules-kept W' W (q ∷ l) g = ap₂ ◌&&◌ (lists-kept W' W q g.0) (rules-kept W' W l g.1)

module _ (s : State) (W : List ℕ) (rule : state_rule s ≡ true) (long : length W ≡ 1024 * blocks s) (len : length s.buffer.postings ≡ 128) (k : ℕ) (c : Chosen s W k) where
  abbrev ps : List Posting
  ps = buffered s.buffer

  abbrev qs : List Partition
  qs = finished s.partitions

  abbrev r : Partition
  r = flush_record k ps

  used : length ps ≡ s.buffer.used
  used = length-take-le s.buffer.used s.buffer.postings (omega (arith, (state-kept s rule).buffer.used))

  few : length ps ≤ 128
  few = omega (arith, used, (state-kept s rule).buffer.used)

  on : k < blocks s
  on = chosen-there s W k c

  free : is_free W k ≡ true
  free = chosen-free s W k c

  most : blocks s ≤ all_ones
  most = omega (arith, (state-kept s rule).lengths.most_blocks)

  writable : Writable ps
  writable = buffer-writable s.windows s.buffer (rules-of s rule).buffer len (omega (arith, used, c.some))

  -- the partitions afterwards
  pub finished-flushed : finished (flushed_to s k).partitions ≡ qs ++ (r ∷ [])
  unfolding flushed_to
  finished-flushed = held 51 no_partition (qs ++ (r ∷ []))

  -- the state keeps its rules
  pub rule-flushed : state_rule (flushed_to s k) ≡ true
  unfolding flushed_to
  rule-flushed =
      let a = rules-of s rule in
      let p = (state-kept s rule).partitions in
      state-rule (flushed_to s k) (record {
        lengths = a.lengths;
        windows = a.windows;
        listed = a.listed;
        buffer = buffer-rule s.windows [] (omega arith) refl refl;
        partitions = partitions-rule (blocks s) (qs ++ (r ∷ [])) (omega (arith, room-left (blocks s) s.partitions p c.room, length-append qs (r ∷ [])))
            (every_append (record_rule (blocks s)) qs (r ∷ []) ∙ and_both (every (record_rule (blocks s)) qs) _ p.rules (and_both (record_rule (blocks s) r) true (record-rule (blocks s) r (record { level = omega arith; length = one; some = (writable-span ps writable).0; span = (writable-span ps writable).1 })) refl))
            (rise-last qs r refl p.fall)
            (added-limits (λ (q : Partition). q.level) qs r refl c.room p.limits);
        taken = on;
        merge = going;
      })
    where
      one : length_of ps ≤ 4092 * blocks s
      one = omega (arith, length-buffer ps few, (state-kept s rule).lengths.fewest_blocks)

      going : merge_rule (partitions_of (qs ++ (r ∷ []))) s.merge ≡ true
      going =
          by-test (eqb s.merge.steps 0)
          (λ y. unfold merge_rule in rw y (merge_none y))
          (λ n. unfold merge_rule in rw (n, held 51 no_partition (qs ++ (r ∷ [])), due-more qs (r ∷ []) (due n)))
        where
          merge_none : eqb s.merge.steps 0 ≡ true → (eqb s.merge.first 0 && eqb s.merge.length 0) ≡ true
          merge_none y = rw ((state-kept s rule).merge.none (eqb-true _ _ y))

          due : eqb s.merge.steps 0 ≡ false → empty (due_levels (λ q. q.level) qs) ≡ false
          due n = (state-kept s rule).merge.due (let z = eqb-false s.merge.steps 0 n in omega arith)

  -- as much of level 0 and of blocks is more
  pub level-flushed : of_level (λ (p : Partition). p.level) 0 (finished (flushed_to s k).partitions) ≡ of_level (λ (p : Partition). p.level) 0 qs + 1
  level-flushed = rw finished-flushed (count-append (λ (p : Partition). p.level) 0 qs (r ∷ []))

  pub blocks-flushed : finished_blocks (flushed_to s k) ≡ finished_blocks s + 1
  unfolding finished_blocks
  blocks-flushed = rw (finished-flushed, total-more (λ (p : Partition). blocks_for p.length) qs r, one_block ps few)

  -- chains, headers, entries and lists are well formed
  pub parts-flushed : partitions_formed W (blocks s) qs ≡ true → partitions_formed (flushed_card s W k) (blocks s) (finished (flushed_to s k).partitions) ≡ true
  unfolding flushed_card
  parts-flushed e = rw finished-flushed (flush-formed W (blocks s) k ps long on few writable qs most free e)

  module _ (formed : partitions_formed W (blocks s) qs ≡ true) where
    pub lists-flushed : lists_ruled W s ≡ true → lists_ruled (flushed_card s W k) (flushed_to s k) ≡ true
    unfolding flushed_card
    lists-flushed e =
        rw (finished-flushed, every_append (lists_rule (flush_card W k ps)) qs (r ∷ []), flush-lists W (blocks s) k ps long on few writable)
        (and_both (every (lists_rule (flush_card W k ps)) qs) true (rules-kept (flush_card W k ps) W qs (flush-keeps W (blocks s) k ps long on few writable qs most free formed) ∙ e) refl)

    -- what was in partitions and buffer is in partitions
    pub inside-flushed : in_partitions (flushed_card s W k) (finished (flushed_to s k).partitions) ≡ stored W s
    unfolding flushed_card stored
    inside-flushed = rw finished-flushed (flush-stored W (blocks s) k ps long on few writable qs most free formed)

    pub stored-flushed : stored (flushed_card s W k) (flushed_to s k) ≡ stored W s
    stored-flushed = unfold stored in (ap₂ (λ (x y : List Posting). x ++ y) inside-flushed none ∙ append-nil (stored W s))
      where
        none : buffered (flushed_to s k).buffer ≡ []
        none = unfold flushed_to in refl

  -- one block less is free
  pub free-flushed : length (free_blocks W (blocks s) s.taken) ≡ suc (length (free_blocks (flushed_card s W k) (blocks s) (flushed_to s k).taken))
  unfolding flushed_card flushed_to
  free-flushed =
      free-count W (blocks s) s.taken
      ∙ keep-less (is_free W) (is_free (flush_card W k ps)) k (λ b n. sym (store_other W (k ∷ []) (encode 0 ps) b (apart b n))) free taken (up_to (blocks s)) (different-rising 0 (blocks s)) (elem-rising 0 (blocks s) k (omega arith) (omega (arith, on)))
      ∙ ap suc (sym (free-count (flush_card W k ps) (blocks s) k))
    where
      apart : (b : ℕ) → (k ≡ b → ⊥) → elem b (k ∷ []) ≡ false
      apart b n = rw (ne_eqb k b n)

      taken : is_free (flush_card W k ps) k ≡ false
      taken = written-taken W (k ∷ []) (encode 0 ps) (blocks s) k long most (and_both (ltb k (blocks s)) true (lt-ltb k (blocks s) on) refl) refl (rw (eq-eqb k k refl))
