-- A flush on bytes comes to what a flush on lists comes to, with whatever follows it.
use Rattle.lists.proofs.Prelude.{Bool, true, false, List, ◌≡◌, refl, sym, ap, ◌∙◌, subst, ℕ, suc, ◌+◌, ◌*◌, ◌<◌, ◌≤◌, arith, ltb, leb, length, every, empty, empty-not}
use Rattle.lists.proofs.Padding.{length-padded}
use Rattle.words.specs.Words.{words, bytes}
use Rattle.words.proofs.Views.{words-bytes, length-bytes}
use Rattle.answers.specs.Answers.{Answer, Outcome, refuse, leave, refuse_if, choose, next, state_of, carry}
use Rattle.state.specs.declared.Buffer.{Buffer}
use Rattle.state.specs.declared.Partition.{Partition}
use Rattle.state.specs.declared.State.{State}
use Rattle.state.specs.Views.{no_posting, blocks, buffered, finished}
use Rattle.state.specs.Levels.{of_level}
use Rattle.state.specs.Rules.{buffer_rule}
use Rattle.state.proofs.Kept.{lengths-kept, rules-of, buffer-kept}
use Rattle.card.specs.Blocks.{is_free, free_blocks}
use Rattle.blocks.proofs.FreeBlocks.{free-at}
use Rattle.partitions.specs.Formed.{Writable}
use Rattle.flushes.proofs.Flushed.{buffer-writable}
use Rattle.flushes.specs.Flush.{finished_blocks, flushed_to, next_free, flushed_card, flushing, flushing_if}
use Rattle.accounts.specs.Account.{Account, blocks_in, merged, blocks_ahead, flushed_account, flushing as account_flushing, flushing_if as account_flushing_if}
use Rattle.accounts.specs.Lists.{Lists, lists_rule, with_account}
use Rattle.accounts.proofs.Stored.{level_of}
use Rattle.accounts.proofs.Steps.{Progress}
use Rattle.accounts.proofs.Shaped.{portion_rule}
use Rattle.decoded.specs.Portions.{portion_on}
use Rattle.decoded.proofs.Maps.{count_map}
use Rattle.decoded.proofs.Holds.{Holds, buffer-is}
use Rattle.decoded.proofs.Ruled.{ruled}
use Rattle.decoded.proofs.Unused.{finished-is, none_free}
use Rattle.decoded.proofs.Flushed.{holds-flushed}

-- ---- outcomes that are the same

-- both refuse with one number, or both give one answer and what is left is related
pub data Same {S : Type 0} (R : S → Lists → Type 0) : Outcome S → Outcome Lists → Type 0 where
  both_refuse : {n : ℕ} → Same R (refuse n) (refuse n)
  both_leave : {x : Answer} {s : S} {e : Lists} → R s e → Same R (leave x s) (leave x e)

-- with what is left seen otherwise
pub same-carry : {S T : Type 0} (R : S → Lists → Type 0) (Q : T → Lists → Type 0) (f : S → T) → ((s : S) (e : Lists) → R s e → Q (f s) e) → {o : Outcome S} {q : Outcome Lists} → Same R o q → Same Q (carry f o) q
same-carry R Q f h both_refuse = both_refuse
same-carry R Q f h (both_leave {s = s} {e = e} r) = both_leave (h s e r)

-- a call more on what both left, where something else holds of the lists too
pub same_next : {S : Type 0} (R : S → Lists → Type 0) (Q : Lists → Type 0) {o : Outcome S} {q : Outcome Lists} → Same R o q → (e : Lists) → Q (state_of e q)
    → (f : S → Outcome S) (g : Lists → Outcome Lists) → ((s : S) (d : Lists) → R s d → Q d → Same R (f s) (g d)) → Same R (next o f) (next q g)
unfolding next
same_next R Q both_refuse e x f g h = both_refuse
same_next R Q (both_leave {s = s} {e = d} r) e x f g h = h s d r x

module _ {S : Type 0} (R : S → Lists → Type 0) where
  -- one test on both sides
  pub refusing : (t u : Bool) (n : ℕ) (o : Outcome S) (q : Outcome Lists) → t ≡ u → (u ≡ false → Same R o q) → Same R (refuse_if t n o) (refuse_if u n q)
  refusing t u n o q e h = subst (λ v. Same R (refuse_if v n o) (refuse_if u n q)) (sym e) (go u h)
    where
      go : (u : Bool) → (u ≡ false → Same R o q) → Same R (refuse_if u n o) (refuse_if u n q)
      go true h = unfold refuse_if in both_refuse
      go false h = unfold refuse_if in (h refl)

  -- a test on bytes alone that does not refuse
  pub passing : (t : Bool) (n : ℕ) (o : Outcome S) (q : Outcome Lists) → t ≡ false → Same R o q → Same R (refuse_if t n o) q
  passing t n o q e h = subst (λ v. Same R (refuse_if v n o) q) (sym e) (unfold refuse_if in h)

-- ---- what lists keep that a probe can hold

pub record Fine (n : ℕ) (e : Lists) : Type 0 where
  pub rule : lists_rule n e ≡ true
  pub parts : every portion_rule e.account.partitions ≡ true
  pub progress : Progress e.account
  pub writable : empty (merged e.account) ≡ false → Writable (merged e.account)

module _ (s : State) (card : List ℕ) (e : Lists) (h : Holds s (words card) e) (fine : Fine (blocks s) e) where
  -- the buffer keeps its rule
  pub buffer-ruled : buffer_rule s.windows s.buffer ≡ true
  buffer-ruled = (rules-of s (ruled s (words card) e h fine.rule)).buffer

  pub buffer-few : length (buffered s.buffer) ≤ 128
  buffer-few = omega (arith, ap length (buffer-is s (words card) e h), used)
    where
      used : length e.account.buffer ≤ 128
      used = subst (λ (b : Buffer). b.used ≤ 128) h.buffer (buffer-kept s.windows s.buffer buffer-ruled).used

  buffer-long : length s.buffer.postings ≡ 128
  buffer-long = ap (λ (b : Buffer). length b.postings) h.buffer ∙ length-padded no_posting 128 e.account.buffer (omega (arith, ap length (buffer-is s (words card) e h), buffer-few))

  buffer-used : s.buffer.used ≡ length e.account.buffer
  buffer-used = ap (λ (b : Buffer). b.used) h.buffer

  -- tests of a flush
  pub level-is : (v : ℕ) → of_level (λ (p : Partition). p.level) v (finished s.partitions) ≡ of_level level_of v e.account.partitions
  level-is v = sym (count_map (portion_on (words card)) level_of v (finished s.partitions)) ∙ ap (of_level level_of v) h.portions

  -- ---- with what follows

  module _ {S : Type 0} (R : S → Lists → Type 0) (k : State → List ℕ → Outcome S) (f : Account → Outcome Lists) where
    pub flush-same : ((s' : State) (card' : List ℕ) (a : Account) → Holds s' (words card') (with_account e a) → s'.lengths ≡ s.lengths → length card' ≡ length card → Same R (k s' card') (f a))
        → length card ≡ s.lengths.card → Same R (flushing s card k) (account_flushing (blocks s) e.account f)
    unfolding flushing account_flushing
    flush-same next whole =
        subst (λ t. Same R (choose t (k s card) written) (choose (empty e.account.buffer) (f e.account) listed)) (sym (ap empty (buffer-is s (words card) e h)))
        (go (empty e.account.buffer) refl)
      where
        W : List ℕ
        W = words card

        b : ℕ
        b = next_free s W

        written : Outcome S
        written =
            refuse_if (leb 16 (of_level (λ (p : Partition). p.level) 0 (finished s.partitions))) 10
            (refuse_if (ltb (blocks s) (2 * suc (finished_blocks s))) 11
            (refuse_if (empty (free_blocks W (blocks s) s.taken)) 12 (k (flushed_to s b) (bytes (flushed_card s W b)))))

        listed : Outcome Lists
        listed =
            refuse_if (leb 16 (of_level level_of 0 e.account.partitions)) 10
            (refuse_if (ltb (blocks s) (2 * suc (blocks_in e.account))) 11
            (refuse_if (ltb (blocks s) (suc (blocks_in e.account + blocks_ahead e.account))) 12 (f (flushed_account e.account))))

        afterwards : empty e.account.buffer ≡ false → empty (free_blocks W (blocks s) s.taken) ≡ false → Same R (k (flushed_to s b) (bytes (flushed_card s W b))) (f (flushed_account e.account))
        afterwards some left =
            next (flushed_to s b) (bytes (flushed_card s W b)) (flushed_account e.account)
            (subst (λ X. Holds (flushed_to s b) X (with_account e (flushed_account e.account))) (sym (words-bytes (flushed_card s W b))) there)
            (unfold flushed_to in refl)
            (length-bytes (flushed_card s W b) ∙ omega (arith, there.long, same_blocks, (lengths-kept s.lengths h.lengths).card, whole))
          where
            same_blocks : blocks (flushed_to s b) ≡ blocks s
            same_blocks = unfold flushed_to in refl

            here : (b < blocks s) × (is_free W b ≡ true)
            here = free-at W (blocks s) s.taken 0 (empty-not (free_blocks W (blocks s) s.taken) left)

            used : 1 ≤ s.buffer.used
            used = omega (arith, buffer-used, empty-not e.account.buffer some)

            there : Holds (flushed_to s b) (flushed_card s W b) (with_account e (flushed_account e.account))
            there = holds-flushed s W e h b here.0 here.1 buffer-few (buffer-writable s.windows s.buffer buffer-ruled buffer-long used) fine.progress

        go : (t : Bool) → empty e.account.buffer ≡ t → Same R (choose t (k s card) written) (choose t (f e.account) listed)
        go true q = unfold choose in (next s card e.account h refl refl)
        go false q = unfold choose in (
            refusing R _ _ 10 _ _ (ap (leb 16) (level-is 0)) λ _.
            refusing R _ _ 11 _ _ (ap (λ m. ltb (blocks s) (2 * suc m)) (finished-is s W e h fine.parts)) λ _.
            refusing R _ _ 12 _ _ (none_free s W e h fine.parts) λ twelve.
            afterwards q (none_free s W e h fine.parts ∙ twelve))

    pub flush_if-same : (t : Bool)
        → ((s' : State) (card' : List ℕ) (a : Account) → Holds s' (words card') (with_account e a) → s'.lengths ≡ s.lengths → length card' ≡ length card → Same R (k s' card') (f a))
        → length card ≡ s.lengths.card → Same R (flushing_if t s card k) (account_flushing_if (blocks s) t e.account f)
    unfolding flushing_if account_flushing_if choose
    flush_if-same true next whole = flush-same next whole
    flush_if-same false next whole = next s card e.account h refl refl
