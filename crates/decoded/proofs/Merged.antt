-- After the step that ends a merge, state and card hold what the account holds after it: the result in its inputs' place, and the inputs' blocks free.
use Rattle.lists.proofs.Prelude.{Bool, true, false, ◌||◌, ◌&&◌, not, cond, false≢true, List, [], ◌∷◌, ◌++◌, map, append-nil, ◌≡◌, refl, sym, ap, ap₂, ◌∙◌, ℕ, ◌*◌, ◌<◌, ◌≤◌, arith, length, get_or, take, drop, AllOf, every, empty, elem, different, by-test, and_left, and_both, every_append, every_take, every_drop, map-append, map-take, map-drop, elem-append, elem-left, elem-right, empty-none, elem-neither}
use Rattle.lists.proofs.Stores.{joined-append}
use Rattle.words.specs.Words.{all_ones}
use Rattle.postings.specs.declared.Posting.{Posting}
use Rattle.postings.specs.Merge.{nonzero}
use Rattle.state.specs.declared.Partition.{Partition}
use Rattle.state.specs.declared.State.{State}
use Rattle.state.specs.Views.{no_partition, no_merge, blocks, finished, buffer_of, partitions_of, with_partitions, with_taken, with_merge}
use Rattle.state.specs.Levels.{due_at, next_level, oldest_at, replaced}
use Rattle.state.proofs.Rows.{held}
use Rattle.state.proofs.Kept.{lengths-kept}
use Rattle.card.specs.Blocks.{no_block, is_free}
use Rattle.card.specs.Chains.{blocks_for}
use Rattle.blocks.specs.Writes.{store, release}
use Rattle.blocks.proofs.Stores.{Agree, apart, length-store, length-release, store_apart, release-apart, release-agrees}
use Rattle.blocks.proofs.FreeBlocks.{released-free, release_other, store_other, written-taken}
use Rattle.partitions.specs.Layout.{length_of, encode, written_as, record_for}
use Rattle.partitions.specs.Reading.{chain_of, postings_of}
use Rattle.partitions.specs.Formed.{partition_rule, chains_of, partitions_formed, Writable}
use Rattle.partitions.proofs.Lengths.{blocks-some}
use Rattle.partitions.proofs.Kept.{AgreeAll, chain-written, rule-written, postings-written, chain-kept, rule-kept, postings-kept, chains-kept, formed-kept}
use Rattle.plans.specs.Merging.{due_in, taking, result, output_level, output_record}
use Rattle.accounts.specs.Account.{Portion, due_of, merged, portion_of, completed}
use Rattle.accounts.specs.Lists.{Lists, with_account}
use Rattle.accounts.proofs.Stored.{level_of, parted}
use Rattle.decoded.specs.Portions.{portion_on, output_of, occupied, clean_past, tells}
use Rattle.decoded.proofs.Maps.{place_map}
use Rattle.decoded.proofs.Disjoint.{Apart, apart-swap, apart-left, apart-right, apart-join, apart-test, different-parts, different-join}
use Rattle.decoded.proofs.Holds.{Holds, due-is, taking-is, tells-own}
use Rattle.decoded.proofs.Past.{past-agree, past-written}
use Rattle.decoded.proofs.Unused.{chains-once, each-formed}
use Rattle.decoded.proofs.Outputs.{Output, chains-more}
use Rattle.decoded.proofs.Stepped.{portions-agree, sizes-agree}

pub chains-append : (W : List ℕ) (x y : List Partition) → chains_of W (x ++ y) ≡ chains_of W x ++ chains_of W y
unfolding chains_of
chains-append W x y = joined-append (chain_of W) x y

-- cards that agree on every block of partitions agree on each partition
pub agree-all : (W' W : List ℕ) (qs : List Partition) → Agree W' W (chains_of W qs) → AgreeAll W' W qs
unfolding AllOf
agree-all W' W [] h = tt
agree-all W' W (q ∷ qs) h = (
  λ d m. h d (ap (elem d) (chains-more W q qs) ∙ elem-left d (chain_of W q) (chains_of W qs) m),
  agree-all W' W qs (λ d m. h d (ap (elem d) (chains-more W q qs) ∙ elem-right d (chain_of W q) (chains_of W qs) m)),
)

module _ (s : State) (W : List ℕ) (e : Lists) (h : Holds s W e) (bs : List ℕ) (out : Output W s bs) (t : ℕ) (low : t < blocks s)
    (v : ℕ) (vs : List ℕ) (due : due_in s ≡ v ∷ vs) (fine : empty (result (taking W s)) ≡ false → Writable (result (taking W s))) where
  abbrev lv : Partition → ℕ
  lv p = p.level

  abbrev n : ℕ
  n = blocks s

  abbrev qs : List Partition
  qs = finished s.partitions

  abbrev at : ℕ
  at = oldest_at lv v qs

  -- the partitions before the inputs, the inputs, and those after
  abbrev A : List Partition
  A = take at qs

  abbrev B : List Partition
  B = take (due_at v) (drop at qs)

  abbrev C : List Partition
  C = drop (due_at v) (drop at qs)

  abbrev r : List Posting
  r = result (taking W s)

  abbrev level : ℕ
  level = output_level s

  abbrev W1 : List ℕ
  W1 = store W bs (encode level r)

  abbrev W' : List ℕ
  W' = release W1 (chains_of W B)

  abbrev R : List Partition
  R = output_record s r (get_or bs 0 no_block)

  most : n ≤ all_ones
  most = omega (arith, (lengths-kept s.lengths h.lengths).most_blocks)

  long1 : length W1 ≡ 1024 * n
  long1 = length-store W bs (encode level r) ∙ h.long

  -- ---- blocks

  all-chains : chains_of W qs ≡ chains_of W A ++ (chains_of W B ++ chains_of W C)
  all-chains = ap (chains_of W) (sym (parted lv v qs)) ∙ chains-append W A (B ++ C) ∙ ap (λ l. chains_of W A ++ l) (chains-append W B C)

  record Blocks : Type 0 where
    once_a : different (chains_of W A) ≡ true
    once_c : different (chains_of W C) ≡ true
    apart_ab : Apart (chains_of W A) (chains_of W B)
    apart_ac : Apart (chains_of W A) (chains_of W C)
    apart_bc : Apart (chains_of W B) (chains_of W C)
    apart_a : Apart bs (chains_of W A)
    apart_b : Apart bs (chains_of W B)
    apart_c : Apart bs (chains_of W C)

  blocked : Blocks
  blocked =
      let one = different-parts (chains_of W A) (chains_of W B ++ chains_of W C) (ap different (sym all-chains) ∙ chains-once s W e h) in
      let two = different-parts (chains_of W B) (chains_of W C) one.1 in
      let rest = apart-swap (chains_of W A) (chains_of W B ++ chains_of W C) one.2 in
      let mine : Apart (chains_of W A ++ (chains_of W B ++ chains_of W C)) bs = apart-swap bs (chains_of W A ++ (chains_of W B ++ chains_of W C)) (λ b m. ap (elem b) (sym all-chains) ∙ out.apart b m) in
      let later = apart-right (chains_of W A) (chains_of W B ++ chains_of W C) bs mine in
      record {
        once_a = one.0;
        once_c = two.1;
        apart_ab = apart-swap (chains_of W B) (chains_of W A) (apart-left (chains_of W B) (chains_of W C) (chains_of W A) rest);
        apart_ac = apart-swap (chains_of W C) (chains_of W A) (apart-right (chains_of W B) (chains_of W C) (chains_of W A) rest);
        apart_bc = two.2;
        apart_a = apart-swap (chains_of W A) bs (apart-left (chains_of W A) (chains_of W B ++ chains_of W C) bs mine);
        apart_b = apart-swap (chains_of W B) bs (apart-left (chains_of W B) (chains_of W C) bs later);
        apart_c = apart-swap (chains_of W C) bs (apart-right (chains_of W B) (chains_of W C) bs later);
      }

  -- ---- what is kept

  stays : (ds : List ℕ) → Apart ds bs → Apart ds (chains_of W B) → Agree W' W ds
  stays ds x y d m = release-apart W1 (chains_of W B) d (y d m) ∙ store_apart W bs (encode level r) d (x d m)

  keeps_a : AgreeAll W' W A
  keeps_a = agree-all W' W A (stays (chains_of W A) (apart-swap bs (chains_of W A) blocked.apart_a) blocked.apart_ab)

  keeps_c : AgreeAll W' W C
  keeps_c = agree-all W' W C (stays (chains_of W C) (apart-swap bs (chains_of W C) blocked.apart_c) (apart-swap (chains_of W B) (chains_of W C) blocked.apart_bc))

  -- ---- what is written

  written : Partition
  written = written_as bs level r

  record_is : empty r ≡ false → R ≡ written_as bs level r ∷ []
  record_is z = ap (λ u. cond u [] (record_for (get_or bs 0 no_block) level r ∷ [])) z ∙ ap (λ b. record_for b level r ∷ []) (first bs some)
    where
      some : 1 ≤ length bs
      some = omega (arith, out.size, ap (λ u. cond u 0 (blocks_for (length_of r))) z, blocks-some r)

      first : (l : List ℕ) → 1 ≤ length l → get_or l 0 no_block ≡ get_or l 0 0
      first [] g = absurd (omega arith)
      first (b ∷ l) g = refl

  record-none : empty r ≡ true → R ≡ []
  record-none y = ap (λ u. cond u [] (record_for (get_or bs 0 no_block) level r ∷ [])) y

  no_blocks : empty r ≡ true → bs ≡ []
  no_blocks y = empty-none bs (omega (arith, out.size ∙ ap (λ u. cond u 0 (blocks_for (length_of r))) y))

  module _ (z : empty r ≡ false) where
    sized : length bs ≡ blocks_for (length_of r)
    sized = out.size ∙ ap (λ u. cond u 0 (blocks_for (length_of r))) z

    chain-new1 : chain_of W1 (written_as bs level r) ≡ bs
    chain-new1 = chain-written W bs n level r h.long out.on out.once sized

    agree-new : Agree W' W1 (chain_of W1 (written_as bs level r))
    agree-new = release-agrees W1 (chains_of W B) (chain_of W1 (written_as bs level r)) (ap (λ l. apart l (chains_of W B)) chain-new1 ∙ apart-test bs (chains_of W B) blocked.apart_b)

    chain-new : chain_of W' (written_as bs level r) ≡ bs
    chain-new = chain-kept W' W1 (written_as bs level r) agree-new ∙ chain-new1

    rule-new : partition_rule W' n (written_as bs level r) ≡ true
    rule-new = rule-kept W' W1 (written_as bs level r) agree-new n ∙ rule-written W bs n level r h.long out.on out.once sized (fine z)

    postings-new : postings_of W' (written_as bs level r) ≡ r
    postings-new = postings-kept W' W1 (written_as bs level r) agree-new ∙ postings-written W bs n level r h.long out.on out.once sized (fine z)

  -- whether the result is empty or not
  chains-result : chains_of W' R ≡ bs
  chains-result =
      by-test (empty r)
      (λ y. ap (chains_of W') (record-none y) ∙ nothing ∙ sym (no_blocks y))
      (λ z. ap (chains_of W') (record_is z) ∙ chains-more W' (written_as bs level r) [] ∙ ap (λ l. chain_of W' (written_as bs level r) ++ l) nothing ∙ append-nil (chain_of W' (written_as bs level r)) ∙ chain-new z)
    where
      nothing : chains_of W' [] ≡ []
      nothing = unfold chains_of in refl

  rules-result : every (partition_rule W' n) R ≡ true
  rules-result =
      by-test (empty r) (λ y. ap (every (partition_rule W' n)) (record-none y))
      (λ z. ap (every (partition_rule W' n)) (record_is z) ∙ ap (λ u. u && true) (rule-new z))

  sizes-result : every (λ p. tells p (postings_of W' p)) R ≡ true
  sizes-result =
      by-test (empty r) (λ y. ap (every (λ p. tells p (postings_of W' p))) (record-none y))
      (λ z. ap (every (λ p. tells p (postings_of W' p))) (record_is z) ∙ ap (λ u. u && true) (tells-own bs level r _ (sym (postings-new z))))

  past-result : every (clean_past W') R ≡ true
  past-result =
      by-test (empty r) (λ y. ap (every (clean_past W')) (record-none y))
      (λ z. ap (every (clean_past W')) (record_is z) ∙ past-agree W' W1 (written_as bs level r ∷ []) (unfold AllOf in (agree-new z, tt))
      ∙ ap (λ u. u && true) (past-written W bs n level r h.long out.on out.once (sized z)))

  result-is : r ≡ merged e.account
  unfolding merged
  result-is = ap nonzero (taking-is s W e.account h.portions)

  portions-result : map (portion_on W') R ≡ portion_of e.account
  portions-result =
      by-test (empty r)
      (λ y. ap (map (portion_on W')) (record-none y) ∙ sym (ap (λ u. cond u [] (record { level = next_level (get_or (due_of e.account) 0 0); postings = merged e.account } ∷ [])) (ap empty (sym result-is) ∙ y)))
      (λ z. ap (map (portion_on W')) (record_is z)
      ∙ ap₂ (λ (us : List ℕ) (l : List Posting). record { level = next_level (get_or us 0 0); postings = l } ∷ []) (due-is s W e.account h.portions) (postings-new z ∙ result-is)
      ∙ sym (ap (λ u. cond u [] (record { level = next_level (get_or (due_of e.account) 0 0); postings = merged e.account } ∷ [])) (ap empty (sym result-is) ∙ z)))

  -- ---- the partitions afterwards

  abbrev new : List Partition
  new = A ++ (R ++ C)

  replaced-is : replaced lv (due_in s) qs R ≡ new
  replaced-is = ap (λ us. replaced lv us qs R) due

  chains-new : chains_of W' new ≡ chains_of W A ++ (bs ++ chains_of W C)
  chains-new =
      chains-append W' A (R ++ C)
      ∙ ap₂ (λ (x y : List ℕ). x ++ y) (chains-kept W' W A keeps_a) (chains-append W' R C ∙ ap₂ (λ (x y : List ℕ). x ++ y) chains-result (chains-kept W' W C keeps_c))

  new-once : different (chains_of W' new) ≡ true
  new-once =
      ap different chains-new
      ∙ different-join (chains_of W A) (bs ++ chains_of W C) blocked.once_a (different-join bs (chains_of W C) out.once blocked.once_c blocked.apart_c)
      (apart-swap (bs ++ chains_of W C) (chains_of W A) (apart-join bs (chains_of W C) (chains_of W A) blocked.apart_a (apart-swap (chains_of W A) (chains_of W C) blocked.apart_ac)))

  kept-rules : (l : List Partition) → AgreeAll W' W l → every (partition_rule W n) l ≡ true → different (chains_of W l) ≡ true → every (partition_rule W' n) l ≡ true
  kept-rules l g x y = and_left (every (partition_rule W' n) l) (different (chains_of W' l)) whole
    where
      whole : (every (partition_rule W' n) l && different (chains_of W' l)) ≡ true
      whole = unfold partitions_formed in (same-formed ∙ and_both (every (partition_rule W n) l) _ x y)
        where
          same-formed : (every (partition_rule W' n) l && different (chains_of W' l)) ≡ (every (partition_rule W n) l && different (chains_of W l))
          same-formed = unfold partitions_formed in formed-kept W' W n l g

  rules-all : every (partition_rule W n) qs ≡ true
  rules-all = each-formed s W e h

  formed-new : partitions_formed W' n new ≡ true
  unfolding partitions_formed
  formed-new =
      and_both (every (partition_rule W' n) new) _
      (every_append (partition_rule W' n) A (R ++ C)
      ∙ and_both (every (partition_rule W' n) A) _ (kept-rules A keeps_a (every_take (partition_rule W n) at qs rules-all) blocked.once_a)
      (every_append (partition_rule W' n) R C
      ∙ and_both (every (partition_rule W' n) R) _ rules-result
      (kept-rules C keeps_c (every_drop (partition_rule W n) (due_at v) (drop at qs) (every_drop (partition_rule W n) at qs rules-all)) blocked.once_c)))
      new-once

  sizes-new : every (λ p. tells p (postings_of W' p)) new ≡ true
  sizes-new =
      every_append right A (R ++ C)
      ∙ and_both (every right A) _ (sizes-agree W' W A keeps_a ∙ every_take right-before at qs h.sizes)
      (every_append right R C ∙ and_both (every right R) _ sizes-result (sizes-agree W' W C keeps_c ∙ every_drop right-before (due_at v) (drop at qs) (every_drop right-before at qs h.sizes)))
    where
      right : Partition → Bool
      right p = tells p (postings_of W' p)

      right-before : Partition → Bool
      right-before p = tells p (postings_of W p)

  past_all : every (clean_past W') new ≡ true
  past_all =
      every_append (clean_past W') A (R ++ C)
      ∙ and_both (every (clean_past W') A) _ (past-agree W' W A keeps_a ∙ every_take (clean_past W) at qs h.past)
      (every_append (clean_past W') R C
      ∙ and_both (every (clean_past W') R) _ past-result (past-agree W' W C keeps_c ∙ every_drop (clean_past W) (due_at v) (drop at qs) (every_drop (clean_past W) at qs h.past)))

  portions-new : map (portion_on W') new ≡ (completed e.account).partitions
  unfolding completed
  portions-new =
      map-append (portion_on W') A (R ++ C)
      ∙ ap₂ (λ (x y : List Portion). x ++ y) (portions-agree W' W A keeps_a)
      (map-append (portion_on W') R C ∙ ap₂ (λ (x y : List Portion). x ++ y) portions-result (portions-agree W' W C keeps_c))
      ∙ sym (ap₂ (λ (us : List ℕ) (l : List Portion). replaced level_of us l (portion_of e.account)) (sym (due-is s W e.account h.portions) ∙ due) (sym h.portions) ∙ seen)
    where
      f : Partition → Portion
      f = portion_on W

      seen : replaced level_of (v ∷ vs) (map f qs) (portion_of e.account) ≡ map f A ++ (portion_of e.account ++ map f C)
      seen =
          ap (λ k. take k (map f qs) ++ (portion_of e.account ++ drop (due_at v) (drop k (map f qs)))) (place_map f level_of v qs)
          ∙ sym (ap₂ (λ (x y : List Portion). x ++ (portion_of e.account ++ y)) (map-take f at qs) (map-drop f (due_at v) (drop at qs) ∙ ap (drop (due_at v)) (map-drop f at qs)))

  -- ---- free blocks

  free_new : (b : ℕ) → b < n → is_free W' b ≡ not (elem b (chains_of W A ++ (bs ++ chains_of W C)))
  free_new b within =
      by-test (elem b (chains_of W B))
      (λ y. released-free W1 (chains_of W B) n b long1 within y
      ∙ sym (ap not (elem-neither b (chains_of W A) (bs ++ chains_of W C) (apart-swap (chains_of W A) (chains_of W B) blocked.apart_ab b y)
      (elem-neither b bs (chains_of W C) (apart-swap bs (chains_of W B) blocked.apart_b b y) (blocked.apart_bc b y)))))
      (λ z. release_other W1 (chains_of W B) b z ∙ by-test (elem b bs)
      (λ y. written-taken W bs (encode level r) n b h.long most out.on out.once y
      ∙ sym (ap not (elem-right b (chains_of W A) (bs ++ chains_of W C) (elem-left b bs (chains_of W C) y))))
      (λ m. store_other W bs (encode level r) b m ∙ h.free b within ∙ ap not (before z m ∙ sym (after m))))
    where
      before : elem b (chains_of W B) ≡ false → elem b bs ≡ false → elem b (occupied W s) ≡ (elem b (chains_of W A) || elem b (chains_of W C))
      before z m =
          elem-append b (output_of W s) (chains_of W qs)
          ∙ ap₂ ◌||◌ (out.covers b m) (ap (elem b) all-chains ∙ elem-append b (chains_of W A) (chains_of W B ++ chains_of W C) ∙ ap (λ u. elem b (chains_of W A) || u) (elem-append b (chains_of W B) (chains_of W C) ∙ ap (λ u. u || elem b (chains_of W C)) z))

      after : elem b bs ≡ false → elem b (chains_of W A ++ (bs ++ chains_of W C)) ≡ (elem b (chains_of W A) || elem b (chains_of W C))
      after m = elem-append b (chains_of W A) (bs ++ chains_of W C) ∙ ap (λ u. elem b (chains_of W A) || u) (elem-append b bs (chains_of W C) ∙ ap (λ u. u || elem b (chains_of W C)) m)

  -- ---- the state

  abbrev s' : State
  s' = with_taken (with_merge (with_partitions s (partitions_of (replaced lv (due_in s) qs R))) no_merge) t

  finished-new : finished s'.partitions ≡ new
  finished-new = held 51 no_partition (replaced lv (due_in s) qs R) ∙ replaced-is

  occupied-new : occupied W' s' ≡ chains_of W A ++ (bs ++ chains_of W C)
  occupied-new = ap₂ (λ (x y : List ℕ). x ++ y) idle-output (ap (chains_of W') finished-new ∙ chains-new)
    where
      idle-output : output_of W' s' ≡ []
      idle-output = unfold output_of in refl

  pub holds-merged : Holds s' W' (with_account e (completed e.account))
  holds-merged = record {
    lengths = h.lengths;
    long = length-release W1 (chains_of W B) ∙ long1;
    windows = h.windows;
    listed = h.listed;
    buffer = h.buffer ∙ ap buffer_of buffer-same;
    partitions = ap partitions_of (sym (held 51 no_partition (replaced lv (due_in s) qs R)));
    taken = low;
    steps = steps-same;
    idle = λ z. refl;
    portions = ap (map (portion_on W')) finished-new ∙ portions-new;
    sizes = ap (every (λ p. tells p (postings_of W' p))) finished-new ∙ sizes-new;
    formed = ap (partitions_formed W' n) finished-new ∙ formed-new;
    past = ap (every (clean_past W')) finished-new ∙ past_all;
    output = λ y. absurd (false≢true y);
    free = λ b within. free_new b within ∙ ap (λ l. not (elem b l)) (sym occupied-new);
  }
    where
      buffer-same : e.account.buffer ≡ (completed e.account).buffer
      buffer-same = unfold completed in refl

      steps-same : 0 ≡ (completed e.account).steps
      steps-same = unfold completed in refl
