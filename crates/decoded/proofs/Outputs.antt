-- The blocks that a step writes its output to: those that the output has, or the next free ones.
use Rattle.lists.proofs.Prelude.{Bool, true, false, ◌&&◌, not, cond, true≢false, List, [], ◌∷◌, ◌++◌, ◌≡◌, refl, sym, ap, ◌∙◌, ℕ, ◌<◌, ◌≤◌, ltb, length, take, length-take-le, ltb-true, ltb-false, every, elem, different, by-test, and_left, and_right, and_both, every_take, every-elem, different-take, elem-right, not-true}
use Rattle.state.specs.declared.Partition.{Partition}
use Rattle.state.specs.declared.State.{State}
use Rattle.state.specs.Views.{blocks, finished}
use Rattle.card.specs.Blocks.{is_free, free_blocks, on_card}
use Rattle.card.proofs.Links.{length-chain}
use Rattle.blocks.proofs.Stores.{apart}
use Rattle.blocks.proofs.FreeBlocks.{free_on, free-free, free-different}
use Rattle.partitions.specs.Reading.{chain_of}
use Rattle.partitions.specs.Formed.{chains_of}
use Rattle.plans.specs.Merging.{taking, result, output_blocks}
use Rattle.plans.specs.Step.{in_progress, output_chain, output_chain_on, last_of}
use Rattle.accounts.specs.Lists.{Lists}
use Rattle.decoded.specs.Portions.{output_of, occupied}
use Rattle.decoded.proofs.Disjoint.{Apart, apart-swap, apart-left, apart-right, apart-test, different-parts}
use Rattle.decoded.proofs.Holds.{Holds}
use Rattle.decoded.proofs.Unused.{going}

-- blocks of the card, none twice, as many as the result takes, none of them a finished partition's; the output in progress has no others
pub record Output (W : List ℕ) (s : State) (bs : List ℕ) : Type 0 where
  pub on : on_card (blocks s) bs ≡ true
  pub once : different bs ≡ true
  pub size : length bs ≡ output_blocks (result (taking W s))
  pub apart : Apart bs (chains_of W (finished s.partitions))
  pub covers : (b : ℕ) → elem b bs ≡ false → elem b (output_of W s) ≡ false

module _ (s : State) (W : List ℕ) (e : Lists) (h : Holds s W e) where
  -- what is on the card and free is of no partition
  free-unoccupied : (b : ℕ) → b < blocks s → is_free W b ≡ true → elem b (occupied W s) ≡ false
  free-unoccupied b low f = not-true (elem b (occupied W s)) (sym (h.free b low) ∙ f)

  going-output : in_progress s ≡ true → Output W s (output_chain W s (taking W s))
  going-output y =
      let k = going s W e h y in
      let d = different-parts (output_chain W s (taking W s)) (chains_of W (finished s.partitions)) k.apart in
      record {
        on = k.on;
        once = d.0;
        size = length-chain W s.merge.first (output_blocks (result (taking W s)));
        apart = d.2;
        covers = λ b n. ap (elem b) out ∙ n;
      }
    where
      out : output_of W s ≡ output_chain W s (taking W s)
      out = unfold output_of in ap (λ t. cond t (output_chain W s (taking W s)) []) y

  new-output : in_progress s ≡ false → output_blocks (result (taking W s)) ≤ length (free_blocks W (blocks s) s.taken)
      → Output W s (take (output_blocks (result (taking W s))) (free_blocks W (blocks s) s.taken))
  new-output n enough = record {
    on = on-card;
    once = different-take k free (free-different W (blocks s) s.taken);
    size = length-take-le k free enough;
    apart = λ b m. all_apart b (every-elem (λ c. ltb c (blocks s)) (take k free) b on-card m) (every-elem (is_free W) (take k free) b (every_take (is_free W) k free (free-free W (blocks s) s.taken)) m);
    covers = λ b m. ap (elem b) out;
  }
    where
      k : ℕ
      k = output_blocks (result (taking W s))

      free : List ℕ
      free = free_blocks W (blocks s) s.taken

      on-card : on_card (blocks s) (take k free) ≡ true
      on-card = every_take (λ c. ltb c (blocks s)) k free (free_on W (blocks s) s.taken)

      out : output_of W s ≡ []
      out = unfold output_of in ap (λ t. cond t (output_chain W s (taking W s)) []) n

      all_apart : (b : ℕ) → ltb b (blocks s) ≡ true → is_free W b ≡ true → elem b (chains_of W (finished s.partitions)) ≡ false
      all_apart b low f =
          by-test (elem b (chains_of W (finished s.partitions)))
          (λ m. absurd (true≢false (sym (elem-right b (output_of W s) (chains_of W (finished s.partitions)) m) ∙ free-unoccupied b (ltb-true b (blocks s) low) f)))
          (λ z. z)

  -- the blocks that the step writes to
  pub step-output : (not (in_progress s) && ltb (length (free_blocks W (blocks s) s.taken)) (output_blocks (result (taking W s)))) ≡ false → Output W s (output_chain_on W s (taking W s))
  unfolding output_chain_on
  step-output twelve = go (in_progress s) refl
    where
      go : (t : Bool) → in_progress s ≡ t → Output W s (cond t (output_chain W s (taking W s)) (take (output_blocks (result (taking W s))) (free_blocks W (blocks s) s.taken)))
      go true y = going-output y
      go false n = new-output n (ltb-false (length (free_blocks W (blocks s) s.taken)) (output_blocks (result (taking W s))) (sym (ap (λ t. not t && ltb (length (free_blocks W (blocks s) s.taken)) (output_blocks (result (taking W s)))) n) ∙ twelve))

-- ---- partitions apart from blocks

pub chains-more : (W : List ℕ) (q : Partition) (qs : List Partition) → chains_of W (q ∷ qs) ≡ chain_of W q ++ chains_of W qs
unfolding chains_of
chains-more W q qs = refl

pub each-apart : (W bs : List ℕ) (qs : List Partition) → Apart bs (chains_of W qs) → every (λ q. apart (chain_of W q) bs) qs ≡ true
each-apart W bs [] h = refl
each-apart W bs (q ∷ qs) h =
    let g : Apart (chain_of W q ++ chains_of W qs) bs = apart-swap bs (chain_of W q ++ chains_of W qs) (λ b m. ap (elem b) (sym (chains-more W q qs)) ∙ h b m) in
    and_both (apart (chain_of W q) bs) _ (apart-test (chain_of W q) bs (apart-left (chain_of W q) (chains_of W qs) bs g))
    (each-apart W bs qs (apart-swap (chains_of W qs) bs (apart-right (chain_of W q) (chains_of W qs) bs g)))

-- the block last taken stays on the card
pub last_on : (n t : ℕ) (bs : List ℕ) → t < n → on_card n bs ≡ true → last_of t bs < n
last_on n t [] low e = low
last_on n t (b ∷ bs) low e = last_on n b bs (ltb-true b n (and_left (ltb b n) _ e)) (and_right (ltb b n) _ e)
