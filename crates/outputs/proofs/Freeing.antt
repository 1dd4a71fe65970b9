-- The blocks of partitions freed, one partition after another.
use Rattle.lists.proofs.Prelude.{Bool, true, not, List, [], ◌∷◌, ◌++◌, map, ◌≡◌, refl, sym, ◌∙◌, ℕ, ◌+◌, ◌*◌, ◌<◌, ◌≤◌, arith, length, get_or, drop, replicate, sets, AllOf, every, elem, different, joined, and_left, and_right, and_both, every_append, turn, end, Parted, different-parts}
use Rattle.words.specs.Words.{all_ones}
use Rattle.state.specs.declared.Partition.{Partition}
use Rattle.card.specs.Chains.{blocks_for}
use Rattle.card.specs.Cursors.{InCard, Chained}
use Rattle.blocks.specs.Writes.{release}
use Rattle.blocks.proofs.Stores.{apart, length-release, chain-agree}
use Rattle.partitions.specs.Reading.{chain_of}
use Rattle.partitions.specs.Formed.{chains_of}
use Rattle.partitions.proofs.Kept.{AgreeAll, chains-kept, release-keeps}

-- blocks freed after others
pub release-append : (W a b : List ℕ) → release W (a ++ b) ≡ release (release W a) b
unfolding release
release-append W [] b = refl
release-append W (d ∷ a) b = release-append (sets W (1024 * d) (replicate 1024 all_ones)) a b

-- a test of all of joined lists is a test of each
every-joined : (t : ℕ → Bool) (f : Partition → List ℕ) (qs : List Partition) → every t (joined (map f qs)) ≡ true → every (λ q. every t (f q)) qs ≡ true
every-joined t f [] e = refl
every-joined t f (q ∷ qs) e =
    let s = sym (every_append t (f q) (joined (map f qs))) ∙ e in
    and_both (every t (f q)) _ (and_left (every t (f q)) _ s) (every-joined t f qs (and_right (every t (f q)) _ s))

-- so partitions whose blocks stand apart from others each do
pub every-chains : (W bs : List ℕ) (qs : List Partition) → every (λ d. not (elem d bs)) (chains_of W qs) ≡ true → every (λ q. apart (chain_of W q) bs) qs ≡ true
unfolding chains_of
every-chains W bs qs e = every-joined (λ d. not (elem d bs)) (chain_of W) qs e

-- the blocks of each are blocks of the card
abbrev pub AllChained : List ℕ → List Partition → Type 0
AllChained W ps = AllOf (λ p. Chained W p.first (blocks_for p.length)) ps

in-released : (W bs l : List ℕ) → AllOf (InCard W) l → AllOf (InCard (release W bs)) l
unfolding AllOf
in-released W bs [] g = tt
in-released W bs (d ∷ l) g = (record { few = g.0.few; inside = omega (arith, length-release W bs, g.0.inside) }, in-released W bs l g.1)

-- those that stand apart from freed blocks are chained as before
all-chained : (W bs : List ℕ) (qs : List Partition) → AgreeAll (release W bs) W qs → AllChained W qs → AllChained (release W bs) qs
unfolding AllOf
all-chained W bs [] a g = tt
all-chained W bs (q ∷ qs) a g =
    (rw (chain-agree (release W bs) W q.first (blocks_for q.length) a.0) (in-released W bs (chain_of W q) g.0), all-chained W bs qs a.1 g.1)

-- the blocks of the first i of the partitions are freed, and freeing the others' gives the whole
pub record Freeing (W₀ : List ℕ) (all : List Partition) (W : List ℕ) (i : ℕ) : Type 0 where
  pub chained : AllChained W (drop i all)
  pub apart : different (chains_of W (drop i all)) ≡ true
  pub rest : release W₀ (chains_of W₀ all) ≡ release W (chains_of W (drop i all))

module _ (W₀ : List ℕ) (all : List Partition) (W : List ℕ) (i : ℕ) (d : Partition) (w : Freeing W₀ all W i) where
  -- all are freed
  pub freeing-end : length all ≤ i → W ≡ release W₀ (chains_of W₀ all)
  unfolding chains_of release
  freeing-end h = sym (end (λ (l : List Partition). release W (chains_of W l)) all i h w.rest)

  module _ (h : i < length all) where
    abbrev p : Partition
    p = get_or all i d

    abbrev qs : List Partition
    qs = drop (i + 1) all

    next : drop i all ≡ p ∷ qs
    next = turn (λ (l : List Partition). l) all i d h refl

    parts : Parted (chain_of W p) (chains_of W qs)
    unfolding chains_of
    parts = different-parts (chain_of W p) (chains_of W qs) (rw next at w.apart)

    -- the next one's blocks are different blocks of the card
    pub freeing-chained : Chained W p.first (blocks_for p.length)
    unfolding AllOf
    freeing-chained = (rw next at w.chained).0

    pub freeing-different : different (chain_of W p) ≡ true
    freeing-different = parts.left

    keeps : AgreeAll (release W (chain_of W p)) W qs
    keeps = release-keeps W (chain_of W p) qs (every-chains W (chain_of W p) qs parts.apart)

    -- and they are freed
    pub freeing-on : (W₁ : List ℕ) → W₁ ≡ release W (chain_of W p) → Freeing W₀ all W₁ (i + 1)
    unfolding AllOf chains_of
    freeing-on W₁ x =
        let k = chains-kept (release W (chain_of W p)) W qs keeps in
        rw x
        (record {
          chained = all-chained W (chain_of W p) qs keeps (rw next at w.chained).1;
          apart = rw k parts.right;
          rest = w.rest ∙ rw next (release-append W (chain_of W p) (chains_of W qs) ∙ rw k);
        })
