-- The buffered postings counted by identifier.
use Rattle.lists.proofs.Prelude.{true, cond, List, [], ◌∷◌, ◌++◌, ◌≡◌, refl, sym, ap, ◌∙◌, ℕ, ◌+◌, ◌<◌, ◌≤◌, add-one, arith, eqb, leb, length, get_or, set, take, replicate, take-suc, get_or-take, length-take-le, leb-true, every, every-at, length-keep}
use Rattle.postings.specs.declared.Posting.{Posting}
use Rattle.state.specs.Views.{no_posting}
use Rattle.partitions.specs.Layout.{term_count}
use Rattle.partitions.proofs.Counts.{numbers, number_at, numbers_more, numbers-none, terms-more}
use Rattle.partitions.proofs.Lengths.{terms-most}

-- the first i of n postings of an array are counted: the numbers by identifier are ns, and there are so many identifiers
pub record Counting (all : List Posting) (n : ℕ) (ns : List ℕ) (terms i : ℕ) : Type 0 where
  pub most : i ≤ n
  pub counts : ns ≡ numbers (take i all)
  pub told : terms ≡ term_count (take i all)

-- at first none
pub counting-start : (all : List Posting) (n : ℕ) (ns : List ℕ) → ns ≡ replicate 1024 0 → Counting all n ns 0 0
counting-start all n ns e = record { most = omega arith; counts = e ∙ sym numbers-none; told = refl }

module _ (all : List Posting) (n : ℕ) (fits : n ≤ length all) where
  module _ (ns : List ℕ) (terms i : ℕ) (g : Counting all n ns terms i) where
    taken : length (take i all) ≡ i
    taken = length-take-le i all (omega (arith, g.most))

    -- there are no more identifiers than postings
    pub counting-terms : terms ≤ i
    counting-terms = omega (arith, g.told, terms-most (take i all), taken)

    module _ (small : every (λ p. leb p.id 1023) (take n all) ≡ true) (h : i < n) where
      abbrev p : Posting
      p = get_or all i no_posting

      pub counting-id : p.id ≤ 1023
      counting-id =
          let l : length (take n all) ≡ n = length-take-le n all fits in
          let e = every-at (λ q. leb q.id 1023) (take n all) no_posting small i (omega arith) in
          leb-true p.id 1023 (rw (get_or-take n all i no_posting h) at e)

      -- nor of one identifier
      pub counting-few : get_or ns p.id 0 ≤ i
      counting-few =
          let e : get_or ns p.id 0 ≡ _ = ap (λ (l : List ℕ). get_or l p.id 0) g.counts ∙ number_at (take i all) p.id (omega (arith, counting-id)) in
          omega (arith, length-keep (λ q. eqb q.id p.id) (take i all), taken)

      -- the next is counted
      pub counting-on : Counting all n (set ns p.id (get_or ns p.id 0 + 1)) (cond (eqb (get_or ns p.id 0) 0) (terms + 1) terms) (i + 1)
      counting-on =
          let t : take (i + 1) all ≡ take i all ++ (p ∷ []) = rw add-one (take-suc all i no_posting (omega arith)) in
          record {
            most = omega arith;
            counts = rw (t, g.counts) (sym (numbers_more (take i all) p counting-id));
            told = rw (t, g.counts, g.told) (sym (terms-more (take i all) p counting-id));
          }
