-- What is written as a partition keeps every rule of a partition that is read.
use Rattle.lists.proofs.Prelude.{true, List, ◌++◌, map, ◌≡◌, refl, sym, ap, ◌∙◌, ℕ, ◌+◌, ◌*◌, ◌≤◌, zero-add, eqb, leb, length, le-leb, eq-eqb, eqb-true, every, total_by, same, up_to, and_left, and_right, and_both, every_map, total-map, same_refl}
use Rattle.postings.specs.declared.Posting.{Posting}
use Rattle.postings.specs.Order.{ordered}
use Rattle.postings.specs.Sums.{under}
use Rattle.postings.specs.Spans.{lowest}
use Rattle.state.specs.declared.Partition.{Partition}
use Rattle.partitions.specs.Layout.{identifiers_of, term_count, total_length, length_of, encode}
use Rattle.partitions.specs.Reading.{field, entry_number, entry_count, entry_start}
use Rattle.partitions.specs.Formed.{header_rule, entries_rule, ascending, running, list_rule, span_rule}
use Rattle.partitions.proofs.Groups.{lower, every-identifier, identifiers-ascending, groups-some, groups-total, groups-running}
use Rattle.partitions.proofs.Lengths.{terms-some}
use Rattle.partitions.proofs.Entries.{field-postings, numbers-encoded, counts-encoded, firsts-encoded}

-- a list that may be used is in order
pub list-ordered : (ps : List Posting) → list_rule ps ≡ true → ordered ps ≡ true
unfolding list_rule
list-ordered ps e = and_left (ordered ps) _ e

module _ (level : ℕ) (ps : List Posting) (rest : List ℕ) where
  -- the header
  pub header-rule : (p : Partition) → 1 ≤ length ps → p.length ≡ length_of ps → p.level ≡ level → span_rule p ps ≡ true
      → header_rule p (encode level ps ++ rest) ≡ true
  unfolding encode length_of
  header-rule p s l v w =
      let n = term_count ps in
      let k = length ps in
      let t = total_length n k in
      let f = encode level ps ++ rest in
      and_both (leb 1 (field f 0)) _ (le-leb 1 n (terms-some ps s))
      (and_both (leb 1 (field f 1)) _ (le-leb 1 k s)
      (and_both (eqb (field f 2) 32) _ refl
      (and_both (eqb (field f 3) (32 + 12 * n)) _ (eq-eqb (field f 3) (32 + 12 * n) refl)
      (and_both (eqb (field f 4) t) _ (eq-eqb (field f 4) t refl)
      (and_both (eqb (field f 4) p.length) _ (eq-eqb (field f 4) p.length (sym l))
      (and_both (eqb (field f 5) p.level) _ (eq-eqb (field f 5) p.level (sym v))
      (and_both (eqb (field f 6) p.lowest) _ (eq-eqb (field f 6) p.lowest (sym (eqb-true _ _ (and_left (eqb p.lowest (lowest ps)) _ w))))
      (eq-eqb (field f 7) p.highest (sym (eqb-true _ _ (and_right (eqb p.lowest (lowest ps)) _ w)))))))))))

  -- the entries
  pub entries-rule : ordered ps ≡ true → every (λ p. leb p.id 1023) ps ≡ true → entries_rule (encode level ps ++ rest) ≡ true
  entries-rule o e =
      let c = encode level ps ++ rest in
      let js = up_to (field c 0) in
      let ns = numbers-encoded level ps rest in
      let cs = counts-encoded level ps rest in
      let fs = firsts-encoded level ps rest in
      let r : running 0 (map (λ i. length (under i ps)) (identifiers_of ps)) ≡ map (λ i. length (lower i ps)) (identifiers_of ps) =
      groups-running ps o 0 ∙ simp zero-add in
      and_both (ascending (map (entry_number c) js)) _ (ap ascending ns ∙ identifiers-ascending ps o)
      (and_both (every (λ j. leb (entry_number c j) 1023) js) _
      (sym (every_map (λ i. leb i 1023) (entry_number c) js) ∙ ap (every (λ i. leb i 1023)) ns ∙ every-identifier (λ i. leb i 1023) ps e)
      (and_both (every (λ j. leb 1 (entry_count c j)) js) _
      (sym (every_map (leb 1) (entry_count c) js) ∙ ap (every (leb 1)) cs ∙ every_map (leb 1) (λ i. length (under i ps)) (identifiers_of ps) ∙ groups-some ps)
      (and_both (same (map (entry_start c) js) (running 0 (map (entry_count c) js))) _
      (rw (fs, cs, r) (same_refl (map (λ i. length (lower i ps)) (identifiers_of ps))))
      (eq-eqb (total_by (entry_count c) js) (field c 1)
      (sym (total-map (λ k. k) (entry_count c) js) ∙ ap (total_by (λ k. k)) cs ∙ total-map (λ k. k) (λ i. length (under i ps)) (identifiers_of ps)
      ∙ groups-total ps o ∙ sym (field-postings level ps rest))))))
