-- The rule of all lists of partitions taken apart: each list by itself, and the windows that the records tell.
use Rattle.lists.proofs.Prelude.{Bool, true, false, ◌&&◌, and-true, and-false, List, ◌≡◌, ap, ◌∙◌, ℕ, every, every-both}
use Rattle.state.specs.declared.Partition.{Partition}
use Rattle.partitions.specs.Reading.{postings_of}
use Rattle.partitions.specs.Formed.{list_rule, span_rule, lists_rule}

-- each list by itself
abbrev pub lists_alone : List ℕ → List Partition → Bool
lists_alone W ps = every (λ p. list_rule (postings_of W p)) ps

-- the windows that the records tell
abbrev pub spans_told : List ℕ → List Partition → Bool
spans_told W ps = every (λ p. span_rule p (postings_of W p)) ps

pub lists-parts : (W : List ℕ) (ps : List Partition) → every (lists_rule W) ps ≡ (lists_alone W ps && spans_told W ps)
unfolding lists_rule
lists-parts W ps = every-both (λ p. list_rule (postings_of W p)) (λ p. span_rule p (postings_of W p)) ps

-- where the windows are those told, the lists alone decide
pub lists-spanned : (W : List ℕ) (ps : List Partition) → spans_told W ps ≡ true → every (lists_rule W) ps ≡ lists_alone W ps
lists-spanned W ps e = lists-parts W ps ∙ ap (λ b. lists_alone W ps && b) e ∙ and-true (lists_alone W ps)

pub lists-unspanned : (W : List ℕ) (ps : List Partition) → spans_told W ps ≡ false → every (lists_rule W) ps ≡ false
lists-unspanned W ps e = lists-parts W ps ∙ ap (λ b. lists_alone W ps && b) e ∙ and-false (lists_alone W ps)
