-- How long a partition is, how many identifiers it has, and how many blocks it takes.
use Rattle.lists.proofs.Prelude.{not, List, [], ◌∷◌, map, ◌≡◌, refl, ℕ, ◌*◌, ◌≤◌, arith, eqb, length, length-append, length-map, joined, length-keep, length-joined}
use Rattle.postings.specs.declared.Posting.{Posting}
use Rattle.card.specs.Chains.{blocks_for}
use Rattle.partitions.specs.Layout.{identifiers_of, term_count, length_of, entry_of, word_of, encode}

-- the words of a partition are as many bytes as its length says
pub length-encode : (level : ℕ) (ps : List Posting) → 4 * length (encode level ps) ≡ length_of ps
unfolding encode length_of
length-encode level ps =
    let es = joined (map (entry_of ps) (identifiers_of ps)) in
    omega (arith, length-append es (map word_of ps), length-joined (entry_of ps) 3 (λ i. refl) (identifiers_of ps), length-map ps word_of)

-- Identifiers ------------------------------------------------------------------------------------------------------

-- no more identifiers than postings
pub terms-most : (ps : List Posting) → term_count ps ≤ length ps
terms-most [] = omega arith
terms-most (p ∷ ps) = omega (arith, terms-most ps, length-keep (λ i. not (eqb i p.id)) (identifiers_of ps))

-- and at least one where there is a posting
pub terms-some : (ps : List Posting) → 1 ≤ length ps → 1 ≤ term_count ps
terms-some [] h = absurd (omega arith)
terms-some (p ∷ ps) h = omega arith

-- Blocks -----------------------------------------------------------------------------------------------------------

-- as many blocks as a length takes hold it
pub blocks-hold : (bytes : ℕ) → bytes ≤ 4092 * blocks_for bytes
blocks-hold bytes = omega arith

-- every partition takes a block
pub blocks-some : (ps : List Posting) → 1 ≤ blocks_for (length_of ps)
unfolding length_of
blocks-some ps = omega arith

-- what a buffer of 128 postings is written as fits one block
pub length-buffer : (ps : List Posting) → length ps ≤ 128 → length_of ps ≤ 2080
unfolding length_of
length-buffer ps h = omega (arith, terms-most ps)

-- so a flush takes one block
pub one_block : (ps : List Posting) → length ps ≤ 128 → blocks_for (length_of ps) ≡ 1
one_block ps h = omega (arith, length-buffer ps h, blocks-some ps)
