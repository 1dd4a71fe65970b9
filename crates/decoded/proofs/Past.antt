-- The content past a partition's length: 255 in what is written, and as it was where its blocks are.
use Rattle.lists.proofs.Prelude.{true, ◌&&◌, List, [], ◌∷◌, ◌++◌, ◌≡◌, refl, ap, ap₂, ◌∙◌, ℕ, ◌*◌, ◌-◌, ◌/◌, arith, eqb, length, drop, replicate, drop_at, AllOf, every, different, every-replicate}
use Rattle.words.specs.Words.{all_ones}
use Rattle.postings.specs.declared.Posting.{Posting}
use Rattle.state.specs.declared.Partition.{Partition}
use Rattle.card.specs.Blocks.{on_card}
use Rattle.card.specs.Chains.{blocks_for}
use Rattle.blocks.specs.Writes.{store}
use Rattle.partitions.specs.Layout.{length_of, encode, written_as}
use Rattle.partitions.proofs.Lengths.{length-encode}
use Rattle.partitions.proofs.Kept.{AgreeAll, content-written, content-kept}
use Rattle.decoded.specs.Portions.{clean_past}

pub past-agree : (W' W : List ℕ) (l : List Partition) → AgreeAll W' W l → every (clean_past W') l ≡ every (clean_past W) l
unfolding AllOf clean_past
past-agree W' W [] g = refl
past-agree W' W (q ∷ l) g = ap₂ ◌&&◌ (ap (λ c. every (eqb all_ones) (drop (q.length / 4) c)) (content-kept W' W q g.0)) (past-agree W' W l g.1)

pub past-written : (W bs : List ℕ) (n level : ℕ) (ps : List Posting) → length W ≡ 1024 * n → on_card n bs ≡ true → different bs ≡ true → length bs ≡ blocks_for (length_of ps)
    → clean_past (store W bs (encode level ps)) (written_as bs level ps) ≡ true
unfolding clean_past
past-written W bs n level ps long on new fits =
    ap (λ c. every (eqb all_ones) (drop (length_of ps / 4) c)) (content-written W bs n level ps long on new fits)
    ∙ ap (λ k. every (eqb all_ones) (drop k (encode level ps ++ rest))) words_long
    ∙ ap (every (eqb all_ones)) (drop_at (encode level ps) rest (length (encode level ps)) refl)
    ∙ every-replicate (eqb all_ones) (1023 * length bs - length (encode level ps)) all_ones refl
  where
    rest : List ℕ
    rest = replicate (1023 * length bs - length (encode level ps)) all_ones

    words_long : length_of ps / 4 ≡ length (encode level ps)
    words_long = omega (arith, length-encode level ps)
