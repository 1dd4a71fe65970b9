-- The words of the first postings of an array.
use Rattle.lists.proofs.Prelude.{true, List, map, ◌≡◌, ap, ◌∙◌, ℕ, ◌+◌, ◌-◌, ◌<◌, ◌≤◌, arith, nat_abs, length, get_or, set, take, drop, length-map, List·getD-map, sets, get_or-take, length-take-le, leb-true, every, sets-back, every-at}
use Rattle.lists.proofs.Stores.{sets-turn}
use Rattle.postings.specs.declared.Posting.{Posting}
use Rattle.state.specs.Views.{no_posting}
use Rattle.partitions.specs.Layout.{word_of}
use Rattle.partitions.specs.Formed.{in_range}

module _ (all : List Posting) (n : ℕ) where
  -- packed one by one into an array of numbers: the word at place i
  pub packing-turn : (i : ℕ) → n ≤ length all → i < n → (l : List ℕ)
      → sets l i (drop i (map word_of (take n all))) ≡ sets (set l i (word_of (get_or all i no_posting))) (i + 1) (drop (i + 1) (map word_of (take n all)))
  packing-turn i fits h l =
      let e : length (map word_of (take n all)) ≡ n = length-map (take n all) word_of ∙ length-take-le n all fits in
      let g : get_or (map word_of (take n all)) i (word_of no_posting) ≡ word_of (get_or all i no_posting) =
      List·getD-map word_of (take n all) i no_posting ∙ ap word_of (get_or-take n all i no_posting h) in
      sets-turn l i (map word_of (take n all)) i (word_of no_posting) (omega arith) ∙ ap (λ (w : ℕ). sets (set l i w) (i + 1) (drop (i + 1) (map word_of (take n all)))) g

  -- its count fits a word
  pub posting-fits : (i : ℕ) → n ≤ length all → i < n → every (λ p. in_range p.count) (take n all) ≡ true → nat_abs (get_or all i no_posting).count ≤ 32767
  posting-fits i fits h e =
      let l : length (take n all) ≡ n = length-take-le n all fits in
      let g = every-at (λ p. in_range p.count) (take n all) no_posting e i (omega arith) in
      leb-true (nat_abs (get_or all i no_posting).count) 32767 (rw (get_or-take n all i no_posting h) at g)

-- then they stand in front
pub packed-words : (z : List ℕ) (ps : List Posting) (n : ℕ) → length ps ≡ n → n ≤ length z → take (n - 0) (sets z 0 (map word_of ps)) ≡ map word_of ps
packed-words z ps n e h =
    let m : n - 0 ≡ n = omega arith in
    rw m (sets-back z 0 n (map word_of ps) (length-map ps word_of ∙ e) (omega arith))
