-- Blocks that are chained already and are stored to again: where the new content keeps what was there and fills what was all ones, the card is filled.
use Rattle.lists.proofs.Prelude.{true, List, ◌++◌, ◌⊎◌, inl, inr, ⊎_elim, ◌≡◌, sym, ap, ◌∙◌, ℕ, ◌+◌, ◌*◌, ◌-◌, ◌/◌, ◌%◌, ◌<◌, ◌≤◌, arith, ltb, length, get_or, replicate, ltb-true, ltb-false, elem, different, by-test, elem-place}
use Rattle.words.specs.Words.{all_ones}
use Rattle.card.specs.Blocks.{link, on_card}
use Rattle.card.specs.Chains.{chain, chain_rule, content}
use Rattle.blocks.specs.Writes.{store}
use Rattle.card.proofs.Links.{rule-on, chained-link, content-at}
use Rattle.blocks.proofs.Stores.{length-store, store_apart}
use Rattle.blocks.proofs.Stored.{chain-stored, rule-stored, content-stored}
use Rattle.blocks.specs.Moves.{Fills}
use Rattle.blocks.proofs.ByteRule.{word_kept}

module _ (W bs c : List ℕ) (n : ℕ) (long : length W ≡ 1024 * n) (new : different bs ≡ true) (room : length c ≤ 1023 * length bs)
    (linked : chain W (get_or bs 0 0) (length bs) ≡ bs) (rule : chain_rule W n (get_or bs 0 0) (length bs) ≡ true)
    (fills : (i : ℕ) → i < 1023 * length bs
    → (get_or (c ++ replicate (1023 * length bs - length c) all_ones) i 0 ≡ get_or (content W bs) i 0) ⊎ (get_or (content W bs) i 0 ≡ all_ones)) where
  on : on_card n bs ≡ true
  on = ap (on_card n) (sym linked) ∙ rule-on W n (get_or bs 0 0) (length bs) rule

  -- a link stays
  link_stays : (j : ℕ) → j < length bs → link (store W bs c) (get_or bs j 0) ≡ link W (get_or bs j 0)
  link_stays j h =
      chained-link (store W bs c) bs n (get_or bs 0 0) (chain-stored W bs c n long on new) (rule-stored W bs c n long on new (omega arith)) j h
      ∙ sym (chained-link W bs n (get_or bs 0 0) linked rule j h)

  -- a word of the content stays or was all ones
  content-fills : (j r : ℕ) → j < length bs → r < 1023
      → (get_or (store W bs c) (1024 * get_or bs j 0 + r) 0 ≡ get_or W (1024 * get_or bs j 0 + r) 0) ⊎ (get_or W (1024 * get_or bs j 0 + r) 0 ≡ all_ones)
  content-fills j r h l =
      let a = content-at W n bs long on j r h l in
      let b = content-at (store W bs c) n bs (length-store W bs c ∙ long) on j r h l in
      let s = content-stored W bs c n long on new room in
      ⊎_elim
      (λ e. inl (sym b ∙ ap (λ (x : List ℕ). get_or x (1023 * j + r) 0) s ∙ e ∙ a))
      (λ e. inr (sym a ∙ e))
      (fills (1023 * j + r) (omega arith))

  word-fills : (k j : ℕ) → j < length bs → get_or bs j 0 ≡ k / 1024 → (get_or (store W bs c) k 0 ≡ get_or W k 0) ⊎ (get_or W k 0 ≡ all_ones)
  word-fills k j h e =
      let z : 1024 * get_or bs j 0 + k % 1024 ≡ k = omega arith in
      by-test (ltb (k % 1024) 1023)
      (λ y. rw z at (content-fills j (k % 1024) h (ltb-true (k % 1024) 1023 y)))
      (λ f. let q : k % 1024 ≡ 1023 = omega (arith, ltb-false (k % 1024) 1023 f) in
      let g : 1024 * get_or bs j 0 + 1023 ≡ k = omega arith in
      inl (rw g at (link_stays j h)))

  -- the whole card is only filled
  pub refills : Fills W (store W bs c)
  refills k h =
      by-test (elem (k / 1024) bs)
      (λ y. let p = elem-place bs (k / 1024) y in word-fills k p.0 p.1.0 p.1.1)
      (λ f. inl (word_kept W (store W bs c) k (store_apart W bs c (k / 1024) f)))
