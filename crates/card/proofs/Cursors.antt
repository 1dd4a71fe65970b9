-- Laws of a cursor: what is ahead of it is its head and what is ahead of the moved cursor.
use Rattle.lists.proofs.Prelude.{◌&&◌, List, ◌∷◌, ◌≡◌, refl, ap, ℕ, zero, suc, ◌-◌, ◌<◌, arith, eqb, ltb, length, lt-ltb, eq-eqb, by-test}
use Rattle.card.specs.declared.Cursor.{Cursor}
use Rattle.card.specs.Blocks.{link}
use Rattle.card.specs.Cursors.{word_in, InCard, next_block, next_word, ahead_at, ahead, good_at, Good, head_of, moved_of}

module _ (W : List ℕ) where
  length_at : (n b i : ℕ) → length (ahead_at W n b i) ≡ n
  unfolding ahead_at
  length_at zero b i = refl
  length_at (suc n) b i = ap suc (length_at n (next_block W b i) (next_word i))

  -- a cursor has as many words to come as it says
  pub length-ahead : (c : Cursor) → length (ahead W c) ≡ c.left
  length-ahead c = length_at c.left c.block c.word

  module _ (b i : ℕ) where
    abbrev moves : ℕ → Cursor
    moves n = moved_of W (record { block = b; word = i; left = n })

    ahead-at : (n : ℕ) → 0 < n → ahead_at W n b i ≡ word_in W b i ∷ ahead W (moves n)
    unfolding ahead_at
    ahead-at zero h = absurd (omega arith)
    ahead-at (suc zero) h = by-test (eqb i 1022) (λ y. rw y) (λ y. rw y)
    ahead-at (suc (suc n)) h =
        let t = lt-ltb 1 (suc (suc n)) (omega arith) in
        let e : suc (suc n) - 1 ≡ suc n = omega arith in
        by-test (eqb i 1022) (λ y. rw (y, t, e)) (λ y. rw (y, e))

    good-at : (n : ℕ) → 0 < n → good_at W n b i → (i < 1023) × InCard W b × Good W (moves n)
    unfolding good_at
    good-at zero h g = absurd (omega arith)
    good-at (suc zero) h g = (g.0, g.1, by-test (eqb i 1022) (λ y. rw y tt) (λ y. rw y tt))
    good-at (suc (suc n)) h g =
        let t = lt-ltb 1 (suc (suc n)) (omega arith) in
        let e : suc (suc n) - 1 ≡ suc n = omega arith in
        (g.0, g.1, by-test (eqb i 1022) (λ y. rw (y, t, e) (rw y at g.2)) (λ y. rw (y, e) (rw y at g.2)))

    link_at : (n : ℕ) → 1 < n → good_at W n b i → i ≡ 1022 → InCard W (link W b)
    unfolding good_at
    link_at zero h g e = absurd (omega arith)
    link_at (suc zero) h g e = absurd (omega arith)
    link_at (suc (suc n)) h g e = (rw (eq-eqb i 1022 e) at g.2).1

  module _ (c : Cursor) (h : 0 < c.left) where
    -- the words to come are the head and those of the moved cursor
    pub ahead_more : ahead W c ≡ head_of W c ∷ ahead W (moved_of W c)
    ahead_more = ahead-at c.block c.word c.left h

    module _ (g : Good W c) where
      -- the head is a content word
      pub in_block : c.word < 1023
      in_block = (good-at c.block c.word c.left h g).0

      -- of a block of the card
      pub in-card : InCard W c.block
      in-card = (good-at c.block c.word c.left h g).1

      -- and so are the words of the moved cursor
      pub good-moved : Good W (moved_of W c)
      good-moved = (good-at c.block c.word c.left h g).2

  -- the link that a cursor follows names a block of the card
  pub link-in : (c : Cursor) → 1 < c.left → Good W c → c.word ≡ 1022 → InCard W (link W c.block)
  link-in c h g e = link_at c.block c.word c.left h g e

-- a cursor that moves has less to come
pub moved-less : (W : List ℕ) (c : Cursor) → 0 < c.left → (moved_of W c).left < c.left
moved-less W c h =
    by-test (eqb c.word 1022 && ltb 1 c.left)
    (λ y. rw y (omega arith))
    (λ y. rw y (omega arith))
