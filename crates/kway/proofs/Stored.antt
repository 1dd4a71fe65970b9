-- Words of 32 bits, and whether they hold postings.
use Rattle.lists.proofs.Prelude.{Bool, true, not, ◌&&◌, List, ◌≡◌, refl, sym, ◌∙◌, ℕ, zero, suc, ◌/◌, ◌%◌, ◌<◌, arith, leb, eqb, le-leb, lt-leb, eqb-true, eqb-false, AllOf, by-test, and_both}
use Rattle.words.specs.Words.{Below}
use Rattle.postings.specs.declared.Posting.{Posting}
use Rattle.postings.specs.Merge.{is_zero}
use Rattle.postings.specs.Pack.{signed, is_posting, posted}
use Rattle.postings.proofs.Trips.{posting-count}
use Rattle.card.specs.declared.Cursor.{Cursor}
use Rattle.card.specs.Cursors.{next_block, next_word, ahead_at, ahead}

-- a word has 32 bits
abbrev pub Small : ℕ → Type 0
Small x = x < 4294967296

-- what a rule of a list says of one posting
abbrev pub rule : Posting → Bool
rule p = leb 1 p.window && not (is_zero p.count)

sizeless-zero : (b n : ℕ) → n ≡ 0 → is_zero (signed b n) ≡ true
sizeless-zero zero zero e = refl
sizeless-zero (suc b) zero e = refl
sizeless-zero b (suc n) e = absurd (omega arith)

-- a word holds a posting where its posting keeps the rule
pub fine-rule : (i x : ℕ) → is_posting x ≡ rule (posted i x)
fine-rule i x =
    by-test (eqb (x / 65536) 0)
    (λ y. let z = eqb-true (x / 65536) 0 y in rw (y, lt-leb 1 (x / 65536) (omega arith)))
    (λ n. let d = eqb-false (x / 65536) 0 n in
    by-test (eqb (x % 32768) 0)
    (λ y. let z = eqb-true (x % 32768) 0 y in
    let s = sizeless-zero (x % 65536 / 32768) (x % 65536 % 32768) (omega arith) in
    rw (n, y, le-leb 1 (x / 65536) (omega arith), s))
    (λ m. let t : is_posting x ≡ true = rw (n, m) in
    t ∙ sym (and_both (leb 1 (x / 65536)) _ (le-leb 1 (x / 65536) (omega arith)) (rw (posting-count x t)))))

module _ (W : List ℕ) (small : Below 4294967296 W) where
  -- words along a chain are small
  pub small_at : (n b k : ℕ) → AllOf Small (ahead_at W n b k)
  unfolding AllOf ahead_at
  small_at zero b k = tt
  small_at (suc n) b k = (small _, small_at n (next_block W b k) (next_word k))

  -- the words that a cursor has to come are small
  pub small-ahead : (c : Cursor) → AllOf Small (ahead W c)
  small-ahead c = small_at c.left c.block c.word
