-- A fresh card with its state and register holds nothing.
use Rattle.lists.proofs.Prelude.{true, false≢true, ◌≡◌, refl, ap, ◌∙◌, ℕ, ◌*◌, ◌/◌, arith, eqb, length, drop, replicate, length-replicate, and_both, every_take, every_drop, every-replicate}
use Rattle.words.specs.Words.{words, all_ones}
use Rattle.words.proofs.Views.{words-ones}
use Rattle.state.specs.Rules.{card_length, register_length, lengths_rule}
use Rattle.state.proofs.Kept.{LengthsKept, lengths-kept}
use Rattle.identifiers.proofs.Added.{names-zeros, rule-zeros}
use Rattle.card.specs.Blocks.{is_free}
use Rattle.partitions.specs.Formed.{chains_of, partitions_formed}
use Rattle.windows.specs.Calls.{fresh}
use Rattle.accounts.specs.Account.{empty_account}
use Rattle.accounts.specs.Lists.{no_lists}
use Rattle.decoded.specs.Portions.{output_of}
use Rattle.decoded.proofs.Holds.{Stored}

module _ (c r : ℕ) (card_fits : card_length c ≡ true) (register_fits : register_length r ≡ true) where
  both : lengths_rule (record { card = c; register = r }) ≡ true
  unfolding lengths_rule
  both = and_both (card_length c) _ card_fits register_fits

  sized : LengthsKept (record { card = c; register = r })
  sized = lengths-kept (record { card = c; register = r }) both

  -- the card's words are all ones
  ones : words (replicate c 255) ≡ replicate (1024 * (c / 4096)) all_ones
  ones = ap (λ n. words (replicate n 255)) whole ∙ words-ones (1024 * (c / 4096))
    where
      whole : c ≡ 4 * (1024 * (c / 4096))
      whole = omega (arith, sized.card)

  all-free : (b : ℕ) → is_free (words (replicate c 255)) b ≡ true
  all-free b =
      ap (λ W. is_free W b) ones
      ∙ every_take (eqb all_ones) 1024 (drop (1024 * b) (replicate (1024 * (c / 4096)) all_ones))
      (every_drop (eqb all_ones) (1024 * b) (replicate (1024 * (c / 4096)) all_ones) (every-replicate (eqb all_ones) (1024 * (c / 4096)) all_ones refl))

  pub stored-fresh : Stored (record { card = c; register = r }) (fresh c r) no_lists
  unfolding fresh no_lists empty_account
  stored-fresh = record {
    holds = record {
      lengths = both;
      long = ap length ones ∙ length-replicate (1024 * (c / 4096)) all_ones;
      windows = refl;
      listed = refl;
      buffer = refl;
      partitions = refl;
      taken = omega (arith, sized.fewest_blocks);
      steps = refl;
      idle = λ z. refl;
      portions = refl;
      sizes = refl;
      formed = unfold partitions_formed chains_of in refl;
      past = refl;
      output = λ y. absurd (false≢true y);
      free = λ b low. all-free b ∙ (unfold output_of chains_of in refl);
    };
    sized = refl;
    card = length-replicate c 255;
    register = length-replicate r 0;
    rule = rule-zeros r;
    names = names-zeros r;
  }
