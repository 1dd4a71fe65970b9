-- How a promise goes through the forms that calls are written in.
use Rattle.lists.proofs.Prelude.{Bool, true, false, ◌≡◌, refl, ℕ}
use Rattle.answers.specs.Answers.{Answer, Outcome, leave, refuse_if, choose, refused}
use Rattle.windows.specs.Promises.{Gives}

module _ {S : Type 0} {s : S} where
  -- refused by this test
  pub stopped : (t : Bool) (n : ℕ) (o : Outcome S) → t ≡ true → Gives s (refuse_if t n o) (refused n) s
  unfolding refuse_if
  stopped t n o e = rw e (record { answer = refl; left = refl })

  module _ {a : Answer} {after : S} where
    -- not refused by this test
    pub passed : (t : Bool) (n : ℕ) (o : Outcome S) → t ≡ false → Gives s o a after → Gives s (refuse_if t n o) a after
    unfolding refuse_if
    passed t n o e g = rw e g

    -- the first of two
    pub first : (t : Bool) (o p : Outcome S) → t ≡ true → Gives s o a after → Gives s (choose t o p) a after
    unfolding choose
    first t o p e g = rw e g

    -- the second of two
    pub second : (t : Bool) (o p : Outcome S) → t ≡ false → Gives s p a after → Gives s (choose t o p) a after
    unfolding choose
    second t o p e g = rw e g

    -- nothing refuses
    pub given : (t : S) → after ≡ t → Gives s (leave a t) a after
    given t e = record { answer = refl; left = e }
