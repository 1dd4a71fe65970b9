-- How far a plan comes, and what is told of it, on whatever its calls are made.
use Rattle.std.specs.Prelude.{cond, List, [], ◌∷◌, ℕ, suc, ltb}
use Rattle.answers.specs.Answers.{Halt, never, halted, Answer, forecast, Outcome, after}
use Rattle.forecasts.specs.Plan.{Planned, Placed}

-- what a forecast reads off: how many partitions stand at level 0, how many blocks finished partitions have, and how many identifiers the register has
pub record Gauge (S : Type 0) : Type 0 where
  pub low : S → ℕ
  pub blocks : S → ℕ
  pub entries : S → ℕ

module _ {S : Type 0} (g : Gauge S) (call : S → Planned → Outcome S) where
  -- what is told where s is left after so many flushes
  abbrev pub told : ℕ → S → Halt → Answer
  told flushes s h = forecast flushes (g.blocks s) (g.entries s) h

  -- one flush more where a call that found s and left t has written a partition
  abbrev pub writes : S → S → ℕ → ℕ
  writes s t flushes = cond (ltb (g.low s) (g.low t)) (suc flushes) flushes

  -- the calls are made one after another, until one is refused
  unfoldable pub follow : ℕ → S → List Placed → Answer
  follow flushes s [] = told flushes s never
  follow flushes s (c ∷ cs) = after (call s c.call) (λ n. told flushes s (halted c.window c.event n)) (λ t. follow (writes s t flushes) t cs)
