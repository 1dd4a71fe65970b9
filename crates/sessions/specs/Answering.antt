-- What a line is answered, and what is there afterwards.
use Rattle.std.specs.Prelude.{List, ◌≡◌, ℕ}
use Rattle.std.specs.Prelude.{Option, None, Some}
use Rattle.answers.specs.Answers.{answer_of, state_of}
use Rattle.state.specs.Probe.{Probe}
use Rattle.engine.specs.Calls.{Call, probe_call}
use Rattle.texts.specs.Texts.{answer_text, unknown_text, Says}

-- the text for a call, and for a line that says none
unfoldable pub text_of : Probe → Option Call → List ℕ
text_of p None = unknown_text
text_of p (Some c) = answer_text (answer_of (probe_call p c))

-- the probe afterwards
unfoldable pub left_of : Probe → Option Call → Probe
left_of p None = p
left_of p (Some c) = state_of p (probe_call p c)

-- the first n bytes of a buffer are the text for a line that says c, and `after` is there then
pub record Obeys (p : Probe) (c : Option Call) (buffer : List ℕ) (n : ℕ) (after : Probe) : Type 0 where
  pub says : Says buffer n (text_of p c)
  pub left : after ≡ left_of p c
