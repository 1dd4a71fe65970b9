-- The program's input: cut into lines, each obeyed, and the same byte by byte, as the input comes in.
use Rattle.std.specs.Prelude.{Bool, true, cond, List, [], ◌∷◌, ◌++◌, ◌≡◌, ℕ, ◌+◌, ◌≤◌, ◌<◌, eqb, length, get_or, take}
use Rattle.lists.specs.Lists.{empty}
use Rattle.state.specs.declared.State.{State}
use Rattle.state.specs.Probe.{Probe}
use Rattle.windows.specs.Promises.{probe_of}
use Rattle.commands.specs.Commands.{command_of}
use Rattle.sessions.specs.Answering.{text_of, left_of}

-- the lines of what is left of an input, where f is what the line at hand has so far; a line feed (10) ends a line, and so does the input's end, if something
-- stands before it
unfoldable pub lines_from : List ℕ → List ℕ → List (List ℕ)
lines_from f [] = cond (empty f) [] (f ∷ [])
lines_from f (b ∷ l) = cond (eqb b 10) (f ∷ lines_from [] l) (lines_from (f ++ (b ∷ [])) l)

-- the lines of an input
abbrev pub lines : List ℕ → List (List ℕ)
lines input = lines_from [] input

-- the probe after lines obeyed one after another
unfoldable pub left_by : Probe → List (List ℕ) → Probe
left_by p [] = p
left_by p (l ∷ ls) = left_by (left_of p (command_of l)) ls

-- the texts of their answers, one after another
unfoldable pub text_by : Probe → List (List ℕ) → List ℕ
text_by p [] = []
text_by p (l ∷ ls) = text_of p (command_of l) ++ text_by (left_of p (command_of l)) ls

-- what the program has in hand: the probe, the bytes of the line so far, and the text printed so far. Of a line no more than 513 bytes are kept: it is no command
-- then, whatever follows
pub record Hand : Type 0 where
  pub probe : Probe
  pub line : List ℕ
  pub text : List ℕ

-- a hand with a probe's parts
abbrev pub hand_of : State → List ℕ → List ℕ → List ℕ → List ℕ → Hand
hand_of s card register line text = record { probe = probe_of s card register; line = line; text = text }

-- the line in hand obeyed: its text is printed, and the next line begins
unfoldable pub obeyed : Hand → Hand
obeyed h = record {
  probe = left_of h.probe (command_of h.line);
  line = [];
  text = h.text ++ text_of h.probe (command_of h.line);
}

-- a byte kept
unfoldable pub kept : Hand → ℕ → Hand
kept h b = record { probe = h.probe; line = take 513 (h.line ++ (b ∷ [])); text = h.text }

-- a byte taken in
unfoldable pub taken_byte : Hand → ℕ → Hand
taken_byte h b = cond (eqb b 10) (obeyed h) (kept h b)

-- bytes taken in one after another
unfoldable pub taken : Hand → List ℕ → Hand
taken h [] = h
taken h (b ∷ l) = taken (taken_byte h b) l

-- the end of the input: a last line without line feed is a line
unfoldable pub ended : Hand → Hand
ended h = cond (empty h.line) h (obeyed h)

-- a text printed before what is in hand
unfoldable pub behind : List ℕ → Hand → Hand
behind text h = record { probe = h.probe; line = h.line; text = text ++ h.text }

-- what is in hand once the text is written out
unfoldable pub written : Hand → Hand
written h = record { probe = h.probe; line = h.line; text = [] }

-- pieces of the input taken in one after another, the text written out after each
unfoldable pub taken_batches : Hand → List (List ℕ) → Hand
taken_batches h [] = h
taken_batches h (piece ∷ pieces) = taken_batches (behind h.text (taken (written h) piece)) pieces

-- a probe before the first byte
abbrev pub fresh : Probe → Hand
fresh p = record { probe = p; line = []; text = [] }

-- a probe after the last line, and all that was printed
abbrev pub finished : Probe → List ℕ → Hand
finished p text = record { probe = p; line = []; text = text }

-- so many bytes of a piece, up to a line feed or the piece's end, are kept in the line's buffer, whatever probe and text are in hand
pub record Keeps (old : List ℕ) (n : ℕ) (piece : List ℕ) (new : List ℕ) (m passed : ℕ) : Type 0 where
  pub same : (p : Probe) (text : List ℕ) → ◌≡◌ {A = Hand} (record { probe = p; line = take m new; text = text }) (taken (record { probe = p; line = take n old; text = text }) (take passed piece))
  pub few : m ≤ 513
  pub within : passed ≤ length piece
  pub stops : passed < length piece → get_or piece passed 0 ≡ 10

-- `after` is what is in hand once so many bytes of a piece are taken in: all, unless a buffer of `room` bytes, of which `used` are text, may be too small for one
-- more line's text. A buffer that can hold one always lets some be taken in
pub record Takes (before : Hand) (piece : List ℕ) (passed room used keeps : ℕ) (after : Hand) : Type 0 where
  pub hand : after ≡ taken before (take passed piece)
  pub within : passed ≤ length piece
  pub stops : passed < length piece → room < used + 1024
  pub moves : 0 < length piece → 1024 ≤ room → 0 < passed
  pub fits : used ≤ room
  pub few : keeps ≤ 513

-- `after` is what is in hand once the line in hand is obeyed, and the text fits a buffer of `room` bytes
pub record Answers (before : Hand) (room used : ℕ) (after : Hand) : Type 0 where
  pub hand : after ≡ obeyed before
  pub fits : used ≤ room

-- the same at the end of the input
pub record Ends (before : Hand) (room used : ℕ) (after : Hand) : Type 0 where
  pub hand : after ≡ ended before
  pub fits : used ≤ room

-- once a piece is taken in and its text is written out, this is in hand; where a write failed, nothing is said
pub record Serves (before : Hand) (piece : List ℕ) (good : Bool) (keeps : ℕ) (after : Hand) : Type 0 where
  pub hand : good ≡ true → after ≡ written (taken before piece)
  pub few : keeps ≤ 513
