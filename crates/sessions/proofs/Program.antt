-- Bytes taken in one after another are lines cut and obeyed one after another.
use Rattle.lists.proofs.Prelude.{true, false, List, [], ◌∷◌, ◌++◌, append_assoc, append-nil, ◌≡◌, refl, sym, ◌∙◌, ap, ℕ, zero, suc, ◌+◌, ◌≤◌, ◌<◌, arith, eqb, leb, length, take, take_all, length-take-le, leb-true, leb-false, joined, by-test}
use Rattle.std.specs.Prelude.{Option}
use Rattle.state.specs.Probe.{Probe}
use Rattle.engine.specs.Calls.{Call}
use Rattle.texts.proofs.Splitting.{too_long}
use Rattle.commands.specs.Commands.{call_in, command_of}
use Rattle.sessions.specs.Answering.{text_of, left_of}
use Rattle.sessions.specs.Lines.{lines_from, lines, left_by, text_by, Hand, obeyed, kept, taken_byte, taken, ended, behind, written, taken_batches, fresh, finished}

-- a line feed, and any other byte
pub byte-feed : (h : Hand) (b : ℕ) → eqb b 10 ≡ true → taken_byte h b ≡ obeyed h
unfolding taken_byte
byte-feed h b e = rw e

pub byte-other : (h : Hand) (b : ℕ) → eqb b 10 ≡ false → taken_byte h b ≡ kept h b
unfolding taken_byte
byte-other h b e = rw e

lines-feed : (f : List ℕ) (b : ℕ) (l : List ℕ) → eqb b 10 ≡ true → lines_from f (b ∷ l) ≡ f ∷ lines_from [] l
unfolding lines_from
lines-feed f b l e = rw e

lines_other : (f : List ℕ) (b : ℕ) (l : List ℕ) → eqb b 10 ≡ false → lines_from f (b ∷ l) ≡ lines_from (f ++ (b ∷ [])) l
unfolding lines_from
lines_other f b l e = rw e

-- bytes taken in, and then more
pub taken_more : (h : Hand) (a b : List ℕ) → taken h (a ++ b) ≡ taken (taken h a) b
unfolding taken
taken_more h [] b = refl
taken_more h (x ∷ a) b = taken_more (taken_byte h x) a b

-- what is printed already changes nothing but the text
byte-behind : (t : List ℕ) (h : Hand) (b : ℕ) → taken_byte (behind t h) b ≡ behind t (taken_byte h b)
unfolding taken_byte behind obeyed kept
byte-behind t h b = by-test (eqb b 10) (λ e. rw e (rw append_assoc)) (λ e. rw e)

pub taken-behind : (t : List ℕ) (h : Hand) (l : List ℕ) → taken (behind t h) l ≡ behind t (taken h l)
unfolding taken
taken-behind t h [] = refl
taken-behind t h (b ∷ l) = ap (λ (g : Hand). taken g l) (byte-behind t h b) ∙ taken-behind t (taken_byte h b) l

unwritten : (h : Hand) → behind h.text (written h) ≡ h
unfolding behind written
unwritten h = rw append-nil

-- what is in hand does not depend on what was written out
pub written-taken : (h : Hand) (l : List ℕ) → written (taken (written h) l) ≡ written (taken h l)
unfolding written behind
written-taken h l = ap written (sym (taken-behind h.text (written h) l) ∙ ap (λ (g : Hand). taken g l) (unwritten h))

-- pieces taken in with the text written out after each are the input that they make up
pub batches-joined : (h : Hand) (pieces : List (List ℕ)) → taken_batches h pieces ≡ taken h (joined pieces)
unfolding taken_batches taken
batches-joined h [] = refl
batches-joined h (piece ∷ pieces) =
    batches-joined (behind h.text (taken (written h) piece)) pieces
    ∙ ap (λ (g : Hand). taken g (joined pieces)) (sym (taken-behind h.text (written h) piece) ∙ ap (λ (g : Hand). taken g piece) (unwritten h))
    ∙ sym (taken_more h piece (joined pieces))

-- a line's first 513 bytes say what the line says: nothing where it is longer than 512
cut-says : (l : List ℕ) → command_of (take 513 l) ≡ command_of l
cut-says l = by-test (leb (length l) 512) short long
  where
    short : leb (length l) 512 ≡ true → command_of (take 513 l) ≡ command_of l
    short e =
        let h : length l ≤ 513 = omega (arith, leb-true (length l) 512 e) in
        ap command_of (take_all 513 l h)

    long : leb (length l) 512 ≡ false → command_of (take 513 l) ≡ command_of l
    long e =
        let h : 512 < length l = leb-false (length l) 512 e in
        let k : 512 < length (take 513 l) = omega (arith, length-take-le 513 l (omega arith)) in
        ap call_in (too_long (take 513 l) k ∙ sym (too_long l h))

-- a byte more than the first 513 changes nothing
cut-more : (n : ℕ) (l m : List ℕ) → take n (take n l ++ m) ≡ take n (l ++ m)
cut-more zero l m = refl
cut-more (suc n) [] m = refl
cut-more (suc n) (x ∷ l) m = ap (λ (r : List ℕ). x ∷ r) (cut-more n l m)

-- a line obeyed by its first 513 bytes
obeyed-cut : (p : Probe) (f t : List ℕ) → obeyed (record { probe = p; line = take 513 f; text = t }) ≡ finished (left_of p (command_of f)) (t ++ text_of p (command_of f))
unfolding obeyed
obeyed-cut p f t = ap (λ (c : Option Call). finished (left_of p c) (t ++ text_of p c)) (cut-says f)

-- where f is the line so far
abbrev From : Probe → List ℕ → List ℕ → List ℕ → Type 0
From p f t input = ended (taken (record { probe = p; line = take 513 f; text = t }) input) ≡ finished (left_by p (lines_from f input)) (t ++ text_by p (lines_from f input))

-- a line feed, and any other byte
from-feed : (p : Probe) (f t input : List ℕ) → From (left_of p (command_of f)) [] (t ++ text_of p (command_of f)) input
    → ended (taken (obeyed (record { probe = p; line = take 513 f; text = t })) input) ≡ finished (left_by p (f ∷ lines_from [] input)) (t ++ text_by p (f ∷ lines_from [] input))
unfolding left_by text_by
from-feed p f t input h =
    ap (λ (g : Hand). ended (taken g input)) (obeyed-cut p f t) ∙ h
    ∙ ap (finished (left_by (left_of p (command_of f)) (lines_from [] input))) (append_assoc t (text_of p (command_of f)) (text_by (left_of p (command_of f)) (lines_from [] input)))

from_byte : (p : Probe) (f t input : List ℕ) (b : ℕ) → From p (f ++ (b ∷ [])) t input
    → ended (taken (kept (record { probe = p; line = take 513 f; text = t }) b) input) ≡ finished (left_by p (lines_from (f ++ (b ∷ [])) input)) (t ++ text_by p (lines_from (f ++ (b ∷ [])) input))
unfolding kept
from_byte p f t input b h = ap (λ (l : List ℕ). ended (taken (record { probe = p; line = l; text = t }) input)) (cut-more 513 f (b ∷ [])) ∙ h

input-from : (p : Probe) (f t input : List ℕ) → From p f t input
unfolding taken ended lines_from left_by text_by
input-from p [] t [] = rw append-nil
input-from p (x ∷ f) t [] = obeyed-cut p (x ∷ f) t ∙ rw append-nil
input-from p f t (b ∷ input) =
    let h : Hand = record { probe = p; line = take 513 f; text = t } in
    by-test (eqb b 10)
    (λ e. ap (λ (g : Hand). ended (taken g input)) (byte-feed h b e)
    ∙ from-feed p f t input (input-from (left_of p (command_of f)) [] (t ++ text_of p (command_of f)) input)
    ∙ ap (λ (ls : List (List ℕ)). finished (left_by p ls) (t ++ text_by p ls)) (sym (lines-feed f b input e)))
    (λ e. ap (λ (g : Hand). ended (taken g input)) (byte-other h b e)
    ∙ from_byte p f t input b (input-from p (f ++ (b ∷ [])) t input)
    ∙ ap (λ (ls : List (List ℕ)). finished (left_by p ls) (t ++ text_by p ls)) (sym (lines_other f b input e)))

-- THE PROGRAM: whatever pieces the input comes in, the probe left and the text printed are those of its lines, obeyed one after another
pub program : (p : Probe) (pieces : List (List ℕ)) → ended (taken_batches (fresh p) pieces) ≡ finished (left_by p (lines (joined pieces))) (text_by p (lines (joined pieces)))
program p pieces = ap ended (batches-joined (fresh p) pieces) ∙ input-from p [] [] (joined pieces)
