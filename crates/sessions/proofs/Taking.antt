-- What the code has in its buffers, as what is in hand.
use Rattle.lists.proofs.Prelude.{Bool, true, false, false≢true, List, [], ◌∷◌, ◌++◌, ◌≡◌, refl, sym, ◌∙◌, ap, ℕ, zero, suc, ◌+◌, ◌-◌, ◌≤◌, ◌<◌, add-one, arith, length, get_or, take, drop, set, length-append, length-set, length-drop, take_all, take-add, take-suc, take-suc-set, take-append-le, take-append-add, length-take-le, get_or-drop, eq-eqb, ne_eqb, take_rest}
use borrow.Rule.Slice.PartMut.{put_mid, post_of}
use Rattle.state.specs.Probe.{Probe}
use Rattle.commands.specs.Commands.{command_of}
use Rattle.sessions.specs.Answering.{text_of, Obeys}
use Rattle.sessions.specs.Lines.{Hand, obeyed, kept, taken_byte, taken, ended, written, Keeps, Answers, Takes, Ends, Serves}
use Rattle.sessions.proofs.Program.{taken_more, written-taken, byte-feed, byte-other}

-- one byte more of a piece
taken_next : (h : Hand) (piece : List ℕ) (i : ℕ) → i < length piece → taken h (take (i + 1) piece) ≡ taken_byte (taken h (take i piece)) (get_or piece i 0)
unfolding taken
taken_next h piece i k =
    ap (taken h) (ap (λ (j : ℕ). take j piece) (add-one i) ∙ take-suc piece i 0 k) ∙ taken_more h (take i piece) (get_or piece i 0 ∷ [])

-- m bytes are kept of a line, and i of the piece are taken in
pub record Keeping (old : List ℕ) (n : ℕ) (piece : List ℕ) (new : List ℕ) (m i : ℕ) : Type 0 where
  pub same : (p : Probe) (text : List ℕ) → ◌≡◌ {A = Hand} (record { probe = p; line = take m new; text = text }) (taken (record { probe = p; line = take n old; text = text }) (take i piece))
  pub few : m ≤ 513
  pub within : i ≤ length piece
  pub long : length new ≡ length old

pub keep-none : (old : List ℕ) (n : ℕ) (piece : List ℕ) → n ≤ 513 → Keeping old n piece old n 0
unfolding taken
keep-none old n piece h = record { same = λ p text. refl; few = h; within = omega arith; long = refl }

-- the line with a byte kept
kept-short : (l : List ℕ) (m b : ℕ) → m < 513 → m < length l → take 513 (take m l ++ (b ∷ [])) ≡ take (m + 1) (set l m b)
kept-short l m b h k =
    let e : length (take m l ++ (b ∷ [])) ≤ 513 = omega (arith, length-append (take m l) (b ∷ []), length-take-le m l (omega arith)) in
    take_all 513 (take m l ++ (b ∷ [])) e ∙ sym (ap (λ (j : ℕ). take j (set l m b)) (add-one m) ∙ take-suc-set l m b k)

kept_full : (l : List ℕ) (m b : ℕ) → m ≡ 513 → 513 ≤ length l → take 513 (take m l ++ (b ∷ [])) ≡ take m l
kept_full l m b e k =
    let w : length (take 513 l) ≡ 513 = length-take-le 513 l k in
    let u : 513 ≤ length (take 513 l) = omega arith in
    let v : length (take 513 l) ≤ 513 = omega arith in
    rw e (take-append-le 513 (take 513 l) (b ∷ []) u ∙ take_all 513 (take 513 l) v)

module _ {old piece new : List ℕ} {n m i : ℕ} where
  keep-byte : (new' : List ℕ) (m' : ℕ) → Keeping old n piece new m i → i < length piece → (get_or piece i 0 ≡ 10 → ⊥) → take 513 (take m new ++ (get_or piece i 0 ∷ [])) ≡ take m' new' → m' ≤ 513 → length new' ≡ length new
      → Keeping old n piece new' m' (i + 1)
  unfolding kept
  keep-byte new' m' s h f e g l = record {
    same = λ p text. ap (λ (l : List ℕ). record { probe = p; line = l; text = text }) (sym e)
        ∙ ap (λ (g : Hand). kept g (get_or piece i 0)) (s.same p text)
        ∙ sym (byte-other _ (get_or piece i 0) (ne_eqb (get_or piece i 0) 10 f))
        ∙ sym (taken_next (record { probe = p; line = take n old; text = text }) piece i h);
    few = g;
    within = omega arith;
    long = l ∙ s.long;
  }

  pub keep-more : Keeping old n piece new m i → i < length piece → (get_or piece i 0 ≡ 10 → ⊥) → m < 513 → m < length new → Keeping old n piece (set new m (get_or piece i 0)) (m + 1) (i + 1)
  keep-more s h f g k = keep-byte (set new m (get_or piece i 0)) (m + 1) s h f (kept-short new m (get_or piece i 0) g k) (omega arith) (length-set new m _)

  pub keep-past : Keeping old n piece new m i → i < length piece → (get_or piece i 0 ≡ 10 → ⊥) → 513 ≤ m → 513 ≤ length new → Keeping old n piece new m (i + 1)
  keep-past s h f g k =
      let e : m ≡ 513 = omega (arith, s.few) in
      keep-byte new m s h f (kept_full new m (get_or piece i 0) e k) s.few refl

  pub keep-stopped : Keeping old n piece new m i → (i < length piece → get_or piece i 0 ≡ 10) → Keeps old n piece new m i
  keep-stopped s f = record { same = s.same; few = s.few; within = s.within; stops = f }

  pub keep-as : {new' : List ℕ} {m' : ℕ} → new' ≡ new → m' ≡ m → Keeping old n piece new m i → Keeping old n piece new' m' i
  keep-as e f s = rw (e, f) s

-- a line obeyed, its text behind the first `used` bytes of a buffer
pub answered : {p after : Probe} {line new : List ℕ} {n : ℕ} (out : List ℕ) (used : ℕ) → used ≤ length out → Obeys p (command_of line) new n after
    → Answers (record { probe = p; line = line; text = take used out }) (length (put_mid used (length out - used) out new)) (used + n)
    (record { probe = after; line = []; text = take (used + n) (put_mid used (length out - used) out new) })
unfolding obeyed
answered {p = p} {line = line} {new = new} {n = n} out used h o =
    let rest : List ℕ = post_of used (length out - used) out in
    let l : length (take used out) ≡ used = length-take-le used out h in
    let k : n ≤ length new = o.says.fits in
    let e : take (used + n) (take used out ++ (new ++ rest)) ≡ take used out ++ text_of p (command_of line) =
    ap (λ (j : ℕ). take (j + n) (take used out ++ (new ++ rest))) (sym l) ∙ take-append-add (take used out) (new ++ rest) n
    ∙ ap (λ (t : List ℕ). take used out ++ t) (take-append-le n new rest k ∙ o.says.same) in
    record {
      hand = rw (o.left, e) refl;
      fits = omega (arith, length-append (take used out) (new ++ rest), length-append new rest);
    }

-- the end of the input, after a line feed or in a line
pub end_none : (p : Probe) (line : List ℕ) (n room : ℕ) → n ≡ 0 → Ends (record { probe = p; line = take n line; text = [] }) room 0 (record { probe = p; line = []; text = [] })
unfolding ended
end_none p line n room e = rw e (record { hand = refl; fits = omega arith })

ended-line : (p : Probe) (line : List ℕ) (n : ℕ) → (n ≡ 0 → ⊥) → n ≤ length line → ended (record { probe = p; line = take n line; text = [] }) ≡ obeyed (record { probe = p; line = take n line; text = [] })
unfolding ended
ended-line p line zero f h = absurd (f refl)
ended-line p [] (suc n) f h = let z : ⊥ = omega arith in absurd z
ended-line p (x ∷ line) (suc n) f h = refl

pub end_line : {p : Probe} {room used : ℕ} {after : Hand} (line : List ℕ) (n : ℕ) → (n ≡ 0 → ⊥) → n ≤ length line → Answers (record { probe = p; line = take n line; text = [] }) room used after
    → Ends (record { probe = p; line = take n line; text = [] }) room used after
end_line {p = p} line n f h a = record { hand = a.hand ∙ sym (ended-line p line n f h); fits = a.fits }

-- what is in hand, of which n bytes are a line, after i bytes of a piece, where `from` was in hand after i₀; the next byte is a line feed
pub record Batch (from : Hand) (i₀ : ℕ) (piece : List ℕ) (hand : Hand) (i n : ℕ) : Type 0 where
  pub same : (h : Hand) → from ≡ taken h (take i₀ piece) → hand ≡ taken h (take i piece)
  pub few : n ≤ 513
  pub within : i ≤ length piece
  pub stops : i < length piece → get_or piece i 0 ≡ 10

pub batch-none : {old new piece : List ℕ} {n m i : ℕ} (from : Hand) → Keeps old n piece new m i → Batch from i piece from i m
batch-none from k = record { same = λ h e. e; few = k.few; within = k.within; stops = k.stops }

-- what is left of a piece, as it is lent
pub rest-length : (piece : List ℕ) (a : ℕ) → length (take (length piece - a) (drop a piece)) ≡ length piece - a
rest-length piece a = ap length (take_rest a piece) ∙ length-drop a piece

-- a line obeyed, and the bytes of the next one
module _ {from : Hand} {piece line line' : List ℕ} {p p' : Probe} {text text' : List ℕ} {i₀ i n m room used passed : ℕ}
    (b : Batch from i₀ piece (record { probe = p; line = take n line; text = text }) i n) (l : i < length piece)
    (a : Answers (record { probe = p; line = take n line; text = text }) room used (record { probe = p'; line = []; text = text' }))
    (k : Keeps line 0 (take (length piece - (i + 1)) (drop (i + 1) piece)) line' m passed) where
  more_same : (h : Hand) → from ≡ taken h (take i₀ piece) → ◌≡◌ {A = Hand} (record { probe = p'; line = take m line'; text = text' }) (taken h (take (i + 1 + passed) piece))
  more_same h e =
      k.same p' text'
      ∙ ap (λ (r : List ℕ). taken (record { probe = p'; line = []; text = text' }) (take passed r)) (take_rest (i + 1) piece)
      ∙ ap (λ (g : Hand). taken g (take passed (drop (i + 1) piece)))
      (a.hand ∙ sym (byte-feed _ (get_or piece i 0) (eq-eqb (get_or piece i 0) 10 (b.stops l))) ∙ ap (λ (g : Hand). taken_byte g (get_or piece i 0)) (b.same h e) ∙ sym (taken_next h piece i l))
      ∙ sym (taken_more h (take (i + 1) piece) (take passed (drop (i + 1) piece)))
      ∙ ap (taken h) (sym (take-add (i + 1) passed piece))

  pub batch-more : Batch from i₀ piece (record { probe = p'; line = take m line'; text = text' }) (i + 1 + passed) m
  batch-more =
      let r : length (take (length piece - (i + 1)) (drop (i + 1) piece)) ≡ length piece - (i + 1) = rest-length piece (i + 1) in
      record {
        same = more_same;
        few = k.few;
        within = omega (arith, r, k.within);
        stops = λ h. sym (get_or-drop (i + 1) piece passed 0) ∙ sym (ap (λ (q : List ℕ). get_or q passed 0) (take_rest (i + 1) piece)) ∙ k.stops (omega (arith, r));
      }

-- a buffer with room for a line's text lets some bytes be taken in
moves-on : (before : Hand) (piece out : List ℕ) (passed used : ℕ) (p : Probe) (line : List ℕ) → before.text ≡ [] → used ≤ length out
    → record { probe = p; line = line; text = take used out } ≡ taken before (take passed piece) → (passed < length piece → length out < used + 1024) → 0 < length piece → 1024 ≤ length out → 0 < passed
unfolding taken
moves-on before piece out zero used p line t f e s h k =
    let z : length (take used out) ≡ 0 = ap length (ap (λ (g : Hand). g.text) e ∙ t) in
    let r : length out < used + 1024 = s h in
    absurd (omega (arith, z, length-take-le used out f))
moves-on before piece out (suc passed) used p line t f e s h k = omega arith

pub batch-ended : {before from : Hand} {piece : List ℕ} {p : Probe} {i₀ i : ℕ} (line out : List ℕ) (n used : ℕ) → before.text ≡ [] → from ≡ taken before (take i₀ piece)
    → Batch from i₀ piece (record { probe = p; line = take n line; text = take used out }) i n → used ≤ length out → (i < length piece → length out < used + 1024)
    → Takes before piece i (length out) used n (record { probe = p; line = take n line; text = take used out })
batch-ended {before = before} {piece = piece} {p = p} {i = i} line out n used t e b f s =
    let g : record { probe = p; line = take n line; text = take used out } ≡ taken before (take i piece) = b.same before e in
    record { hand = g; within = b.within; stops = s; moves = moves-on before piece out i used p (take n line) t f g s; fits = f; few = b.few }

-- pieces of a piece taken in one after another, the text written out after each
pub serve-none : (h : Hand) (piece : List ℕ) → h.text ≡ [] → h ≡ written (taken h (take 0 piece))
unfolding written taken
serve-none h piece e = ap (λ (t : List ℕ). record { probe = h.probe; line = h.line; text = t }) e

pub serve-more : {hand : Hand} {line text : List ℕ} {p : Probe} {room used n : ℕ} (start : Hand) (piece : List ℕ) (i passed : ℕ) → hand ≡ written (taken start (take i piece))
    → Takes hand (take (length piece - i) (drop i piece)) passed room used n (record { probe = p; line = line; text = text })
    → ◌≡◌ {A = Hand} (record { probe = p; line = line; text = [] }) (written (taken start (take (i + passed) piece)))
unfolding written
serve-more start piece i passed e t =
    ap written (t.hand ∙ ap (λ (g : Hand). taken g (take passed (take (length piece - i) (drop i piece)))) e)
    ∙ written-taken (taken start (take i piece)) (take passed (take (length piece - i) (drop i piece)))
    ∙ ap written (ap (λ (r : List ℕ). taken (taken start (take i piece)) (take passed r)) (take_rest i piece) ∙ sym (taken_more start (take i piece) (take passed (drop i piece)))
    ∙ ap (taken start) (sym (take-add i passed piece)))

pub serve-ended : {start hand : Hand} {i n : ℕ} {good : Bool} (piece : List ℕ) → hand ≡ written (taken start (take i piece)) → length piece ≤ i → n ≤ 513 → Serves start piece good n hand
serve-ended {start = start} {i = i} piece e h f = record { hand = λ g. e ∙ ap (λ (l : List ℕ). written (taken start l)) (take_all i piece h); few = f }

pub serve-failed : {start hand : Hand} {n : ℕ} {good : Bool} {piece : List ℕ} → good ≡ false → n ≤ 513 → Serves start piece good n hand
serve-failed b f = record { hand = λ g. let z : false ≡ true = sym b ∙ g in absurd (false≢true z); few = f }
