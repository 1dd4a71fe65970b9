-- A lent list of hits as bytes: filling its first places.
use Rattle.std.specs.Prelude.{Result, Ok, Err}
use Rattle.answers.specs.declared.Refusal.{Refusal}
use Rattle.lists.proofs.Prelude.{Bool, true, false, List, [], ◌∷◌, ◌++◌, map, append_assoc, ◌≡◌, refl, sym, ap, ap₂, ◌∙◌, ℕ, zero, suc, ◌+◌, ◌*◌, ◌/◌, ◌<◌, ◌≤◌, zero-add, add-one, arith, length, get_or, set, take, drop, length-append, length-drop, drop_of_length-le, sets, sets-eq, take_all, drop-drop, drop-cons, length-take-le, joined, length-joined}
use Rattle.lists.proofs.Stores.{joined-append}
use Rattle.words.specs.Words.{words, bytes, Below}
use Rattle.words.proofs.Views.{apart, length-words, words-drop}
use Rattle.postings.specs.declared.Stretch.{Stretch}
use Rattle.answers.specs.declared.Hit.{Hit}
use Rattle.answers.specs.declared.Found.{Found}
use Rattle.answers.specs.Answers.{Answer, Outcome, refuse_if, carry}
use Rattle.answers.specs.Numbers.{found_as}
use Rattle.state.specs.Probe.{Probe}
use Rattle.identifiers.specs.Names.{Name}
use Rattle.ranking.specs.declared.Top.{Top}
use Rattle.queries.specs.Query.{fill, query_of}
use Rattle.ranking.specs.Top.{listed_hits}
use Rattle.queries.specs.Finds.{answered, Finds}
use Rattle.queries.proofs.Outcomes.{found-filled}
use Rattle.numbers.specs.Images.{number_for, number_found}
use Rattle.capi.specs.Queries.{hit_words, hits_in, hit_bytes, Tells}
use Rattle.capi.proofs.Carried.{carried}

-- Bytes --------------------------------------------------------------------------------------------------------------

-- bytes of words one after another
bytes-append : (a b : List ℕ) → bytes (a ++ b) ≡ bytes a ++ bytes b
unfolding bytes
bytes-append [] b = refl
bytes-append (w ∷ a) b = rw (bytes-append a b)

-- the bytes of the first words of a list, and the bytes past them, are the list
pub part : (n : ℕ) (b : List ℕ) → Below 256 b → n ≤ length (words b) → bytes (take n (words b)) ++ drop (4 * n) b ≡ b
unfolding words bytes
part zero b h l = refl
part (suc n) [] h l = absurd (omega arith)
part (suc n) (x ∷ []) h l = absurd (omega arith)
part (suc n) (x ∷ y ∷ []) h l = absurd (omega arith)
part (suc n) (x ∷ y ∷ z ∷ []) h l = absurd (omega arith)
part (suc n) (x ∷ y ∷ z ∷ w ∷ r) h l =
    let e = apart x y z w (h 0) (h 1) (h 2) (h 3) in
    let k : 4 * suc n ≡ suc (suc (suc (suc (4 * n)))) = omega arith in
    rw (k, e.0, e.1, e.2, e.3, part n r (λ i. h (suc (suc (suc (suc i))))) (omega arith))

-- so are the bytes of all words, and the up to three past them
pub whole : (b : List ℕ) → Below 256 b → bytes (words b) ++ drop (4 * length (words b)) b ≡ b
whole b h = rw (take_all (length (words b)) (words b) (omega arith)) at (part (length (words b)) b h (omega arith))

below-drop : (n : ℕ) (b : List ℕ) → Below 256 b → Below 256 (drop n b)
below-drop zero b h = h
below-drop (suc n) [] h = h
below-drop (suc n) (x ∷ b) h = below-drop n b (λ i. h (suc i))

-- Hits ---------------------------------------------------------------------------------------------------------------

-- how many hits words hold
pub length-hits : (ws : List ℕ) → length (hits_in ws) ≡ length ws / 2
length-hits [] = refl
length-hits (w ∷ []) = refl
length-hits (w ∷ s ∷ ws) = let h = length-hits ws in omega arith

-- hits past the first n
hits-drop : (n : ℕ) (ws : List ℕ) → drop n (hits_in ws) ≡ hits_in (drop (2 * n) ws)
hits-drop zero ws = refl
hits-drop (suc n) [] = let k : 2 * suc n ≡ suc (suc (2 * n)) = omega arith in rw k
hits-drop (suc n) (w ∷ []) = let k : 2 * suc n ≡ suc (suc (2 * n)) = omega arith in rw k
hits-drop (suc n) (w ∷ s ∷ ws) = let k : 2 * suc n ≡ suc (suc (2 * n)) = omega arith in rw k (hits-drop n ws)

-- the words of the hits of words
hits-words : (ws : List ℕ) → joined (map hit_words (hits_in ws)) ≡ take (2 * length (hits_in ws)) ws
hits-words [] = refl
hits-words (w ∷ []) = refl
hits-words (w ∷ s ∷ ws) =
    let k : 2 * suc (length (hits_in ws)) ≡ suc (suc (2 * length (hits_in ws))) = omega arith in
    rw k (rw (hits-words ws))

-- the hits that bytes hold, as bytes with what is past them, are these bytes
pub hits-back : (b : List ℕ) → Below 256 b → hit_bytes b (hits_in (words b)) ≡ b
unfolding hit_bytes
hits-back b h =
    let k = length (hits_in (words b)) in
    let e : 8 * k ≡ 4 * (2 * k) = omega arith in
    rw (e, hits-words (words b)) (part (2 * k) b h (omega (arith, length-hits (words b))))

-- the words past the places of n hits
words-past : (n : ℕ) (b : List ℕ) → words (drop (8 * n) b) ≡ drop (2 * n) (words b)
words-past n b = let e : 8 * n ≡ 4 * (2 * n) = omega arith in rw e (words-drop (2 * n) b)

-- a list filled from its beginning has the hits there and its own places after them
pub filled-bytes : (b : List ℕ) → Below 256 b → (hs : List Hit) → 8 * length hs ≤ length b → hit_bytes b (fill hs (hits_in (words b))) ≡ hit_bytes b hs
unfolding hit_bytes
filled-bytes b h hs l =
    let u = length hs in
    let c = drop (8 * u) b in
    let X = drop u (hits_in (words b)) in
    let same : X ≡ hits_in (words c) = hits-drop u (words b) ∙ ap hits_in (sym (words-past u b)) in
    let k : 8 * length (hs ++ X) ≡ 8 * u + 8 * length X = omega (arith, length-append hs X) in
    let past : drop (8 * u + 8 * length X) b ≡ drop (8 * length X) c = sym (drop-drop (8 * length X) (8 * u) b) in
    let back : bytes (joined (map hit_words X)) ++ drop (8 * length X) c ≡ c = rw same (hits-back c (below-drop (8 * u) b h)) in
    rw (joined-append hit_words hs X, bytes-append (joined (map hit_words hs)) (joined (map hit_words X)), k, past)
    (append_assoc (bytes (joined (map hit_words hs))) (bytes (joined (map hit_words X))) (drop (8 * length X) c)
    ∙ ap (λ (r : List ℕ). bytes (joined (map hit_words hs)) ++ r) back)

-- hits take two words each
pub length-written : (hs : List Hit) → length (joined (map hit_words hs)) ≡ 2 * length hs
length-written hs = length-joined hit_words 2 (λ h. refl) hs

-- words set from the first on are these and then the words past them
sets-front : (ws xs : List ℕ) → length xs ≤ length ws → sets ws 0 xs ≡ xs ++ drop (length xs) ws
sets-front ws xs l = sets-eq xs ws 0 (omega arith) ∙ ap (λ (k : ℕ). xs ++ drop k ws) (zero-add (length xs))

-- words set from the first on, with the same bytes past the last word, are the bytes of a filled list
pub put-bytes : (b c : List ℕ) → Below 256 b → Below 256 c → (hs : List Hit) → 8 * length hs ≤ length b → length c ≡ length b
    → words c ≡ sets (words b) 0 (joined (map hit_words hs)) → drop (4 * length (words b)) c ≡ drop (4 * length (words b)) b → c ≡ hit_bytes b hs
unfolding hit_bytes
put-bytes b c hb hc hs l e s r =
    let u = length hs in
    let H = joined (map hit_words hs) in
    let d = drop (8 * u) b in
    let n = length (words b) in
    let lw : length (words c) ≡ n = omega (arith, length-words c, length-words b) in
    let lh : length H ≡ 2 * u = length-written hs in
    let ws : words c ≡ H ++ words d = s ∙ sets-front (words b) H (omega (arith, length-words b)) ∙ ap (λ (k : ℕ). H ++ drop k (words b)) lh ∙ ap (λ (y : List ℕ). H ++ y) (sym (words-past u b)) in
    let on : 4 * n ≡ 8 * u + 4 * length (words d) = omega (arith, length-words b, length-words d, length-drop (8 * u) b) in
    let past : drop (4 * n) b ≡ drop (4 * length (words d)) d =
    ap (λ (k : ℕ). drop k b) on ∙ sym (drop-drop (4 * length (words d)) (8 * u) b) in
    sym (whole c hc)
    ∙ ap₂ (λ (x : List ℕ) (y : List ℕ). x ++ y) (ap bytes ws ∙ bytes-append H (words d)) (ap (λ (k : ℕ). drop (4 * k) c) lw ∙ r ∙ past)
    ∙ append_assoc (bytes H) (bytes (words d)) (drop (4 * length (words d)) d)
    ∙ ap (λ (y : List ℕ). bytes H ++ y) (whole d (below-drop (8 * u) b hb))

-- Written one after another -------------------------------------------------------------------------------------------

-- one hit more
pub hits-turn : (W : List ℕ) (hs : List Hit) (i : ℕ) (d : Hit) → i < length hs
    → sets W (2 * i) (joined (map hit_words (drop i hs))) ≡ sets (set (set W (2 * i) (get_or hs i d).window) (2 * i + 1) (get_or hs i d).score) (2 * (i + 1)) (joined (map hit_words (drop (i + 1) hs)))
hits-turn W hs i d l =
    let b : 2 * suc i ≡ suc (suc (2 * i)) = omega arith in
    rw (drop-cons hs i d l, add-one i, add-one (2 * i), b)

-- none is left
pub hits-end : (W : List ℕ) (hs : List Hit) (i : ℕ) → length hs ≤ i → sets W (2 * i) (joined (map hit_words (drop i hs))) ≡ W
hits-end W hs i l = rw (drop_of_length-le hs l)

-- The query ----------------------------------------------------------------------------------------------------------

-- the places of lent bytes
pub places_of : (b : List ℕ) → length (hits_in (words b)) ≡ length b / 8
places_of b = omega (arith, length-hits (words b), length-words b)

-- the number of an answer of the code is that of the answer it stands for
number-found : (x : Answer) (k : ℕ) (a : Result Found Refusal) (t : Top) → length t.hits ≡ 32 → Finds x k a t → number_found a ≡ number_for (found_as a t.hits)
number-found x k (Err why) t long v = refl
number-found x k (Ok f) t long v =
    let e : length (take f.hits t.hits) ≡ f.hits = length-take-le f.hits t.hits (omega (arith, v.used f refl, v.most)) in
    rw e

-- a test that refuses, and one that does not
pub tells-stopped : {S : Type 0} (s : S) (t : Bool) (n : ℕ) (o : Outcome S) → t ≡ true → Tells s (refuse_if t n o) n s
unfolding refuse_if
tells-stopped s t n o e = rw e (record { number = refl; left = refl })

pub tells-passed : {S : Type 0} (s : S) (t : Bool) (n : ℕ) (o : Outcome S) (r : ℕ) (after : S) → t ≡ false → Tells s o r after → Tells s (refuse_if t n o) r after
unfolding refuse_if
tells-passed s t n o r after e g = rw e g

-- a search promises the exported query
pub on-query : (p : Probe) (st : Stretch) (ns : List Name) (b : List ℕ) → Below 256 b → (a : Result Found Refusal) (t : Top) → length t.hits ≡ 32 → Finds (answered p st ns (length b / 8)) (length b / 8) a t
    → Tells b (carry (hit_bytes b) (query_of p st ns (hits_in (words b)))) (number_found a) (hit_bytes b (listed_hits t))
on-query p st ns b h a t long v =
    let places = hits_in (words b) in
    let w : Finds (answered p st ns (length places)) (length places) a t = rw (places_of b) v in
    let f = found-filled p st ns places a t w in
    let l : length (listed_hits t) ≡ t.used = length-take-le t.used t.hits (omega (arith, v.most)) in
    let same = filled-bytes b h (listed_hits t) (omega (arith, v.fits)) in
    let g = carried (hit_bytes b) places b (hits-back b h) (query_of p st ns places) (found_as a t.hits) (fill (listed_hits t) places) (record { answer = f.0; left = f.1 }) in
    record { number = number-found _ (length b / 8) a t long v ∙ ap number_for g.answer; left = sym same ∙ g.left }
