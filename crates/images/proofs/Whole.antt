-- The parts of an image written one after another are the whole image.
use Rattle.lists.proofs.Prelude.{List, ◌++◌, append-nil, ◌≡◌, refl, sym, ap, ◌∙◌, ℕ, ◌+◌, arith, length, length-append, drop_of_length-le, sets, sets-eq, length-joined}
use Rattle.lists.proofs.Stores.{sets-append}
use Rattle.state.specs.declared.State.{State}
use Rattle.images.specs.Images.{posting_words, record_words, number_words, listed_words, buffer_words, partitions_words, last_words, image_of}

-- a state's arrays have their lengths
pub record Sized (s : State) : Type 0 where
  pub ids : length s.listed.ids ≡ 64
  pub postings : length s.buffer.postings ≡ 128
  pub records : length s.partitions.records ≡ 51

length-postings : (s : State) → Sized s → length (buffer_words s.buffer) ≡ 385
length-postings s z = omega (arith, length-joined posting_words 3 (λ p. refl) s.buffer.postings, z.postings)

length-records : (s : State) → Sized s → length (partitions_words s.partitions) ≡ 256
length-records s z = omega (arith, length-joined record_words 5 (λ p. refl) s.partitions.records, z.records)

-- an image has 716 words
pub length-image : (s : State) → Sized s → length (image_of s) ≡ 716
unfolding image_of
length-image s z =
    let a = listed_words s.listed in
    let b = buffer_words s.buffer in
    let c = partitions_words s.partitions in
    let d = last_words s.taken s.merge in
    omega (arith, length-append a (b ++ (c ++ d)), length-append b (c ++ d), length-append c d, length-postings s z, length-records s z, z.ids)

-- as many words written over a list are all of it
sets-whole : (l vs : List ℕ) → length vs ≡ length l → sets l 0 vs ≡ vs
sets-whole l vs h =
    sets-eq vs l 0 (omega arith)
    ∙ (let e : 0 + length vs ≡ length l = omega arith in rw (e, drop_of_length-le l {i = length l} (omega arith)) (append-nil vs))

-- the parts, each from its place on
pub parts_whole : (s : State) → Sized s → (w : List ℕ) → length w ≡ 716
    → sets (sets (sets (sets (sets w 0 (number_words s.lengths s.windows)) 6 (listed_words s.listed)) 71 (buffer_words s.buffer)) 456 (partitions_words s.partitions)) 712 (last_words s.taken s.merge) ≡ image_of s
unfolding image_of
parts_whole s z w h =
    let a = number_words s.lengths s.windows in
    let b = listed_words s.listed in
    let c = buffer_words s.buffer in
    let d = partitions_words s.partitions in
    let e = last_words s.taken s.merge in
    let w1 = sets w 0 a in
    let w2 = sets w1 6 b in
    let w3 = sets w2 71 c in
    let p1 : 6 + length b ≡ 71 = omega (arith, z.ids) in
    let p2 : 71 + length c ≡ 456 = omega (arith, length-postings s z) in
    let p3 : 456 + length d ≡ 712 = omega (arith, length-records s z) in
    sym (sets-append w 0 a (b ++ (c ++ (d ++ e)))
    ∙ sets-append w1 6 b (c ++ (d ++ e)) ∙ ap (λ (k : ℕ). sets w2 k (c ++ (d ++ e))) p1
    ∙ sets-append w2 71 c (d ++ e) ∙ ap (λ (k : ℕ). sets w3 k (d ++ e)) p2
    ∙ sets-append w3 456 d e ∙ ap (λ (k : ℕ). sets (sets w3 456 d) k e) p3)
    ∙ sets-whole w (image_of s) (length-image s z ∙ sym h)
