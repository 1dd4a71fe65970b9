-- Reading an image and writing a state are each other's inverse.
use Rattle.lists.proofs.Prelude.{true, List, [], ◌∷◌, ◌++◌, map, map-id, append_assoc, ◌≡◌, refl, sym, ap, ◌∙◌, ℕ, zero, suc, ◌+◌, ◌-◌, ◌*◌, ◌/◌, ◌%◌, ◌<◌, ◌≤◌, arith, ltb, length, get_or, length-append, length-map, List·getD-append, get_or-append-add, ext_get_or, ltb-true, ltb-false, joined, up_to, by-test, length-rising, up_to-at, map-up_to, div-add-mod', joined_at, length-joined}
use mir.Syntax.{w16}
use mir.Val.{SFits}
use Rattle.postings.specs.declared.Posting.{Posting}
use Rattle.state.specs.declared.Partition.{Partition}
use Rattle.state.specs.declared.State.{State}
use Rattle.state.specs.Views.{no_posting, no_partition}
use Rattle.words.specs.Words.{words, bytes, Below}
use Rattle.words.proofs.Views.{bytes-words}
use Rattle.images.specs.Images.{posting_words, record_words, number_words, buffer_words, partitions_words, last_words, image_of, posting_in, record_in, state_in, image_rule}
use Rattle.images.proofs.Signs.{lowered-raised, raised-lowered}
use Rattle.images.proofs.Fits.{image-length, image-words, image-below, narrow-front}
use Rattle.images.proofs.Whole.{Sized, length-image}

-- Places of an image -----------------------------------------------------------------------------------------------

-- what stands in the middle part of a list
at-middle : (p m q : List ℕ) (k i : ℕ) → length p ≡ k → i < length m → get_or (p ++ (m ++ q)) (k + i) 0 ≡ get_or m i 0
at-middle p m q k i e h =
    rw (← e) (get_or-append-add p (m ++ q) i 0 ∙ List·getD-append m q 0 i h)

-- what stands at place r of the j-th of parts of n, in the middle of a list
at-parts : {A : Type 0} (f : A → List ℕ) (n : ℕ) → ((x : A) → length (f x) ≡ n) → (p : List ℕ) (l : List A) (q : List ℕ) (d : A) (k j r : ℕ) → length p ≡ k → j < length l → r < n
    → get_or (p ++ (joined (map f l) ++ q)) (k + (n * j + r)) 0 ≡ get_or (f (get_or l j d)) r 0
at-parts f n h p l q d k j r e a b = rw (← e) (get_or-append-add p (joined (map f l) ++ q) (n * j + r) 0 ∙ joined_at f n h l q d 0 j r a b)

-- the same behind the parts: place i of the end
at-end : (p m : List ℕ) (k i : ℕ) → length p ≡ k → get_or (p ++ m) (k + i) 0 ≡ get_or m i 0
at-end p m k i e = rw (← e) (get_or-append-add p m i 0)

-- one more element at the end of what stands before a list
one_more : (h m : List ℕ) (u : ℕ) (r : List ℕ) → (h ++ (m ++ (u ∷ []))) ++ r ≡ h ++ (m ++ (u ∷ r))
one_more h m u r = append_assoc h (m ++ (u ∷ [])) r ∙ ap (λ (x : List ℕ). h ++ x) (append_assoc m (u ∷ []) r)

module _ (s : State) (z : Sized s) where
  -- what stands before the identifiers, the postings, the records and the end
  abbrev head1 : List ℕ
  head1 = number_words s.lengths s.windows ++ (s.listed.used ∷ [])

  abbrev head2 : List ℕ
  head2 = head1 ++ (s.listed.ids ++ (s.buffer.used ∷ []))

  abbrev head3 : List ℕ
  head3 = head2 ++ (joined (map posting_words s.buffer.postings) ++ (s.partitions.used ∷ []))

  abbrev head4 : List ℕ
  head4 = head3 ++ joined (map record_words s.partitions.records)

  length2 : length head2 ≡ 72
  length2 = omega (arith, length-append head1 (s.listed.ids ++ (s.buffer.used ∷ [])), length-append s.listed.ids (s.buffer.used ∷ []), z.ids)

  length3 : length head3 ≡ 457
  length3 =
      let p = joined (map posting_words s.buffer.postings) in
      omega (arith, length-append head2 (p ++ (s.partitions.used ∷ [])), length-append p (s.partitions.used ∷ []), length-joined posting_words 3 (λ x. refl) s.buffer.postings, length2, z.postings)

  length4 : length head4 ≡ 712
  length4 =
      let p = joined (map record_words s.partitions.records) in
      omega (arith, length-append head3 p, length-joined record_words 5 (λ x. refl) s.partitions.records, length3, z.records)

  abbrev tail3 : List ℕ
  tail3 = joined (map record_words s.partitions.records) ++ last_words s.taken s.merge

  abbrev tail2 : List ℕ
  tail2 = s.partitions.used ∷ tail3

  -- the image, cut at each of these places
  cut1 : image_of s ≡ head1 ++ (s.listed.ids ++ (buffer_words s.buffer ++ (partitions_words s.partitions ++ last_words s.taken s.merge)))
  unfolding image_of
  cut1 = refl

  cut2 : image_of s ≡ head2 ++ (joined (map posting_words s.buffer.postings) ++ tail2)
  cut2 = cut1 ∙ sym (one_more head1 s.listed.ids s.buffer.used (joined (map posting_words s.buffer.postings) ++ tail2))

  cut3 : image_of s ≡ head3 ++ tail3
  cut3 = cut2 ∙ sym (one_more head2 (joined (map posting_words s.buffer.postings)) s.partitions.used tail3)

  cut4 : image_of s ≡ head4 ++ last_words s.taken s.merge
  cut4 = cut3 ∙ sym (append_assoc head3 (joined (map record_words s.partitions.records)) (last_words s.taken s.merge))

  -- ---- the numbers at each place

  at_front : (get_or (image_of s) 0 0 ≡ s.lengths.card) × (get_or (image_of s) 1 0 ≡ s.lengths.register) × (get_or (image_of s) 2 0 ≡ s.windows.last)
      × (get_or (image_of s) 3 0 ≡ s.windows.live) × (get_or (image_of s) 4 0 ≡ s.windows.current) × (get_or (image_of s) 5 0 ≡ s.windows.events)
      × (get_or (image_of s) 6 0 ≡ s.listed.used)
  unfolding image_of
  at_front = (refl, refl, refl, refl, refl, refl, refl)

  at-ids : (i : ℕ) → i < 64 → get_or (image_of s) (7 + i) 0 ≡ get_or s.listed.ids i 0
  at-ids i h = rw cut1 (at-middle head1 s.listed.ids (buffer_words s.buffer ++ (partitions_words s.partitions ++ last_words s.taken s.merge)) 7 i refl (omega (arith, z.ids)))

  at-buffer : get_or (image_of s) 71 0 ≡ s.buffer.used
  at-buffer =
      let q = buffer_words s.buffer ++ (partitions_words s.partitions ++ last_words s.taken s.merge) in
      let e : length (head1 ++ s.listed.ids) ≡ 71 = omega (arith, length-append head1 s.listed.ids, z.ids) in
      ap (λ (w : List ℕ). get_or w 71 0) (cut1 ∙ sym (append_assoc head1 s.listed.ids q)) ∙ at-end (head1 ++ s.listed.ids) q 71 0 e

  at-postings : (j r : ℕ) → j < 128 → r < 3 → get_or (image_of s) (72 + (3 * j + r)) 0 ≡ get_or (posting_words (get_or s.buffer.postings j no_posting)) r 0
  at-postings j r a b = rw cut2 (at-parts posting_words 3 (λ x. refl) head2 s.buffer.postings tail2 no_posting 72 j r length2 (omega (arith, z.postings)) b)

  at-partitions : get_or (image_of s) 456 0 ≡ s.partitions.used
  at-partitions =
      let p = joined (map posting_words s.buffer.postings) in
      let e : length (head2 ++ p) ≡ 456 = omega (arith, length-append head2 p, length2, length-joined posting_words 3 (λ x. refl) s.buffer.postings, z.postings) in
      ap (λ (w : List ℕ). get_or w 456 0) (cut2 ∙ sym (append_assoc head2 p tail2)) ∙ at-end (head2 ++ p) tail2 456 0 e

  at_records : (j r : ℕ) → j < 51 → r < 5 → get_or (image_of s) (457 + (5 * j + r)) 0 ≡ get_or (record_words (get_or s.partitions.records j no_partition)) r 0
  at_records j r a b = rw cut3 (at-parts record_words 5 (λ x. refl) head3 s.partitions.records (last_words s.taken s.merge) no_partition 457 j r length3 (omega (arith, z.records)) b)

  at_last : (i : ℕ) → get_or (image_of s) (712 + i) 0 ≡ get_or (last_words s.taken s.merge) i 0
  at_last i = rw cut4 (at-end head4 (last_words s.taken s.merge) 712 i length4)

  -- From a state and back --------------------------------------------------------------------------------------------

  postings-back : ((j : ℕ) → j < 128 → SFits w16 (get_or s.buffer.postings j no_posting).count) → map (posting_in (image_of s)) (up_to 128) ≡ s.buffer.postings
  postings-back f =
      map-up_to (posting_in (image_of s)) (λ p. p) s.buffer.postings no_posting 128 z.postings (λ j h.
      let e0 : 72 + 3 * j ≡ 72 + (3 * j + 0) = omega arith in
      let e1 : 73 + 3 * j ≡ 72 + (3 * j + 1) = omega arith in
      let e2 : 74 + 3 * j ≡ 72 + (3 * j + 2) = omega arith in
      rw (e0, e1, e2, at-postings j 0 h (omega arith), at-postings j 1 h (omega arith), at-postings j 2 h (omega arith), lowered-raised _ (f j h)))
      ∙ map-id s.buffer.postings

  records-back : map (record_in (image_of s)) (up_to 51) ≡ s.partitions.records
  records-back =
      map-up_to (record_in (image_of s)) (λ p. p) s.partitions.records no_partition 51 z.records (λ j h.
      let e0 : 457 + 5 * j ≡ 457 + (5 * j + 0) = omega arith in
      let e1 : 458 + 5 * j ≡ 457 + (5 * j + 1) = omega arith in
      let e2 : 459 + 5 * j ≡ 457 + (5 * j + 2) = omega arith in
      let e3 : 460 + 5 * j ≡ 457 + (5 * j + 3) = omega arith in
      let e4 : 461 + 5 * j ≡ 457 + (5 * j + 4) = omega arith in
      rw (e0, e1, e2, e3, e4, at_records j 0 h (omega arith), at_records j 1 h (omega arith), at_records j 2 h (omega arith), at_records j 3 h (omega arith), at_records j 4 h (omega arith)))
      ∙ map-id s.partitions.records

  ids-back : map (λ i. get_or (image_of s) (7 + i) 0) (up_to 64) ≡ s.listed.ids
  ids-back = map-up_to (λ i. get_or (image_of s) (7 + i) 0) (λ n. n) s.listed.ids 0 64 z.ids (λ j h. at-ids j h) ∙ map-id s.listed.ids

  -- the state that is read from a state's image
  pub state-back : ((j : ℕ) → j < 128 → SFits w16 (get_or s.buffer.postings j no_posting).count) → state_in (image_of s) ≡ s
  unfolding state_in
  state-back f =
      rw (at_front.0, at_front.1, at_front.2, at_front.3, at_front.4, at_front.5, at_front.6, ids-back, at-buffer, postings-back f, at-partitions, records-back, at_last 0, at_last 1, at_last 2, at_last 3)

-- From an image and back -------------------------------------------------------------------------------------------

module _ (b : List ℕ) (h : image_rule b ≡ true) where
  abbrev w : List ℕ
  w = words b

  sized : Sized (state_in w)
  unfolding state_in
  sized = record {
    ids = length-map (up_to 64) (λ i. get_or w (7 + i) 0) ∙ length-rising 0 64;
    postings = length-map (up_to 128) (posting_in w) ∙ length-rising 0 128;
    records = length-map (up_to 51) (record_in w) ∙ length-rising 0 51;
  }

  front_same : (i : ℕ) → i < 7 → get_or (image_of (state_in w)) i 0 ≡ get_or w i 0
  unfolding state_in
  front_same zero l = (at_front (state_in w) sized).0
  front_same (suc zero) l = (at_front (state_in w) sized).1
  front_same (suc (suc zero)) l = (at_front (state_in w) sized).2
  front_same (suc (suc (suc zero))) l = (at_front (state_in w) sized).3
  front_same (suc (suc (suc (suc zero)))) l = (at_front (state_in w) sized).4
  front_same (suc (suc (suc (suc (suc zero))))) l = (at_front (state_in w) sized).5
  front_same (suc (suc (suc (suc (suc (suc zero)))))) l = (at_front (state_in w) sized).6
  front_same (suc (suc (suc (suc (suc (suc (suc i))))))) l = absurd (omega arith)

  ids-same : (i : ℕ) → i < 64 → get_or (image_of (state_in w)) (7 + i) 0 ≡ get_or w (7 + i) 0
  unfolding state_in
  ids-same i l = at-ids (state_in w) sized i l ∙ up_to-at (λ j. get_or w (7 + j) 0) 64 i 0 l

  buffer-same : get_or (image_of (state_in w)) 71 0 ≡ get_or w 71 0
  unfolding state_in
  buffer-same = at-buffer (state_in w) sized

  partitions-same : get_or (image_of (state_in w)) 456 0 ≡ get_or w 456 0
  unfolding state_in
  partitions-same = at-partitions (state_in w) sized

  posting-same : (j r : ℕ) → j < 128 → r < 3 → get_or (posting_words (posting_in w j)) r 0 ≡ get_or w (72 + (3 * j + r)) 0
  posting-same j zero a l = ap (λ (k : ℕ). get_or w k 0) (omega arith)
  posting-same j (suc zero) a l = ap (λ (k : ℕ). get_or w k 0) (omega arith)
  posting-same j (suc (suc zero)) a l =
      raised-lowered (get_or w (74 + 3 * j) 0) (image-below b h (74 + 3 * j) (omega arith) (narrow-front (74 + 3 * j) (omega arith) (omega arith)))
      ∙ ap (λ (k : ℕ). get_or w k 0) (omega arith)
  posting-same j (suc (suc (suc r))) a l = absurd (omega arith)

  postings-same : (j r : ℕ) → j < 128 → r < 3 → get_or (image_of (state_in w)) (72 + (3 * j + r)) 0 ≡ get_or w (72 + (3 * j + r)) 0
  unfolding state_in
  postings-same j r a l =
      at-postings (state_in w) sized j r a l ∙ ap (λ (p : Posting). get_or (posting_words p) r 0) (up_to-at (posting_in w) 128 j no_posting a) ∙ posting-same j r a l

  record_same : (j r : ℕ) → r < 5 → get_or (record_words (record_in w j)) r 0 ≡ get_or w (457 + (5 * j + r)) 0
  record_same j zero l = ap (λ (k : ℕ). get_or w k 0) (omega arith)
  record_same j (suc zero) l = ap (λ (k : ℕ). get_or w k 0) (omega arith)
  record_same j (suc (suc zero)) l = ap (λ (k : ℕ). get_or w k 0) (omega arith)
  record_same j (suc (suc (suc zero))) l = ap (λ (k : ℕ). get_or w k 0) (omega arith)
  record_same j (suc (suc (suc (suc zero)))) l = ap (λ (k : ℕ). get_or w k 0) (omega arith)
  record_same j (suc (suc (suc (suc (suc r))))) l = absurd (omega arith)

  records-same : (j r : ℕ) → j < 51 → r < 5 → get_or (image_of (state_in w)) (457 + (5 * j + r)) 0 ≡ get_or w (457 + (5 * j + r)) 0
  unfolding state_in
  records-same j r a l =
      at_records (state_in w) sized j r a l ∙ ap (λ (p : Partition). get_or (record_words p) r 0) (up_to-at (record_in w) 51 j no_partition a) ∙ record_same j r l

  last-same : (i : ℕ) → i < 4 → get_or (image_of (state_in w)) (712 + i) 0 ≡ get_or w (712 + i) 0
  unfolding state_in
  last-same zero l = at_last (state_in w) sized 0
  last-same (suc zero) l = at_last (state_in w) sized 1
  last-same (suc (suc zero)) l = at_last (state_in w) sized 2
  last-same (suc (suc (suc zero))) l = at_last (state_in w) sized 3
  last-same (suc (suc (suc (suc i)))) l = absurd (omega arith)

  -- a place from one on, by its distance
  by-distance : (k i : ℕ) → k ≤ i → get_or (image_of (state_in w)) (k + (i - k)) 0 ≡ get_or w (k + (i - k)) 0 → get_or (image_of (state_in w)) i 0 ≡ get_or w i 0
  by-distance k i l e = let d : k + (i - k) ≡ i = omega arith in rw d at e

  -- and among parts of n
  by_parts : (n k i : ℕ) → k ≤ i → get_or (image_of (state_in w)) (k + (n * ((i - k) / n) + (i - k) % n)) 0 ≡ get_or w (k + (n * ((i - k) / n) + (i - k) % n)) 0
      → get_or (image_of (state_in w)) i 0 ≡ get_or w i 0
  by_parts n k i l e = let d : k + (n * ((i - k) / n) + (i - k) % n) ≡ i = omega (arith, div-add-mod' (i - k) n) in rw d at e

  same_at : (i : ℕ) → i < 716 → get_or (image_of (state_in w)) i 0 ≡ get_or w i 0
  same_at i l =
      by-test (ltb i 7) (λ t. front_same i (ltb-true i 7 t)) (λ f1.
      by-test (ltb i 71) (λ t. by-distance 7 i (ltb-false i 7 f1) (ids-same (i - 7) (omega (arith, ltb-true i 71 t)))) (λ f2.
      by-test (ltb i 72) (λ t. let e : 71 ≡ i = omega (arith, ltb-true i 72 t, ltb-false i 71 f2) in rw e at buffer-same) (λ f3.
      by-test (ltb i 456) (λ t. by_parts 3 72 i (ltb-false i 72 f3) (postings-same ((i - 72) / 3) ((i - 72) % 3) (omega (arith, ltb-true i 456 t)) (omega arith))) (λ f4.
      by-test (ltb i 457) (λ t. let e : 456 ≡ i = omega (arith, ltb-true i 457 t, ltb-false i 456 f4) in rw e at partitions-same) (λ f5.
      by-test (ltb i 712) (λ t. by_parts 5 457 i (ltb-false i 457 f5) (records-same ((i - 457) / 5) ((i - 457) % 5) (omega (arith, ltb-true i 712 t)) (omega arith))) (λ f6.
      by-distance 712 i (ltb-false i 712 f6) (last-same (i - 712) (omega (arith, ltb-false i 712 f6)))))))))

  -- the image of the state that is read from an image
  pub words_back : image_of (state_in w) ≡ w
  words_back = ext_get_or 0 (image_of (state_in w)) w (length-image (state_in w) sized ∙ sym (image-words b h)) (λ i l. same_at i (omega (arith, length-image (state_in w) sized)))

-- the same over bytes
pub image-back : (b : List ℕ) → Below 256 b → image_rule b ≡ true → bytes (image_of (state_in (words b))) ≡ b
image-back b below h = rw (words_back b h) (bytes-words b below (omega (arith, image-length b h)))
