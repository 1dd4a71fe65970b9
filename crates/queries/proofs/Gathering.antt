-- What is gathered of a query's identifiers, identifier by identifier.
use Rattle.lists.proofs.Prelude.{true, false, ◌&&◌, List, [], ◌∷◌, ◌++◌, map, map-append, ◌≡◌, refl, sym, ap, ◌∙◌, subst, ℕ, ◌+◌, ◌*◌, ◌<◌, ◌≤◌, add-one, arith, ltb, length, get_or, take, drop, length-take, length-append, drop_of_length-le, drop-cons, take-suc, take_all, take-append-le, lt-ltb, le-ltb, keep, every, AllOf, keep_append, total-more}
use Rattle.postings.specs.declared.Stretch.{Stretch}
use Rattle.postings.specs.Sums.{under}
use Rattle.state.specs.declared.State.{State}
use Rattle.identifiers.specs.Names.{Name, number_of, numbers_of}
use Rattle.partitions.specs.Reading.{stored}
use Rattle.partitions.specs.Formed.{identifier_formed}
use Rattle.kway.specs.Parts.{parts}
use Rattle.kway.proofs.Parts.{put_in, all_more, put-here}
use Rattle.scores.specs.Terms.{Term, KeptGroup, term_of, terms_of, Serves, CountedWell}
use Rattle.terms.proofs.Fronts.{parts-front}
use Rattle.queries.specs.declared.judging.Known.{Known}
use Rattle.queries.specs.Gathered.{stored_under, Serving, none, more, Keeps, KeptWell, GatheredWell}

-- ---- one term more

parts-put : (w n : ℕ) (H P : List ℕ) → w * n + w ≤ length H → length P ≡ w → parts w (n + 1) (put_in w H P n) ≡ parts w n H ++ (P ∷ [])
unfolding parts
parts-put w n H P h l = rw (add-one n, parts-front w n H _ (omega arith), put-here w H P n h l)

module _ (W R : List ℕ) (s : State) (st : Stretch) (live : ℕ) where
  -- the numbers of a term
  abbrev size : ℕ
  size = 4 * (s.partitions.used + 1) + 4

  served-more : (is : List ℕ) (ts : List Term) (i : ℕ) (t : Term) → Serving W s st live is ts → Serves W s st live i t → Serving W s st live (is ++ (i ∷ [])) (ts ++ (t ∷ []))
  served-more [] [] i t none w = more w none
  served-more [] (u ∷ ts) i t x w = elim x [ ]
  served-more (j ∷ is) [] i t x w = elim x [ ]
  served-more (j ∷ is) (u ∷ ts) i t (more v r) w = more v (served-more is ts i t r w)

  -- at first none
  pub keeps-none : (k : Known) (H : List ℕ) → k.used ≡ 0 → k.taken ≡ 0 → Keeps W R s st live [] k H
  unfolding parts AllOf
  keeps-none k H u t = record { used = u; kept = rw u tt; served = rw u none; taken = t }

  -- one more where there is room
  pub keeps-room : (k r : Known) (H P : List ℕ) (i o : ℕ) → k.used < 5 → size * k.used + size ≤ length H → CountedWell W R s st live i (s.partitions.used + 1) P o
      → r.used ≡ k.used + 1 → r.taken ≡ k.taken + o → (is : List ℕ) → Keeps W R s st live is k H → Keeps W R s st live (is ++ (i ∷ [])) r (put_in size H P k.used)
  keeps-room k r H P i o h fits q nu nt is v =
      let len = v.used in
      let a : length is < 5 = omega (arith, length-take 5 is) in
      let b : take 5 is ≡ is = take_all 5 is (omega arith) in
      let d : take 5 (is ++ (i ∷ [])) ≡ is ++ (i ∷ []) = take_all 5 (is ++ (i ∷ [])) (omega (arith, length-append is (i ∷ []))) in
      let u : k.used ≡ length is = rw b at len in
      let g = q.kept in
      let p : parts size r.used (put_in size H P k.used) ≡ parts size k.used H ++ (P ∷ []) = ap (λ (n : ℕ). parts size n (put_in size H P k.used)) nu ∙ parts-put size k.used H P fits g.long in
      let ts : terms_of W R (s.partitions.used + 1) r.used (put_in size H P k.used) ≡ terms_of W R (s.partitions.used + 1) k.used H ++ (term_of W R (s.partitions.used + 1) P ∷ []) =
      ap (map (term_of W R (s.partitions.used + 1))) p ∙ map-append (term_of W R (s.partitions.used + 1)) (parts size k.used H) (P ∷ []) in
      let served : Serving W s st live is (terms_of W R (s.partitions.used + 1) k.used H) = subst (λ (l : List ℕ). Serving W s st live l (terms_of W R (s.partitions.used + 1) k.used H)) b v.served in
      let kt : k.taken ≡ stored_under W s is = v.taken ∙ ap (stored_under W s) b in
      record {
        used = rw d (omega (arith, length-append is (i ∷ [])));
        kept = subst (AllOf (KeptGroup W R (s.partitions.used + 1))) (sym p) (all_more (KeptGroup W R (s.partitions.used + 1)) (parts size k.used H) P v.kept g);
        served = subst (λ (l : List ℕ). Serving W s st live l (terms_of W R (s.partitions.used + 1) r.used (put_in size H P k.used))) (sym d)
            (subst (Serving W s st live (is ++ (i ∷ []))) (sym ts) (served-more is (terms_of W R (s.partitions.used + 1) k.used H) i (term_of W R (s.partitions.used + 1) P) served q.term));
        taken = rw d (omega (arith, q.taken, total-more (λ j. length (under j (stored W s))) is i));
      }

  -- and where there is none
  pub keeps-full : (k r : Known) (H : List ℕ) (i : ℕ) → 5 ≤ k.used → r.used ≡ k.used → r.taken ≡ k.taken → (is : List ℕ) → Keeps W R s st live is k H → Keeps W R s st live (is ++ (i ∷ [])) r H
  keeps-full k r H i h nu nt is v =
      let a : 5 ≤ length is = omega (arith, length-take 5 is, v.used) in
      let d : take 5 (is ++ (i ∷ [])) ≡ take 5 is = take-append-le 5 is (i ∷ []) a in
      record {
        used = rw d (nu ∙ v.used);
        kept = rw nu v.kept;
        served = rw (d, nu) v.served;
        taken = rw d (nt ∙ v.taken);
      }

-- ---- one identifier more

module _ (ms : List Name) where
  number_in : (n : Name) (ns : List Name) → number_of ms n < length ms → numbers_of ms (n ∷ ns) ≡ number_of ms n ∷ numbers_of ms ns
  unfolding numbers_of
  number_in n ns h = rw (lt-ltb (number_of ms n) (length ms) h)

  number-out : (n : Name) (ns : List Name) → length ms ≤ number_of ms n → numbers_of ms (n ∷ ns) ≡ numbers_of ms ns
  unfolding numbers_of
  number-out n ns h = rw (le-ltb (number_of ms n) (length ms) h)

  number-alone : (n : Name) → number_of ms n < length ms → numbers_of ms (n ∷ []) ≡ number_of ms n ∷ []
  unfolding numbers_of
  number-alone n h = rw (lt-ltb (number_of ms n) (length ms) h)

  numbers-nil : (l : List ℕ) → l ++ numbers_of ms [] ≡ l
  unfolding numbers_of
  numbers-nil [] = refl
  numbers-nil (x ∷ l) = ap (λ (r : List ℕ). x ∷ r) (numbers-nil l)

  numbers-append : (ns os : List Name) → numbers_of ms (ns ++ os) ≡ numbers_of ms ns ++ numbers_of ms os
  unfolding numbers_of
  numbers-append ns os = ap (keep (λ i. ltb i (length ms))) (map-append (number_of ms) ns os) ∙ keep_append (λ i. ltb i (length ms)) (map (number_of ms) ns) (map (number_of ms) os)

-- i identifiers are gathered in k and H
pub record Gathering (W R : List ℕ) (s : State) (st : Stretch) (live : ℕ) (ms ns : List Name) (i : ℕ) (k : Known) (H : List ℕ) : Type 0 where
  pub within : i ≤ length ns
  pub left : every (identifier_formed W s) (numbers_of ms ns) ≡ every (identifier_formed W s) (numbers_of ms (drop i ns))
  pub keeps : Keeps W R s st live (numbers_of ms (take i ns)) k H
  pub used : k.used ≤ 5
  pub few : k.taken ≤ 3407872 * k.used

module _ (W R : List ℕ) (s : State) (st : Stretch) (live : ℕ) (ms ns : List Name) where
  -- at first none
  pub gathering-none : (k : Known) (H : List ℕ) → k.used ≡ 0 → k.taken ≡ 0 → Gathering W R s st live ms ns 0 k H
  unfolding numbers_of
  gathering-none k H u t = record { within = omega arith; left = refl; keeps = keeps-none W R s st live k H u t; used = omega arith; few = omega arith }

  -- at the end all
  pub gathered-all : (i : ℕ) (k : Known) (H : List ℕ) → length ns ≤ i → Gathering W R s st live ms ns i k H → GatheredWell W R s st live (numbers_of ms ns) H k
  unfolding numbers_of
  gathered-all i k H h v =
      let d : drop i ns ≡ [] = drop_of_length-le ns h in
      let t : take i ns ≡ ns = take_all i ns h in
      let e : every (identifier_formed W s) (numbers_of ms ns) ≡ true = v.left ∙ ap (λ (l : List Name). every (identifier_formed W s) (numbers_of ms l)) d in
      record { fine = e; keeps = subst (λ (l : List Name). Keeps W R s st live (numbers_of ms l) k H) t v.keeps }

  module _ (i : ℕ) (k : Known) (H : List ℕ) (h : i < length ns) (v : Gathering W R s st live ms ns i k H) where
    abbrev n : Name
    n = get_or ns i []

    rest : drop i ns ≡ n ∷ drop (i + 1) ns
    rest = rw (add-one i) (drop-cons ns i [] h)

    front : numbers_of ms (take (i + 1) ns) ≡ numbers_of ms (take i ns) ++ numbers_of ms (n ∷ [])
    front = ap (λ (j : ℕ). numbers_of ms (take j ns)) (add-one i) ∙ ap (numbers_of ms) (take-suc ns i [] h) ∙ numbers-append ms (take i ns) (n ∷ [])

    -- an identifier that the register has not
    pub gathering-unknown : length ms ≤ number_of ms n → Gathering W R s st live ms ns (i + 1) k H
    gathering-unknown g =
        let e : numbers_of ms (take (i + 1) ns) ≡ numbers_of ms (take i ns) = front ∙ ap (λ (l : List ℕ). numbers_of ms (take i ns) ++ l) (number-out ms n [] g) ∙ numbers-nil ms (numbers_of ms (take i ns)) in
        record {
          within = omega arith;
          left = v.left ∙ ap (λ (l : List Name). every (identifier_formed W s) (numbers_of ms l)) rest ∙ ap (every (identifier_formed W s)) (number-out ms n (drop (i + 1) ns) g);
          keeps = subst (λ (l : List ℕ). Keeps W R s st live l k H) (sym e) v.keeps;
          used = v.used;
          few = v.few;
        }

    module _ (g : number_of ms n < length ms) where
      formed-on : every (identifier_formed W s) (numbers_of ms ns) ≡ (identifier_formed W s (number_of ms n) && every (identifier_formed W s) (numbers_of ms (drop (i + 1) ns)))
      formed-on = v.left ∙ ap (λ (l : List Name). every (identifier_formed W s) (numbers_of ms l)) rest ∙ ap (every (identifier_formed W s)) (number_in ms n (drop (i + 1) ns) g)

      -- one whose lists are malformed
      pub gathered-fault : identifier_formed W s (number_of ms n) ≡ false → every (identifier_formed W s) (numbers_of ms ns) ≡ false
      gathered-fault z = formed-on ∙ rw z

      -- one whose lists are well formed
      pub gathering-more : (r : Known) (H' : List ℕ) → KeptWell W R s st live k H (number_of ms n) H' r → Gathering W R s st live ms ns (i + 1) r H'
      gathering-more r H' q =
          let e : numbers_of ms (take (i + 1) ns) ≡ numbers_of ms (take i ns) ++ (number_of ms n ∷ []) = front ∙ ap (λ (l : List ℕ). numbers_of ms (take i ns) ++ l) (number-alone ms n g) in
          record {
            within = omega arith;
            left = formed-on ∙ rw q.fine;
            keeps = subst (λ (l : List ℕ). Keeps W R s st live l r H') (sym e) (q.keeps (numbers_of ms (take i ns)) v.keeps);
            used = q.used;
            few = q.few;
          }
