-- What an engine's call promises of states, promised of their images.
use Rattle.lists.proofs.Prelude.{Bool, true, false, not, List, ◌≡◌, refl, sym, ap, ◌∙◌, ℕ, eqb, length, not-false}
use Rattle.words.specs.Words.{bytes, Below}
use Rattle.answers.specs.Answers.{Answer, done, number, hits, mean, forecast, refused, Outcome, refuse, leave, refuse_if, carry, answer_of, state_of}
use Rattle.answers.specs.Unchanged.{Unchanged}
use Rattle.answers.specs.Numbers.{refusal_number}
use Rattle.answers.specs.declared.Refusal.{Refusal}
use Rattle.numbers.proofs.Told.{number-refused}
use Rattle.state.specs.declared.State.{State}
use Rattle.state.specs.Probe.{Store, Probe}
use Rattle.windows.specs.Promises.{Gives, store_of, probe_of}
use Rattle.windows.specs.Calls.{start_of, unstarted}
use Rattle.windows.proofs.Outcomes.{stopped, passed}
use Rattle.images.specs.Images.{image_rule, image_of}
use Rattle.images.proofs.Fits.{image-length}
use Rattle.images.proofs.Inverse.{image-back}
use Rattle.capi.specs.Exports.{carded_of, lent_of, imaged_store, imaged_probe, Lent, start_on, unstarted_on}
use Rattle.numbers.specs.Images.{state_on, imaged, replied_by, left_on}

-- Promises carried over ----------------------------------------------------------------------------------------------

module _ {S T : Type 0} (f : S → T) (s : S) (b : T) (e : f s ≡ b) where
  answer-carried : (o : Outcome S) → answer_of (carry f o) ≡ answer_of o
  answer-carried (refuse n) = refl
  answer-carried (leave x t) = refl

  state-carried : (o : Outcome S) → state_of b (carry f o) ≡ f (state_of s o)
  state-carried (refuse n) = sym e
  state-carried (leave x t) = refl

  -- a promise of what is seen by f
  pub carried : (o : Outcome S) (a : Answer) (after : S) → Gives s o a after → Gives b (carry f o) a (f after)
  carried o a after g = record { answer = g.answer ∙ sym (answer-carried o); left = ap f g.left ∙ sym (state-carried o) }

-- a refused call leaves what was there
left-refused : {S : Type 0} (s : S) (o : Outcome S) (n : ℕ) (after : S) → Unchanged s o → Gives s o (refused n) after → after ≡ s
left-refused s o n after u g = g.left ∙ u.same n (sym g.answer)

-- the image put back is that of the state after the call
left-image : (a : Answer) (t : State) (image : List ℕ) → imaged (state_on image) ≡ image → ((n : ℕ) → a ≡ refused n → t ≡ state_on image) → left_on a t image ≡ imaged t
left-image done t image e h = refl
left-image (number n) t image e h = refl
left-image (hits l n) t image e h = refl
left-image (mean q r f) t image e h = refl
left-image (forecast k b m f) t image e h = refl
left-image (refused n) t image e h = sym e ∙ ap imaged (sym (h n refl))

-- the image of an image's state is the image
imaged-back : (b : List ℕ) → Below 256 b → image_rule b ≡ true → imaged (state_on b) ≡ b
unfolding imaged
imaged-back b below h = image-back b below h

-- Calls --------------------------------------------------------------------------------------------------------------

-- bytes that are no image are refused
pub no-image : {S : Type 0} (s : S) (o : Outcome S) (image : List ℕ) {good : Bool} → good ≡ image_rule image → not good ≡ true → Gives s (refuse_if (not (image_rule image)) 1 o) (refused 1) s
no-image s o image rule taken = stopped _ 1 o (ap not (sym rule) ∙ taken)

module _ (image : List ℕ) {good : Bool} (rule : good ≡ image_rule image) (left : not good ≡ false) where
  pub is-image : image_rule image ≡ true
  is-image = sym rule ∙ not-false good left

  pub image-long : length image ≡ 2864
  image-long = image-length image is-image

  -- of the state read, a call promises the answer a and the state t; it is told as a', and the image is put back
  module _ (known : Below 256 image) {s : State} (t : State) {a a' : Answer} {image' : List ℕ} (read : s ≡ state_on image) (out : (a' ≡ a) × (image' ≡ left_on a t image)) where
    back : imaged (state_on image) ≡ image
    back = imaged-back image known is-image

    put : ((n : ℕ) → a ≡ refused n → t ≡ state_on image) → image' ≡ imaged t
    put h = out.1 ∙ left-image a t image back h

    -- on a state alone
    pub on-state : (o : State → Outcome State) → ((s : State) → Unchanged s (o s)) → Gives s (o s) a t → Gives image (refuse_if (not (image_rule image)) 1 (carry imaged (o (state_on image)))) a' image'
    on-state o u g =
        let r : Gives (state_on image) (o (state_on image)) a t = rw read at g in
        let same = put (λ n q. left-refused _ _ n t (u (state_on image)) (rw q at r)) in
        passed _ 1 _ (ap not (sym rule) ∙ left) (rw (out.0, same) (carried imaged (state_on image) image back (o (state_on image)) a t r))

    -- with a card
    pub on_store : {card card' : List ℕ} (o : Store → Outcome Store) → ((p : Store) → Unchanged p (o p)) → Gives (store_of s card) (o (store_of s card)) a (store_of t card')
        → Gives (carded_of image card) (refuse_if (not (image_rule image)) 1 (carry imaged_store (o (store_of (state_on image) card)))) a' (carded_of image' card')
    unfolding imaged_store
    on_store {card = card} {card' = card'} o u g =
        let p : Store = store_of (state_on image) card in
        let r : Gives p (o p) a (store_of t card') = rw read at g in
        let same = put (λ n q. ap (λ (x : Store). x.state) (left-refused p (o p) n (store_of t card') (u p) (rw q at r))) in
        passed _ 1 _ (ap not (sym rule) ∙ left) (rw (out.0, same) (carried imaged_store p (carded_of image card) (ap (λ (i : List ℕ). carded_of i card) back) (o p) a (store_of t card') r))

    -- with both buffers
    pub on-probe : {card card' register register' : List ℕ} (o : Probe → Outcome Probe) → ((p : Probe) → Unchanged p (o p)) → Gives (probe_of s card register) (o (probe_of s card register)) a (probe_of t card' register')
        → Gives (lent_of image card register) (refuse_if (not (image_rule image)) 1 (carry imaged_probe (o (probe_of (state_on image) card register)))) a' (lent_of image' card' register')
    unfolding imaged_probe
    on-probe {card = card} {card' = card'} {register = register} {register' = register'} o u g =
        let p : Probe = probe_of (state_on image) card register in
        let r : Gives p (o p) a (probe_of t card' register') = rw read at g in
        let same = put (λ n q. ap (λ (x : Probe). x.state) (left-refused p (o p) n (probe_of t card' register') (u p) (rw q at r))) in
        passed _ 1 _ (ap not (sym rule) ∙ left) (rw (out.0, same) (carried imaged_probe p (lent_of image card register) (ap (λ (i : List ℕ). lent_of i card register) back) (o p) a (probe_of t card' register') r))

-- Judged and then made ------------------------------------------------------------------------------------------------

-- a call that is made after it was judged: what it leaves of image and card
pub made-on : (o : Store → Outcome Store) (image card : List ℕ) (s t : State) (image' card' : List ℕ) → s ≡ state_on image → o (store_of s card) ≡ leave done (store_of t card') → image' ≡ bytes (image_of t)
    → carry imaged_store (o (store_of (state_on image) card)) ≡ leave done (carded_of image' card')
unfolding imaged_store imaged
made-on o image card s t image' card' read e put =
    ap (λ (x : State). carry imaged_store (o (store_of x card))) (sym read) ∙ ap (carry imaged_store) e ∙ ap (λ (i : List ℕ). leave done (carded_of i card')) (sym put)

module _ (image : List ℕ) {good : Bool} (rule : good ≡ image_rule image) (left : not good ≡ false) (o : Store → Outcome Store) (card : List ℕ) where
  -- refused as it is judged
  pub judged-refused : Below 256 image → ((p : Store) → Unchanged p (o p)) → (why : Refusal) → refused (refusal_number why) ≡ answer_of (o (store_of (state_on image) card))
      → Gives (carded_of image card) (refuse_if (not (image_rule image)) 1 (carry imaged_store (o (store_of (state_on image) card)))) (replied_by (refusal_number why)) (carded_of image card)
  judged-refused known u why r =
      rw (number-refused why) (on_store image rule left known (state_on image) refl (refl, refl) o u (record { answer = r; left = sym ((u (store_of (state_on image) card)).same (refusal_number why) (sym r)) }))

  -- or made
  pub judged-made : (image' card' : List ℕ) → carry imaged_store (o (store_of (state_on image) card)) ≡ leave done (carded_of image' card')
      → Gives (carded_of image card) (refuse_if (not (image_rule image)) 1 (carry imaged_store (o (store_of (state_on image) card)))) done (carded_of image' card')
  judged-made image' card' e = passed _ 1 _ (ap not (sym rule) ∙ left) (rw e (record { answer = refl; left = refl }))

-- Start --------------------------------------------------------------------------------------------------------------

-- there is no room for an image
pub start-short : (l : Lent) → eqb (length l.image) 2864 ≡ false → Gives (unstarted_on l) (start_on l) (refused 1) l
unfolding start_on refuse_if
start-short l e = rw e (record { answer = refl; left = refl })

-- the image is written whatever the answer is
pub on-start : (image card register : List ℕ) → eqb (length image) 2864 ≡ true → (a : Answer) (t : State) (card' register' : List ℕ)
    → Gives (unstarted card register) (start_of card register) a (probe_of t card' register')
    → Gives (unstarted_on (lent_of image card register)) (start_on (lent_of image card register)) a (lent_of (imaged t) card' register')
unfolding start_on imaged_probe refuse_if
on-start image card register e a t card' register' g =
    rw e (carried imaged_probe (unstarted card register) (imaged_probe (unstarted card register)) refl (start_of card register) a (probe_of t card' register') g)
