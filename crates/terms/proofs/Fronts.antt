-- Heads of an array of which a part is lent: the parts in front of it are as they were.
use Rattle.lists.proofs.Prelude.{List, ◌++◌, map, ◌≡◌, refl, sym, ap, ◌∙◌, ℕ, zero, suc, ◌+◌, ◌-◌, ◌*◌, ◌≤◌, mul-suc, add-one, arith, length, take, drop, take-append-drop, length-append, length-drop, length-take-le, take-append-le, drop-append-le, drop_at, AllOf}
use borrow.Rule.Slice.PartMut.{put_mid}
use Rattle.keyed.specs.Keys.{rest}
use Rattle.keyed.specs.Groups.{move_all}
use Rattle.kway.specs.Parts.{part, parts}
use Rattle.kway.proofs.Parts.{all_more, put-length, put-here, put_in}
use Rattle.heads.specs.Heads.{view, Kept, views}
use Rattle.terms.specs.Both.{Ready, both}

-- parts of the front
pub parts-append : (w n : ℕ) (P Q : List ℕ) → w * n ≤ length P → parts w n (P ++ Q) ≡ parts w n P
unfolding parts
parts-append w zero P Q h = refl
parts-append w (suc n) P Q h =
    let m = mul-suc w n in
    let l = length-drop (w * n) P in
    rw (parts-append w n P Q (omega arith), drop-append-le (w * n) P Q (omega arith), take-append-le w (drop (w * n) P) Q (omega arith))

-- parts of an array are those of its front
pub parts-front : (w n : ℕ) (H Q : List ℕ) → w * n ≤ length H → parts w n (take (w * n) H ++ Q) ≡ parts w n H
parts-front w n H Q h =
    let l = length-take-le (w * n) H h in
    parts-append w n (take (w * n) H) Q (omega arith) ∙ sym (parts-append w n (take (w * n) H) (drop (w * n) H) (omega arith)) ∙ ap (parts w n) (take-append-drop (w * n) H)

pub parts-take : (w n : ℕ) (H : List ℕ) → w * n ≤ length H → parts w n (take (w * n) H) ≡ parts w n H
parts-take w n H h =
    let l = length-take-le (w * n) H h in
    sym (parts-append w n (take (w * n) H) (drop (w * n) H) (omega arith)) ∙ ap (parts w n) (take-append-drop (w * n) H)

-- the lists' heads lent and given back
module _ (n : ℕ) (H P : List ℕ) (long : length H ≡ 4 * n + 4) (front : length P ≡ 4 * n) where
  abbrev between : List ℕ
  between = put_mid 0 (4 * n - 0) H P

  pub between-long : length between ≡ length H
  between-long = let l = length-drop (4 * n - 0) H in rw (length-append P (drop (4 * n - 0) H)) (omega arith)

  -- the run's head is as it was
  pub between-part : part 4 n between ≡ part 4 n H
  between-part = let z : 4 * n - 0 ≡ 4 * n = omega arith in rw (drop_at P (drop (4 * n - 0) H) (4 * n) front, z)

  pub between-parts : parts 4 n between ≡ parts 4 n P
  between-parts = parts-append 4 n P (drop (4 * n - 0) H) (omega arith)

-- and then the run's
module _ (n : ℕ) (H P Q : List ℕ) (long : length H ≡ 4 * n + 4) (front : length P ≡ 4 * n) (four : length Q ≡ 4) where
  abbrev after : List ℕ
  after = put_in 4 (put_mid 0 (4 * n - 0) H P) Q n

  inside : 4 * n + 4 ≤ length (put_mid 0 (4 * n - 0) H P)
  inside = omega (arith, between-long n H P long front)

  pub after-long : length after ≡ length H
  after-long = put-length 4 _ Q n inside four ∙ between-long n H P long front

  pub after-parts : parts 4 n after ≡ parts 4 n P
  after-parts = parts-front 4 n (put_mid 0 (4 * n - 0) H P) _ (omega (arith, inside)) ∙ between-parts n H P long front

  pub after-part : part 4 n after ≡ Q
  after-part = put-here 4 _ Q n inside four

  module _ (W R : List ℕ) (k : ℕ) where
    pub after-ready : AllOf (Kept W R) (parts 4 n P) → Kept W R Q → Ready W R n after
    after-ready a b = record { lists = rw after-parts a; run = rw after-part b }

    pub after_both : views W R n P ≡ map (rest k) (views W R n H) → view W R Q ≡ rest k (view W R (part 4 n H)) → both W R n after ≡ move_all k (both W R n H)
    after_both a b = rw (after-parts, after-part, a, b)

-- lists and run as heads of one kind
pub ready-all : (W R : List ℕ) (n : ℕ) (H : List ℕ) → Ready W R n H → AllOf (Kept W R) (parts 4 (n + 1) H)
unfolding parts
ready-all W R n H r = rw (add-one n) (all_more (Kept W R) (parts 4 n H) (part 4 n H) r.lists r.run)
