-- Lists of numbers that have none in common.
use Rattle.lists.proofs.Prelude.{true, false, ◌||◌, not, true≢false, List, ◌++◌, ◌≡◌, sym, ap, ◌∙◌, ℕ, not-true, elem, different, by-test, elem-every, every-elem, elem-append, elem-left, elem-right, different-parts as parted, different-join as put-together}
use Rattle.blocks.proofs.Stores.{apart}

-- none of x is in y
abbrev pub Apart : List ℕ → List ℕ → Type 0
Apart x y = (b : ℕ) → elem b x ≡ true → elem b y ≡ false

pub apart-swap : (x y : List ℕ) → Apart x y → Apart y x
apart-swap x y h b e = by-test (elem b x) (λ m. absurd (true≢false (sym e ∙ h b m))) (λ n. n)

pub apart-left : (x y z : List ℕ) → Apart (x ++ y) z → Apart x z
apart-left x y z h b e = h b (elem-left b x y e)

pub apart-right : (x y z : List ℕ) → Apart (x ++ y) z → Apart y z
apart-right x y z h b e = h b (elem-right b x y e)

pub apart-join : (x y z : List ℕ) → Apart x z → Apart y z → Apart (x ++ y) z
apart-join x y z g h b e = by-test (elem b x) (g b) (λ n. h b (sym (ap (λ t. t || elem b y) n) ∙ sym (elem-append b x y) ∙ e))

-- as a test
pub apart-test : (x y : List ℕ) → Apart x y → apart x y ≡ true
apart-test x y h = elem-every (λ d. not (elem d y)) x (λ d e. ap not (h d e))

-- a list in which none stands twice, in two parts
pub different-parts : (x y : List ℕ) → different (x ++ y) ≡ true → (different x ≡ true) × (different y ≡ true) × Apart x y
different-parts x y e =
    let p = parted x y e in
    (p.left, p.right, apart-swap y x (λ b m. not-true _ (every-elem (λ d. not (elem d x)) y b p.apart m)))

pub different-join : (x y : List ℕ) → different x ≡ true → different y ≡ true → Apart x y → different (x ++ y) ≡ true
different-join x y d e h = put-together x y d e (apart-test y x (apart-swap x y h))
