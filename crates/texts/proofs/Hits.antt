-- The lines of hits, written one after another.
use Rattle.lists.proofs.Prelude.{List, [], ◌∷◌, ◌++◌, map, append-nil, ◌≡◌, refl, sym, ℕ, ◌+◌, ◌*◌, ◌≤◌, ◌<◌, add-one, arith, length, get_or, take, take-suc, joined}
use Rattle.answers.specs.declared.Hit.{Hit}
use Rattle.lists.proofs.Stores.{joined-append}
use Rattle.texts.specs.Texts.{Wrote, hit_text}
use Rattle.texts.proofs.Appending.{wrote_then, wrote_as}

-- what `get_or` gives past the end, as a need writes it
abbrev pub no_hit : Hit
no_hit = record { window = 0; score = 0 }

-- the lines of i hits are written
pub record Listing (old : List ℕ) (n used : ℕ) (hits : List Hit) (new : List ℕ) (m i : ℕ) : Type 0 where
  pub within : i ≤ used
  pub few : used ≤ 32
  pub many : length hits ≡ 32
  pub room : n + used * 22 ≤ length old
  pub most : m ≤ n + i * 22
  pub wrote : Wrote old n (joined (map hit_text (take i hits))) new m

pub list-none : (old : List ℕ) (n used : ℕ) (hits : List Hit) → used ≤ 32 → length hits ≡ 32 → n + used * 22 ≤ length old → Listing old n used hits old n 0
list-none old n used hits h k r = record {
  within = omega arith;
  few = h;
  many = k;
  room = r;
  most = omega arith;
  wrote = record { text = sym (append-nil (take n old)); count = omega arith; long = refl };
}

pub list-more : {old new new' : List ℕ} {n used m m' i : ℕ} {hits : List Hit} → Listing old n used hits new m i → i < used
    → Wrote new m (hit_text (get_or hits i no_hit)) new' m' → m' ≤ m + 22 → Listing old n used hits new' m' (i + 1)
list-more {i = i} {hits = hits} s h w b =
    let k : i < length hits = omega (arith, s.many, s.few) in
    let e : joined (map hit_text (take i hits)) ++ hit_text (get_or hits i no_hit) ≡ joined (map hit_text (take (i + 1) hits)) =
    sym (rw (add-one, take-suc hits i no_hit k, joined-append hit_text (take i hits) (get_or hits i no_hit ∷ []), append-nil)) in
    record {
      within = omega arith;
      few = s.few;
      many = s.many;
      room = s.room;
      most = omega (arith, s.most);
      wrote = wrote_as e (wrote_then s.wrote w);
    }
