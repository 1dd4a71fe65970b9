-- What nearly every proof names, passed on in one place: of the kit's libraries, and of this crate.
pub use mathlib.Core.Path.{◌≡◌, refl, sym, ap, ◌∙◌, ap₂, subst, fun_ext}
pub use native.Mathlib.Omega.{arith}
pub use Prim.Native.Nat.{ℕ, zero, suc, ◌<◌, ◌≤◌, zero-le, ◌+◌, ◌-◌, ◌*◌, ◌/◌, ◌%◌, ◌^◌, min}
pub use lib.ListN.{length, get_or, take, drop, set, replicate, length-set, length-append, take-append-drop, length-drop, drop_of_length-le, length-take, get_or-eq_default as List·getD-eq-default, get_or-append as List·getD-append, get_or-replicate, length-map, get_or-map as List·getD-map, length-replicate, replicate-append-replicate}
pub use mathlib.Core.List.Memᴰ.{cases_cons as List·Memᴰ·cases-cons}
pub use mathlib.Core.List.Memᴰ.{head as List·Memᴰ·head}
pub use mathlib.Core.List.Memᴰ.{not-nil as List·Memᴰ·not-nil}
pub use mathlib.Core.List.Memᴰ.{tail as List·Memᴰ·tail}
pub use mathlib.Core.List.{List, [], ◌∷◌, map, ◌++◌, foldr, Memᴰ as List-as-Memᴰ, map-append, append-nil, tail-eq_of_cons-eq, map-id, append_assoc, map-map}
pub use borrow.Author.Rules.{rules}
pub use mathlib.Core.Bool.{Bool, true, false, cond, ◌||◌, or_assoc, ◌&&◌, and-false, not, true≢false, and-true, and_assoc, and_comm, or-false, or_comm, false≢true, or_self_left, not-not as Bool·not-not}
pub use borrow.Author.Tests.{ltb-true, ltb-false, eqb-true, eqb-false, eq-eqb, ne_eqb, lt-ltb, lt-leb, le-leb, leb-true, leb-false, le-ltb, not-true, not-false}
pub use lib.Dec.{ltb, eqb, leb, lit≤, lit<, T, ltb→lt, nltb→le}
pub use lib.Seq.{drop-set-lt, take-take, length-take-le, take-append_seam, drop-append_seam, drop-cons, take-nil, drop-nil, get_or-take, take-set-lt, take-suc, drop_at, get_or-drop, take_all, ext_get_or, sets, length-sets, sets-eq, take_at, drop-drop, get_or-set_same, get_or-set_other, get_or_at, get_or-append-add, drop-append-add, take-append-le, drop-append-le, set-append_left, set-append_seam, lt-length-set, slice, take-suc-set, take-length, take-add, length_front, take-append-add, set-set}
pub use lib.IntN.{ℤ, pos, ◌+ℤ◌, +ℤ_idl, +ℤ_idr, +ℤ_assoc, +ℤ_comm, negsuc, nat_abs, neg_ℤ, neg_ℤ-+ℤ, ◌-ℤ◌, +ℤ_invl, pos-ne-negsuc}
pub use native.Mathlib.Numerals.{add-one}
pub use mathlib.Core.Logic.{◌⊎◌, inl, inr, ⊎_elim}
pub use native.Mathlib.Nat.{eq-or-lt_of_le, mul_assoc, one-mul, pow-suc, pow-zero, lt_of_le_of_lt, pow-le-pow_left, div-le_self, le-div_iff_mul-le, div-lt_iff_lt-mul, le_trans, le_of_eq, mul-le-mul_right, mul-le-mul, mod-lt, div-add-mod', mul_comm, add-zero, zero-add, mul-suc, mul-le-mul_left, pow-succ', pow-le-pow_right, sub_self}
pub use Rattle.lists.specs.Lists.{keep, any, every, empty, different, elem, same, up_to, total_by, joined}
unfoldable pub use Rattle.lists.specs.Lists.{below, rising, down}
unfoldable pub use Rattle.lists.specs.All.{AllOf}
pub use Rattle.lists.proofs.Bools.{by-test, and_left, and_right, or-none, or_swap, and_both, and-swap, or_right, and-past, and-past-two, and-turned, choose, cond_same}
pub use Rattle.lists.proofs.Tests.{every-mem, every-kept, every-from, every-keep, keep_append, keep_all, every_append, every_take, every_drop, keep-none, length-keep, every-replicate, every-at, any_append, keep_same, keep-agree, every-down, keep-down, any_none, every-member, every-both, keep-both, keep-up, keep_low, map-kept, empty-length, empty-none, empty-is, empty-not}
pub use Rattle.lists.proofs.Arrays.{unmapped, of_at}
pub use Rattle.lists.proofs.Turns.{near_next, passed, failed, turn, end}
pub use Rattle.lists.proofs.Runs.{never, get_or-rising, keep-here, keep-past, get_or-sets-out, apart-append, apart_none, leb-less, leb-none, apart-hit, apart_more, union_more, eqb_swap, apart}
pub use Rattle.lists.proofs.Ranges.{every-rising, different-rising, length-rising, map-where, length-all, length-joined, elem-rising, total-rising, up_to-at, total-map, map-up_to, map-middle, every_map, joined_at, keep-joined, keep-rising, map-take, map-drop, any-map, keep-map, total-more, elem-down}
pub use Rattle.lists.proofs.Sets.{every-elem, every-up_to, different-keep, different-within, every-turned, length-keep-turned, different-turned, sets-back, pad-split, sets-before, sets-past, elem-place, none_from, part-set, elem-keep, different-insert, different-take, elem-every, elem-append, elem-left, elem-right, elem-neither, elem-none, Parted, different-parts, different-join, keep-less, keep-without, keep-others, FirstKept, first-kept, keep-turned}
pub use Rattle.lists.proofs.Same.{same_refl, same_true, same-swap, any_at, every_set, take-sets-le, drop-sets-add, take-over, drop-over, same_length, every-step, same_false, eq-same, same-append}
pub use Rattle.lists.proofs.Padding.{get_or-same}
pub use Rattle.lists.proofs.Sections.{take-drop, take_rest}
