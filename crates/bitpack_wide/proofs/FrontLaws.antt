-- The front of a longer list.
use mir.Val.{bool_byte}
use borrow.Rule.Slice.PartMut.{put_mid}
use Rattle.std.proofs.Common.{◌≡◌, ℕ, ◌+◌, ◌^◌, ◌<◌, ◌≤◌, ◌∙◌, Bool, true, false, List, [], ◌∷◌, ◌++◌, ap, arith, cond, get_or, inl, inr, leb, length, length-take, length-take-le, sym, take}
use Rattle.std.proofs.lemmas.Bool.{cases_lt, le-leb}
use Rattle.std.proofs.lemmas.List.{take-append-le}
use Rattle.std.proofs.lemmas.Slice.{take-put_mid}
use Rattle.bitpack_slices.proofs.ForCallers.{get_take}
use Rattle.bitpack_slices.specs.Bodies.{IsRising}
use Rattle.bitpack_slices.specs.Follows.{Follow}
use Rattle.bitpack_wide.specs.inner.Merging.{IsFront}

pub front_within : (front all : List ℕ) (i : ℕ) → IsFront front all → i < length front → i < length all
front_within front all i is here =
    let same = ap length is.front_is in
    let size = length-take (length front) all in
    omega arith

pub front_at : (front all : List ℕ) (i : ℕ) → IsFront front all → i < length front → get_or front i 0 ≡ get_or all i 0
front_at front all i is here =
    let same = ap length is.front_is in
    ap (λ (l : List ℕ). get_or l i 0) (sym is.front_is) ∙ get_take (length front) i all (omega arith)

one_more : (b : Bool) (x : ℕ) → length (cond b (x ∷ []) []) ≤ 1
one_more true x = omega arith
one_more false x = omega arith

-- each id that is written is of one list at least
pub one_step : (b : Bool) (m x y : ℕ) → length (cond b (m ∷ []) []) ≤ bool_byte (leb x y) + bool_byte (leb y x)
one_step b m x y =
    let few = one_more b m in
    elim (cases_lt x y) [
      | inl less ↦ (let first = ap bool_byte (le-leb x y (omega arith)) in omega arith)
      | inr more ↦ (let second = ap bool_byte (le-leb y x (omega arith)) in omega arith)
    ]

-- the first ids of a buffer
pub front_len : (m : ℕ) (out rest : List ℕ) → m ≤ length out → length (take m (out ++ rest)) ≡ m
front_len m out rest room = ap length (take-append-le m out rest room) ∙ length-take-le m out room

pub front_of : (m : ℕ) (out rest all : List ℕ) → m ≤ length out → m ≤ length all → IsRising 0 (2 ^ 64) all → take m out ≡ take m all → IsFront (take m (out ++ rest)) all
front_of m out rest all room there rising same =
    record { rising = rising; front_is = ap (λ (n : ℕ). take n all) (front_len m out rest room) ∙ sym same ∙ sym (take-append-le m out rest room) }

-- ids that are written after others
pub put_follow : (at k end : ℕ) (out mid xs : List ℕ) → at ≤ length out → mid ≡ xs → end ≡ at + length xs → Follow xs out (put_mid at k out mid) at end
put_follow at k end out mid xs within same is = record {
  end_is = is;
  written = λ h. take-put_mid at k out mid end (let size = ap length same in omega arith) within ∙ ap (λ (l : List ℕ). take at out ++ l) same;
}
