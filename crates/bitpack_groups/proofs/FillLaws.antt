-- A slice that is filled from its start.
use Rattle.std.proofs.Common.{◌≡◌, ℕ, ◌+◌, ◌≤◌, List, [], ◌∷◌, ◌++◌, length, set, take, refl, sym, ap, ◌∙◌, arith, append_assoc, append-nil, length-append, length-set}
use borrow.Rule.Slice.PartMut.{put_mid}
use Rattle.std.proofs.lemmas.List.{length-take-le, take_all, take_more_set}
use Rattle.std.proofs.lemmas.Slice.{take-put_mid}
use Rattle.bitpack_groups.proofs.SliceLemmas.{length-written}

-- `all` is written up to an index, and the rest is not
pub record IsFilled (out : List ℕ) (at : ℕ) (rest all : List ℕ) : Type 0 where
  pub size : length out ≡ length all
  pub within : at ≤ length out
  pub parts : take at out ++ rest ≡ all

pub fill_start : (out all : List ℕ) → length out ≡ length all → IsFilled out 0 all all
fill_start out all e = record { size = e; within = omega arith; parts = refl }

pub fill_left : (out : List ℕ) (at : ℕ) (rest all : List ℕ) → IsFilled out at rest all → at + length rest ≡ length out
fill_left out at rest all fill =
    let e = ap length fill.parts in
    let f = length-append (take at out) rest in
    let g = length-take-le at out fill.within in
    let h = fill.size in
    omega arith

pub fill_room : (out : List ℕ) (at : ℕ) (part rest all : List ℕ) → IsFilled out at (part ++ rest) all → at + length part ≤ length out
fill_room out at part rest all fill = let e = fill_left out at (part ++ rest) all fill in let f = length-append part rest in omega arith

pub fill_part : (out new : List ℕ) (at size : ℕ) (part rest all : List ℕ) → IsFilled out at (part ++ rest) all → size ≡ length part → new ≡ part
    → IsFilled (put_mid at size out new) (at + size) rest all
fill_part out new at size part rest all fill long is =
    let room = fill_room out at part rest all fill in
    let same = ap length is in
    let unchanged : length (put_mid at size out new) ≡ length out = length-written at size out new fill.within (omega arith) (omega arith) in
    let front = take-put_mid at size out new (at + size) (omega arith) fill.within in
    record {
      size = unchanged ∙ fill.size;
      within = omega arith;
      parts = ap (λ (l : List ℕ). l ++ rest) (front ∙ ap (λ (l : List ℕ). take at out ++ l) is) ∙ append_assoc (take at out) part rest ∙ fill.parts;
    }

-- a part is written after what there is
pub fill_more : (out new : List ℕ) (at end : ℕ) (part rest all : List ℕ) → IsFilled out at (part ++ rest) all → length new ≡ length out
    → take end new ≡ take at out ++ part → end ≡ at + length part → IsFilled new end rest all
fill_more out new at end part rest all fill long is e =
    let room = fill_room out at part rest all fill in
    record {
      size = long ∙ fill.size;
      within = omega arith;
      parts = ap (λ (l : List ℕ). l ++ rest) is ∙ append_assoc (take at out) part rest ∙ fill.parts;
    }

pub fill_one : (out : List ℕ) (at x : ℕ) (rest all : List ℕ) → IsFilled out at (x ∷ rest) all → IsFilled (set out at x) (at + 1) rest all
fill_one out at x rest all fill =
    let e = fill_left out at (x ∷ rest) all fill in
    let f = length-set out at x in
    record {
      size = f ∙ fill.size;
      within = omega arith;
      parts = ap (λ (l : List ℕ). l ++ rest) (take_more_set out at x (omega arith)) ∙ append_assoc (take at out) (x ∷ []) rest ∙ fill.parts;
    }

pub fill_done : (out : List ℕ) (at : ℕ) (all : List ℕ) → IsFilled out at [] all → out ≡ all
fill_done out at all fill =
    let e = fill_left out at [] all fill in
    sym (take_all at out (omega arith)) ∙ sym (append-nil (take at out)) ∙ fill.parts
