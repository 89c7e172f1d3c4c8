-- The parts have their places.
use Rattle.std.proofs.Common.{List, ℕ, ◌-◌, ◌+◌, ◌*◌, ◌≤◌, ◌≡◌, inl, inr, ◌++◌, ◌∷◌, ◌∙◌, ap, arith, drop, length, take, sym}
use Rattle.std.proofs.lemmas.Bool.{cases_lt}
use Rattle.std.proofs.lemmas.List.{length-take-le, take_all, take-append-le}
use Rattle.bitpack_slices.proofs.lemmas.bits.BitmapLaws.{those_few}
use Rattle.bitpack_slices.proofs.lemmas.bodies.CutLaws.{len_few}
use Rattle.bitpack_slices.proofs.lemmas.bodies.PartLaws.{parts_written}
use Rattle.bitpack_slices.proofs.blocks.writing.write_parts.Goals as goal
use Rattle.bitpack_slices.specs.Bitmaps.{has_bit}
use Rattle.bitpack_slices.specs.Bodies.{slice}
use Rattle.bitpack_slices.specs.Operations.{those}
use Rattle.bitpack_slices.specs.Slices.{slice_len}

pub split_at_mut-less-requires : goal.split_at_mut-less-requires
split_at_mut-less-requires c =
    let few = those_few 256 (has_bit c.args.occurring.now) in
    let short = len_few (length c.args.counts.now) in
    let size = c.byte_len-size.ensures in
    let rest = c.split_at_mut-head.ensures.back_len in
    let parts = c.split_at_mut-first.ensures.back_len in
    omega (arith, c.requires.counts)

-- the parts of 256 high bytes or fewer
parts_few : (n : ℕ) → n ≤ 256 → slice_len n + n + 32 * n ≤ 8448
parts_few n few = elim (cases_lt n 256) [
  | inl less ↦ (let short = len_few n in omega arith)
  | inr all ↦ (let e : n ≡ 256 = omega arith in let size = ap slice_len e in omega arith)
]

pub slice_bounds-copy_from_slice-end : goal.slice_bounds-copy_from_slice-end
slice_bounds-copy_from_slice-end c =
    let few = those_few 256 (has_bit c.args.occurring.now) in
    let short = len_few (length c.args.counts.now) in
    let size = c.byte_len-size.ensures in
    let rest = c.split_at_mut-head.ensures.back_len in
    let parts = c.split_at_mut-first.ensures.back_len in
    let bytes = c.split_at_mut-less.ensures.back_len in
    let room = parts_few (length c.args.counts.now) (omega (arith, c.requires.counts)) in
    omega (arith, c.requires.slices)

pub slice_bounds-copy_from_slice-end-2 : goal.slice_bounds-copy_from_slice-end-2
slice_bounds-copy_from_slice-end-2 c =
    let size = c.byte_len-size.ensures in
    let rest = c.split_at_mut-head.ensures.back_len in
    let parts = c.split_at_mut-first.ensures.back_len in
    let bytes = c.split_at_mut-less.ensures.back_len in
    let few = those_few 256 (has_bit c.args.occurring.now) in
    let room = parts_few (length c.args.counts.now) (omega (arith, c.requires.counts)) in
    sym (length-take-le (length c.args.slices.now) c.split_at_mut-less.result.1.now (omega (arith, c.requires.slices)))

pub copy_from_slice-requires-2 : goal.copy_from_slice-requires-2
copy_from_slice-requires-2 c = sym (slice_bounds-copy_from_slice-end-2 c)

pub overflow_cast-head : goal.overflow_cast-head
overflow_cast-head c =
    let few = those_few 256 (has_bit c.args.occurring.now) in
    omega (arith, c.requires.counts)

pub returns-clause-written : goal.returns-clause-written
returns-clause-written c =
    let counts : List ℕ = c.args.counts.now in
    let slices : List ℕ = c.args.slices.now in
    let len : ℕ = length slices in
    let first : List ℕ = c.put_slice.new.out in
    let less : List ℕ = c.copy_from_slice.new.self in
    let bytes : List ℕ = c.copy_from_slice-2.new.self in
    let rest : List ℕ = drop len c.split_at_mut-less.result.1.now in
    parts_written c.split_at_mut-head.result.0.now first less (bytes ++ rest) (length counts) c.byte_len-size.result len c.split_at_mut-head.ensures.front_len
    (c.put_slice.auto.out ∙ c.split_at_mut-first.ensures.front_len) (ap length c.copy_from_slice.ensures.after)
    ∙ ap (λ (l : List ℕ). (length counts - 1) ∷ (l ++ (less ++ take len (bytes ++ rest)))) c.put_slice.ensures
    ∙ ap (λ (l : List ℕ). (length counts - 1) ∷ (slice (those 256 (has_bit c.args.occurring.now)) ++ (l ++ take len (bytes ++ rest)))) c.copy_from_slice.ensures.after
    ∙ ap (λ (l : List ℕ). (length counts - 1) ∷ (slice (those 256 (has_bit c.args.occurring.now)) ++ (counts ++ l)))
    (ap (λ (l : List ℕ). take len (l ++ rest)) c.copy_from_slice-2.ensures.after ∙ take-append-le len slices rest (omega arith) ∙ take_all len slices (omega arith))
