-- A number has two bytes.
use Rattle.std.proofs.Common.{◌≡◌, ◌+◌, ◌-◌, ◌*◌, ◌∙◌, ℕ, List, ap, arith, drop, length, map, sym, take}
use Rattle.std.proofs.lemmas.List.{length-drop, length-take-le, take_all}
use Rattle.bitpack_slices.proofs.lemmas.bytes.ArrayLaws.{pairs_range}
use Rattle.bitpack_slices.proofs.lemmas.numbers.HalfLaws.{pairs_len}
use Rattle.bitpack_slices.proofs.chunk.reading.unpack_numbers_from.Goals as goal
use Rattle.bitpack_slices.specs.Slices.{pairs_of}

pub overflow_mul-from : goal.overflow_mul-from
overflow_mul-from c = let size = pairs_len c.args.body.now in omega (arith, size, c.requires.within)

pub overflow_add-from : goal.overflow_add-from
overflow_add-from c = let size = pairs_len c.args.body.now in omega (arith, size, c.requires.within)

pub overflow_mul-from-2 : goal.overflow_mul-from-2
overflow_mul-from-2 c = let size = pairs_len c.args.body.now in omega (arith, size, c.requires.within)

pub slice_bounds-unpack_numbers-end : goal.slice_bounds-unpack_numbers-end
slice_bounds-unpack_numbers-end c = let size = pairs_len c.args.body.now in omega (arith, size, c.requires.within)

pub returns : goal.returns
returns c =
    let from : ℕ = c.args.from in
    let n : ℕ = length c.args.out.now in
    let body : List ℕ = c.args.body.now in
    let part : List ℕ = take (2 * (from + n) - 2 * from) (drop (2 * from) body) in
    let within = c.requires.within in
    let read : pairs_of part ≡ take n (drop from (pairs_of body)) = pairs_range n from body in
    let long = ap length read ∙ length-take-le n (drop from (pairs_of body)) (omega (arith, within, length-drop from (pairs_of body))) in
    let pairs = pairs_len part in
    let end = c.unpack_numbers.ensures.end in
    let same = c.unpack_numbers.auto.out in
    sym (take_all c.unpack_numbers.result c.unpack_numbers.new.out (omega arith)) ∙ c.unpack_numbers.ensures.values ∙ ap (map (λ i. c.args.base + i)) read
