-- They are some of those that are unpacked.
use Rattle.std.proofs.Common.{◌≡◌, ◌+◌, ◌-◌, ◌∙◌, ℕ, List, ap, arith, drop, length, map, take}
use Rattle.std.proofs.lemmas.List.{length-map}
use Rattle.bitpack_slices.proofs.lemmas.numbers.RangeLaws.{front_range, map_range}
use Rattle.bitpack_slices.proofs.slice.reading.unpack_slice_from.Goals as goal
use Rattle.bitpack_slices.specs.Slices.{slice_numbers}

pub returns : goal.returns
returns c =
    let xs : List ℕ = slice_numbers c.args.count c.args.bytes.now in
    let f : ℕ → ℕ = λ i. c.args.base + i in
    let n : ℕ = length c.args.out.now in
    let size : length (map f xs) ≡ c.args.count = length-map xs f ∙ c.requires.slice.count_is in
    let same : c.args.from + n - c.args.from ≡ n = omega arith in
    c.copy_from_slice.ensures.after ∙ ap (λ (k : ℕ). take k (drop c.args.from c.unpack_slice.new.out)) same
    ∙ front_range c.unpack_slice.result n c.args.from c.unpack_slice.new.out (map f xs) c.unpack_slice.ensures.values (omega (arith, c.requires.within)) ∙ map_range f n c.args.from xs
