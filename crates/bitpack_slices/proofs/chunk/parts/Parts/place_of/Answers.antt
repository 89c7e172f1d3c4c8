-- The slices between are passed.
use Rattle.std.proofs.Common.{ℕ, List, arith, take}
use Rattle.std.proofs.lemmas.List.{length-take-le}
use Rattle.bitpack_slices.proofs.lemmas.bits.CountLaws.{bytes_are}
use Rattle.bitpack_slices.proofs.lemmas.slices.PlaceLaws.{lens_passed, numbers_few_to, numbers_passed}
use Rattle.bitpack_slices.proofs.lemmas.slices.SumsLaws.{lens_few}
use Rattle.bitpack_slices.proofs.chunk.parts.Parts.place_of.Goals as goal

pub overflow_add-result : goal.overflow_add-result
overflow_add-result c =
    let counts : List ℕ = c.args.self.counts.now in
    let index : ℕ = c.args.index in
    let passed = lens_passed counts c.args.place.index index c.requires.later in
    let few = lens_few (take index counts) in
    let long = length-take-le index counts c.requires.within in
    let few' = c.args.self.few in
    omega (arith, c.sums_of-numbers.ensures.bytes, c.requires.place.offset_is)

pub overflow_add-result-2 : goal.overflow_add-result-2
overflow_add-result-2 c =
    let counts : List ℕ = c.args.self.counts.now in
    let passed = numbers_passed counts c.args.place.index c.args.index c.requires.later in
    let few = numbers_few_to counts c.args.index (bytes_are counts c.args.self.are_bytes) c.requires.within c.args.self.few in
    omega (arith, c.sums_of-numbers.ensures.numbers, c.requires.place.before_is)

pub returns-clause-place : goal.returns-clause-place
returns-clause-place c =
    let passed = numbers_passed c.args.self.counts.now c.args.place.index c.args.index c.requires.later in
    let cut = lens_passed c.args.self.counts.now c.args.place.index c.args.index c.requires.later in
    record {
      within = c.requires.within;
      offset_is = omega (arith, c.sums_of-numbers.ensures.bytes, c.requires.place.offset_is);
      before_is = omega (arith, c.sums_of-numbers.ensures.numbers, c.requires.place.before_is);
    }
