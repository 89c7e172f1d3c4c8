-- The count of high bytes before one is the index of its slice.
use Rattle.std.proofs.Common.{arith}
use Rattle.bitpack_slices.proofs.lemmas.bodies.LoadLaws.{index_within, slice_found, some_there}
use Rattle.bitpack_slices.proofs.blocks.Blocks.slice_at.Goals as goal
use Rattle.bitpack_slices.specs.Bitmaps.{has_bit}

pub bounds-self-index-2 : goal.bounds-self-index-2
bounds-self-index-2 c = index_within _ _ _ c.args.self.now.counts.now c.args.self.now.size c.rank_of_bit-index.ensures c.requires.within c.requires.occurs

pub bounds-self-index : goal.bounds-self-index
bounds-self-index c =
    let less = index_within _ _ _ c.args.self.now.counts.now c.args.self.now.size c.rank_of_bit-index.ensures c.requires.within c.requires.occurs in
    let few = c.args.self.now.few in
    omega arith

pub offset_bounds-self-index : goal.offset_bounds-self-index
offset_bounds-self-index c = let less = bounds-self-index c in omega arith

pub invariant_of-result : goal.invariant_of-result
invariant_of-result c =
    let parts = c.args.self.now in
    let less = index_within _ _ _ parts.counts.now parts.size c.rank_of_bit-index.ensures c.requires.within c.requires.occurs in
    record { there = slice_found c.rank_of_bit-index.result _ parts.counts.now parts.slices.now parts.are less (parts.passed c.rank_of_bit-index.result less) }

pub returns : goal.returns
returns c = λ i small.
    let parts = c.args.self.now in
    let less = index_within _ _ _ parts.counts.now parts.size c.rank_of_bit-index.ensures c.requires.within c.requires.occurs in
    some_there (has_bit parts.highs) c.args.high i c.rank_of_bit-index.result _ parts.counts.now parts.slices.now c.requires.within small
    c.requires.occurs parts.size parts.are c.rank_of_bit-index.ensures (parts.passed c.rank_of_bit-index.result less)
