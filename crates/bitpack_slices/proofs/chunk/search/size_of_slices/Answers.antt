-- One slice more is passed.
use Rattle.std.proofs.Common.{◌+◌, arith, get_or, sym, ap}
use Rattle.std.proofs.lemmas.List.{take_all}
use Rattle.bitpack_slices.proofs.lemmas.bodies.CutLaws.{len_few, lens_more, lens_none}
use Rattle.bitpack_slices.proofs.chunk.search.size_of_slices.Goals as goal
use Rattle.bitpack_slices.specs.Slices.{slices_len}

pub loop-less-init : goal.loop-less-init
loop-less-init c = record { few = omega arith; passed = sym (lens_none c.args.counts.now) }

pub loop-less-preserved : goal.loop-less-preserved
loop-less-preserved c =
    let next = lens_more c.args.counts.now c.loop-less.less-index (omega arith) in
    let few = len_few (get_or c.args.counts.now c.loop-less.less-index 0 + 1) in
    record { few = omega arith; passed = omega arith }

pub overflow_add-sum : goal.overflow_add-sum
overflow_add-sum c = let few = len_few (get_or c.args.counts.now c.loop-less.less-index 0 + 1) in omega arith

pub returns : goal.returns
returns c = let all = ap slices_len (take_all c.loop-less.less-index c.args.counts.now (omega arith)) in omega arith
