-- One code more is written.
use Rattle.std.proofs.Common.{◌^◌, arith}
use Rattle.bitpack_groups.proofs.ForCallers.{fill_done, fill_start}
use Rattle.bitpack_sets.proofs.lemmas.encodings.FewLaws.{codes_len, codes_of, gap_more, gap_none, id_above}
use Rattle.bitpack_sets.proofs.encoding.few.copy_gaps.Goals as goal

pub loop-index-init : goal.loop-index-init
loop-index-init c =
    let size = c.requires.size in
    let long = codes_len c.args.ids.now (omega arith) in
    fill_start c.args.out.now (codes_of c.args.ids.now) (omega arith)

pub overflow_sub-out : goal.overflow_sub-out
overflow_sub-out c =
    let size = c.requires.size in
    let above = id_above 0 (2 ^ 32) c.loop-index.index c.args.ids.now c.requires.set.rising (omega arith) in
    omega arith

pub overflow_sub-out-in-loop-index : goal.overflow_sub-out-in-loop-index
overflow_sub-out-in-loop-index c =
    let size = c.requires.size in
    let above = id_above 0 (2 ^ 32) c.loop-index.index c.args.ids.now c.requires.set.rising (omega arith) in
    omega arith

pub loop-index-preserved : goal.loop-index-preserved
loop-index-preserved c =
    let size = c.requires.size in
    gap_more c.args.ids.now c.loop-index.out c.loop-index.index (omega arith) c.loop-index.invariant

pub returns : goal.returns
returns c =
    let size = c.requires.size in
    fill_done c.loop-index.out c.loop-index.index (codes_of c.args.ids.now) (gap_none c.args.ids.now c.loop-index.out c.loop-index.index (omega arith) c.loop-index.invariant)
