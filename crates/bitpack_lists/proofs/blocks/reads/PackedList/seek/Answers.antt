-- The first value that reaches the target is in the first block whose last value does, or in the tail.
use Rattle.std.proofs.Common.{◌≡◌, true, false, sym, ◌∙◌, ap, arith}
use Rattle.bitpack_lists.specs.Search.{in_whole_block}
use Rattle.bitpack_lists.specs.inner.Searching.{blocks_of}
use Rattle.bitpack_lists.proofs.lemmas.opened.OpenedLists.{opened_before, opened_inside}
use Rattle.bitpack_lists.proofs.lemmas.opened.OpenedValues.{first_listed, length-values}
use Rattle.bitpack_lists.proofs.blocks.reads.PackedList.seek.Goals as goal

pub returns-in-Some-clause-found : goal.returns-in-Some-clause-found
returns-in-Some-clause-found g c = c.seek_in_first_block.ensures.found ∙ first_listed c.args.self.now c.args.target

pub returns-in-Some-clause-reads : goal.returns-in-Some-clause-reads
returns-in-Some-clause-reads g c =
    let self = c.args.self.now in
    let count = sym (length-values self) in
    let block = c.in-Some.ensures in
    let first = block.found in
    let reads = c.seek_in_first_block.ensures.reads in
    let inside =
    opened_inside self g.met.P.BitPacker.some_lanes c.requires c.args.target c.in-Some.block.number first.before first.is.within (first.enough first.is.within) in
    record {
      entries = λ digits fits. omega (arith, block.halves digits (rw count fits), reads.entries);
      blocks = omega (arith, block.reads.blocks, reads.blocks);
      outside = λ e.
          let here = ap (in_whole_block g.P.BitPacker.lanes self.count) c.seek_in_first_block.ensures.found ∙ inside in
          let there = ap (λ n. in_whole_block g.P.BitPacker.lanes n c.seek_in_first_block.result) count ∙ e in
          let clash : true ≡ false = sym here ∙ there in
          absurd cc;
      grown = record {
        entries = omega (arith, block.reads.entries, reads.entries);
        blocks = omega (arith, block.reads.blocks, reads.grown.blocks);
      };
    }

pub returns-in-None-clause-found : goal.returns-in-None-clause-found
returns-in-None-clause-found g c =
    let self = c.args.self.now in
    let found = c.in-None.ensures in
    c.seek_in_tail.ensures.found
    (opened_before self g.met.P.BitPacker.some_lanes c.requires c.args.target (blocks_of self) found.found.before (omega arith))
    ∙ first_listed self c.args.target

pub returns-in-None-clause-reads : goal.returns-in-None-clause-reads
returns-in-None-clause-reads g c =
    let found = c.in-None.ensures in
    let count = sym (length-values c.args.self.now) in
    record {
      entries = λ digits fits. found.halves digits (rw count fits);
      blocks = omega (arith, found.reads.blocks);
      outside = λ e. found.reads.blocks;
      grown = record { entries = found.reads.entries; blocks = omega (arith, found.reads.blocks) };
    }
