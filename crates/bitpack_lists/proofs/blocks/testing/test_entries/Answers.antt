-- The first entry with a fault is found.
use Rattle.std.proofs.Common.{ℕ, List, refl, ◌∙◌, arith, add-one}
use Rattle.bitpack_lists.specs.Version2.{entry_fault2, first_fault}
use Rattle.bitpack_lists.proofs.lemmas.blocks.RestFaults.{first_fault-found, first_fault-next, off_entry, right_entry, wide_entry}
use Rattle.bitpack_lists.proofs.blocks.testing.test_entries.Goals as goal

pub loop-block-init : goal.loop-block-init
unfolding first_fault
loop-block-init c = record { right = refl; widths_is = refl; few = omega arith }

pub returns-then-entry-gt32-clause-fault : goal.returns-then-entry-gt32-clause-fault
returns-then-entry-gt32-clause-fault c =
    let rest : List ℕ = c.args.rest.now in
    let block : ℕ = c.loop-block.block in
    rw c.read_entry-entry.ensures.entry.width
    (first_fault-found (entry_fault2 rest) block c.args.blocks _ c.loop-block-test.true c.loop-block.invariant.right
    (wide_entry rest block (rw c.read_entry-entry.ensures.entry.width at c.if-entry-gt32.true)))

pub returns-then-entry-widths-clause-fault : goal.returns-then-entry-widths-clause-fault
returns-then-entry-widths-clause-fault c =
    let rest : List ℕ = c.args.rest.now in
    let block : ℕ = c.loop-block.block in
    first_fault-found (entry_fault2 rest) block c.args.blocks _ c.loop-block-test.true c.loop-block.invariant.right
    (off_entry rest block (rw c.read_entry-entry.ensures.entry.width at c.if-entry-gt32.false)
    (rw (c.read_entry-entry.ensures.entry.offset, c.loop-block.invariant.widths_is) at c.if-entry-widths.true))

pub loop-block-preserved : goal.loop-block-preserved
loop-block-preserved c =
    let rest : List ℕ = c.args.rest.now in
    let block : ℕ = c.loop-block.block in
    let width = c.read_entry-entry.ensures.entry.width in
    record {
      right =
          first_fault-next (entry_fault2 rest) block c.loop-block.invariant.right
          ∙ right_entry rest block (rw width at c.if-entry-gt32.false)
          (rw (c.read_entry-entry.ensures.entry.offset, c.loop-block.invariant.widths_is) at c.if-entry-widths.false);
      widths_is = rw add-one (omega (arith, width, c.loop-block.invariant.widths_is));
      few = omega arith;
    }
