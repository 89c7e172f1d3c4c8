-- A mark below the target leaves the blocks after it, and another one those before it.
use Rattle.std.proofs.Common.{◌≡◌, ◌+◌, ◌-◌, ◌/◌, ◌∙◌, ℕ, subst, arith}
use Rattle.bitpack_columns.specs.declared.column_kind.ColumnKind.TheVariants.{Sorted}
use Rattle.bitpack_columns.specs.Columns.{block_of, mark_of}
use Rattle.bitpack_columns.specs.Opened.{values}
use Rattle.bitpack_columns.proofs.CountedLaws.{digits_less}
use Rattle.bitpack_columns.proofs.SeekLaws.{in_order, marks_in_order}
use Rattle.bitpack_columns.proofs.column.Column.first_block.Goals as goal

pub loop-left-preserved-then-read_mark-target : goal.loop-left-preserved-then-read_mark-target
loop-left-preserved-then-read_mark-target c =
    let column = c.args.self.now in
    let here = c.loop-left in
    let half : ℕ = here.left / 2 in
    let same : here.first + (here.left - half) + half ≡ here.first + here.left = omega arith in
    let read : c.read_mark.result ≡ mark_of Sorted (block_of (here.first + half) (values column)) =
    subst (λ kind. c.read_mark.result ≡ mark_of kind (block_of (here.first + half) (values column))) c.requires c.read_mark.ensures.mark in
    record {
      within = omega (arith, same, here.invariant.within);
      before = λ block lt.
          let le = marks_in_order (values column) (in_order column c.requires) block (here.first + half) (omega arith)
          (omega (arith, here.invariant.within, c.loop-left-test.true)) in
          omega (arith, le, read, c.if-read_mark-target.true);
      enough = rw same here.invariant.enough;
      halves = λ digits fits.
          let (fewer, span, few) = here.invariant.halves digits fits in
          digits_less here.left fewer here.reads.marks c.read_mark.new.self.marks (c.args.reads.now.marks + digits) c.loop-left-test.true span few
          c.read_mark.ensures.reads.marks;
      blocks = c.read_mark.ensures.reads.blocks ∙ here.invariant.blocks;
    }

pub loop-left-preserved : goal.loop-left-preserved
loop-left-preserved c =
    let column = c.args.self.now in
    let here = c.loop-left in
    let half : ℕ = here.left / 2 in
    let read : c.read_mark.result ≡ mark_of Sorted (block_of (here.first + half) (values column)) =
    subst (λ kind. c.read_mark.result ≡ mark_of kind (block_of (here.first + half) (values column))) c.requires c.read_mark.ensures.mark in
    record {
      within = omega (arith, here.invariant.within);
      before = here.invariant.before;
      enough = λ _. omega (arith, read, c.if-read_mark-target.false);
      halves = λ digits fits.
          let (fewer, span, few) = here.invariant.halves digits fits in
          digits_less here.left fewer here.reads.marks c.read_mark.new.self.marks (c.args.reads.now.marks + digits) c.loop-left-test.true span few
          c.read_mark.ensures.reads.marks;
      blocks = c.read_mark.ensures.reads.blocks ∙ here.invariant.blocks;
    }

pub returns-clause-enough : goal.returns-clause-enough
returns-clause-enough c =
    let all : c.loop-left.first + c.loop-left.left ≡ c.loop-left.first = omega (arith, c.loop-left-test.false) in
    rw all at c.loop-left.invariant.enough
