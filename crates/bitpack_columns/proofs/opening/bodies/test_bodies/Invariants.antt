-- The blocks so far have no fault, and their order was tested.
use Rattle.std.proofs.Common.{◌≡◌, ◌+◌, ◌*◌, None}
use Rattle.bitpack_columns.specs.declared.column_kind.ColumnKind.TheVariants.{Sorted}
use Rattle.bitpack_columns.specs.Columns.{base_of}
use Rattle.bitpack_columns.specs.Faults.{body_fault, first_of, first_out}
use Rattle.bitpack_columns.specs.Opening.{front_values}
use Rattle.bitpack_columns.specs.Reads.{begin_at, bodies_start, mark_at}
use Rattle.bitpack_columns.proofs.opening.bodies.test_bodies.Given as goal

abbrev pub invariant-loop-index : goal.invariant-loop-index
invariant-loop-index l = record {
  begin_is : l.begin ≡ begin_at l.rest l.index;
  before_of : l.before ≡ base_of Sorted l.first (mark_at l.blocks l.rest) l.index;
  at_is : l.at ≡ bodies_start l.blocks l.rest + 16 * begin_at l.rest l.index;
  right : first_of (body_fault l.kind l.first l.blocks l.rest) l.index ≡ None;
  out_is : l.out ≡ first_out l.kind l.first (front_values l.kind l.first l.blocks l.rest l.index);
}
