-- The blocks so far have no fault, and their order was tested.
use Rattle.std.proofs.Common.{◌≡◌, ◌-◌, ◌*◌, ◌<◌, ℕ, suc, None}
use Rattle.bitpack_lists.specs.Parts.{whole_blocks}
use Rattle.bitpack_lists.specs.Version2.{body_fault2, first_fault, is_out, kind_at, last_at, least_below, value_with}
use Rattle.bitpack_lists.proofs.blocks.testing.test_bodies.Given as goal

abbrev pub invariant-loop-block : goal.invariant-loop-block
invariant-loop-block g l = record {
  kind : l.kind ≡ kind_at l.fn.header.kind l.rest l.block;
  right : first_fault (body_fault2 g.P.BitPacker.lanes (whole_blocks g.P.BitPacker.lanes l.fn.header.count) l.fn.header.kind l.rest) l.block ≡ None;
  ends : (before : ℕ) → l.block ≡ suc before → l.last ≡ last_at l.rest before;
  last : (later : ℕ → ℕ) → 0 < l.block → value_with g.P.BitPacker.lanes (whole_blocks g.P.BitPacker.lanes l.fn.header.count) l.fn.header.kind l.rest later (32 * g.P.BitPacker.lanes * l.block - 1) ≡ l.last;
  out : (later : ℕ → ℕ) → l.out ≡ least_below (is_out l.fn.header.kind (value_with g.P.BitPacker.lanes (whole_blocks g.P.BitPacker.lanes l.fn.header.count) l.fn.header.kind l.rest later)) (32 * g.P.BitPacker.lanes * l.block);
}
