-- What is left has no fault and its values have room; with those that were read they are all values.
use Rattle.std.proofs.Common.{◌≡◌, ◌+◌, ◌-◌, ◌*◌, ◌≤◌, ◌++◌, ℕ, List, vec_len, vec_capacity, None}
use Rattle.bitpacking.specs.Codes.{AreWords}
use Rattle.bitpack_lists.specs.Parts.{first_kind, tail_values}
use Rattle.bitpack_lists.specs.Version1.{Blocks1, blocks_fault1}
use Rattle.bitpack_lists.proofs.lemmas.blocks.ReadSteps.{Read}
use Rattle.bitpack_lists.proofs.v1.reading.read_blocks.Given as goal

abbrev pub invariant-loop : goal.invariant-loop
invariant-loop g l = record {
  right : blocks_fault1 g.P.BitPacker.lanes (4 * tail_values g.P.BitPacker.lanes l.fn.header.count) l.counter (l.blocks - l.counter) l.rest ≡ None;
  room : vec_len l.out + l.fn.header.count ≤ vec_capacity l.out + 32 * g.P.BitPacker.lanes * l.counter;
  read : (values : List ℕ) → AreWords values → Blocks1 g.P.BitPacker.lanes l.blocks (first_kind l.fn.header.kind) values l.bytes
      → Read g.P.BitPacker.lanes (l.blocks - l.counter) l.kind l.rest l.out.items (l.initial.out.items ++ values);
}
