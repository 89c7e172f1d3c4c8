-- The bits of the numbers so far are set.
use Rattle.std.proofs.Common.{◌≡◌, ◌%◌, length, map, take}
use Rattle.bitpack_slices.proofs.lemmas.bytes.Bytes.{EachByte}
use Rattle.bitpack_slices.proofs.slice.writing.set_bits.Given as goal
use Rattle.bitpack_slices.specs.Bodies.{bits}
use Rattle.bitpack_slices.specs.Slices.{number_of}

abbrev pub invariant-loop-index : goal.invariant-loop-index
invariant-loop-index l = record {
  size : length l.bytes ≡ 32;
  bytes : EachByte l.bytes;
  set : number_of l.bytes ≡ bits (take l.index (map (λ id. id % 256) l.ids));
}
