-- The bytes of the values so far are written, and those that are left have room.
use Rattle.std.proofs.Common.{◌≡◌, ◌+◌, ◌*◌, ◌≤◌, ◌++◌, length, take, vec_len, vec_capacity}
use Rattle.bitpacking.specs.Words.{bytes_of_words}
use Rattle.bitpack_lists.proofs.numbers.write_all.Given as goal

abbrev pub invariant-loop-value : goal.invariant-loop-value
invariant-loop-value l = record {
  items : l.out.items ≡ l.initial.out.items ++ bytes_of_words (take l.value-index l.values);
  room : vec_len l.out + 4 * length l.values ≤ vec_capacity l.out + 4 * l.value-index;
}
