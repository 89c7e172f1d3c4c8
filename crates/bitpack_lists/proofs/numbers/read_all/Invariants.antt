-- The values so far are those whose bytes these are, and those that are left have room.
use Rattle.std.proofs.Common.{◌≡◌, ◌+◌, ◌/◌, ◌≤◌, ◌++◌, ℕ, List, length, take, vec_len, vec_capacity}
use Rattle.bitpacking.specs.Codes.{AreWords}
use Rattle.bitpacking.specs.Words.{bytes_of_words}
use Rattle.bitpack_lists.proofs.numbers.read_all.Given as goal

abbrev pub invariant-loop-index : goal.invariant-loop-index
invariant-loop-index l = record {
  items : (values : List ℕ) → AreWords values → l.bytes ≡ bytes_of_words values → l.out.items ≡ l.initial.out.items ++ take l.index values;
  room : vec_len l.out + length l.bytes / 4 ≤ vec_capacity l.out + l.index;
}
