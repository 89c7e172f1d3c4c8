use Rattle.std.proofs.Common.{◌<◌, length}
use Rattle.bitpack_queries.proofs.combining_all.shortest.Given as goal

abbrev pub invariant-loop-i : goal.invariant-loop-i
invariant-loop-i g l = record {
  first : l.found.0 < length l.sets;
  second : l.found.1 < length l.sets;
}
