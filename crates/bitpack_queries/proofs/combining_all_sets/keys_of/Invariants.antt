-- How many keys the sets so far have at most.
use Rattle.std.proofs.Common.{◌≡◌, map, min, take}
use Rattle.std.specs.List.{sum_by}
use Rattle.bitpack_sets.specs.Written.{places}
use Rattle.bitpack_queries.proofs.combining_all_sets.keys_of.Given as goal

abbrev pub invariant-loop-i : goal.invariant-loop-i
invariant-loop-i g l = record { so : l.sum ≡ min 65536 (sum_by places (take l.i (map g.S.AsSet.its_ids l.sets))) }
