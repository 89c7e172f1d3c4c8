-- The ends that are left are still to be written.
use Rattle.std.proofs.Common.{◌-◌}
use Rattle.bitpack_sets.proofs.lemmas.written.CopyLaws.{IsCopied}
use Rattle.bitpack_sets.proofs.encoding.copying.Front.copy_ends.Given as goal
use Rattle.bitpack_sets.specs.Directory.{end_at}
use Rattle.bitpack_sets.specs.Fronts.{front_ids}
use Rattle.bitpack_sets.specs.Written.{ends_encoding}

abbrev pub invariant-loop-chunk : goal.invariant-loop-chunk
invariant-loop-chunk l = IsCopied (end_at l.self.directory.chunks l.self.directory.rest.now) l.size (l.self.directory.chunks - 1) l.chunk l.out (ends_encoding l.size 0 (front_ids l.fn.self))
