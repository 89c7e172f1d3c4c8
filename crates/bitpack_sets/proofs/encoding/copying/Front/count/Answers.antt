-- All chunks but the last.
use Rattle.std.proofs.Common.{◌-◌, arith, sym}
use Rattle.bitpack_slices.proofs.ForCallers.{bytes_are}
use Rattle.bitpack_sets.proofs.lemmas.written.FrontLaws.{front_count}
use Rattle.bitpack_sets.proofs.encoding.copying.Front.count.Goals as goal

pub returns-clause-count : goal.returns-clause-count
returns-clause-count c =
    let front = c.args.self.now in
    let some = front.directory.sound.some in
    sym (front_count front.directory.count front.directory.chunks front.directory.rest.now (bytes_are front.directory.rest.now front.directory.are_bytes) front.directory.sound (front.directory.chunks - 1) (omega arith))
