-- The bodies of all chunks but the last.
use Rattle.std.proofs.Common.{◌-◌, arith, sym, ◌∙◌}
use Rattle.bitpack_slices.proofs.ForCallers.{bytes_are}
use Rattle.bitpack_sets.proofs.lemmas.written.FrontLaws.{front_few, front_size}
use Rattle.bitpack_sets.proofs.lemmas.encodings.RoomLaws.{bodies_few}
use Rattle.bitpack_sets.proofs.encoding.copying.Front.size.Goals as goal
use Rattle.bitpack_sets.specs.Fronts.{front_ids}

pub returns-clause-size : goal.returns-clause-size
returns-clause-size c =
    let front = c.args.self.now in
    let some = front.directory.sound.some in
    c.begin_at.ensures ∙ sym (front_size front.directory.count front.directory.chunks front.directory.rest.now (bytes_are front.directory.rest.now front.directory.are_bytes) front.directory.sound (front.directory.chunks - 1) (omega arith))

pub returns-clause-few : goal.returns-clause-few
returns-clause-few c =
    let front = c.args.self.now in
    let some = front.directory.sound.some in
    let size = returns-clause-size c in
    let small = bodies_few (front_ids front) in
    let few = front_few front.directory.count front.directory.chunks front.directory.rest.now (bytes_are front.directory.rest.now front.directory.are_bytes) front.directory.sound (front.directory.chunks - 1) (omega arith) in
    let most = front.directory.most in
    omega arith
