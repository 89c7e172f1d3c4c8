-- One end more is written.
use Rattle.std.proofs.Common.{◌-◌, length, map, arith}
use Rattle.bitpack_sets.proofs.lemmas.written.CopyLaws.{copied_done, copied_more, copied_room, copied_start}
use Rattle.bitpack_slices.proofs.ForCallers.{bytes_are}
use Rattle.bitpack_sets.proofs.lemmas.written.FrontLaws.{front_ends}
use Rattle.bitpack_sets.proofs.encoding.copying.Front.copy_ends.Goals as goal
use Rattle.bitpack_sets.specs.Directory.{end_at}
use Rattle.bitpack_sets.specs.Fronts.{front_ids}
use Rattle.bitpack_sets.specs.Sets.{sums}
use Rattle.bitpack_sets.specs.Written.{bodies, ends_encoding}

pub loop-chunk-init : goal.loop-chunk-init
loop-chunk-init c =
    let front = c.args.self.now in
    let some = front.directory.sound.some in
    copied_start (end_at front.directory.chunks front.directory.rest.now) c.args.size (front.directory.chunks - 1) c.args.out.now (sums 0 (map length (bodies (front_ids front))))
    (front_ends front.directory.count front.directory.chunks front.directory.rest.now (bytes_are front.directory.rest.now front.directory.are_bytes) front.directory.sound (front.directory.chunks - 1) (omega arith)) c.requires

pub loop-chunk-preserved : goal.loop-chunk-preserved
loop-chunk-preserved c =
    let front = c.args.self.now in
    copied_more (end_at front.directory.chunks front.directory.rest.now) c.args.size (front.directory.chunks - 1) c.loop-chunk.chunk c.end_at.result c.loop-chunk.out c.write_at.new.out (ends_encoding c.args.size 0 (front_ids front))
    c.loop-chunk-test.true c.loop-chunk.invariant c.end_at.ensures c.write_at.auto.out c.write_at.ensures.bytes

pub write_at-requires : goal.write_at-requires
write_at-requires c =
    let front = c.args.self.now in
    copied_room (end_at front.directory.chunks front.directory.rest.now) c.args.size (front.directory.chunks - 1) c.loop-chunk.chunk c.loop-chunk.out (ends_encoding c.args.size 0 (front_ids front))
    c.loop-chunk-test.true c.loop-chunk.invariant

pub returns : goal.returns
returns c =
    let front = c.args.self.now in
    copied_done (end_at front.directory.chunks front.directory.rest.now) c.args.size (front.directory.chunks - 1) c.loop-chunk.chunk c.loop-chunk.out (ends_encoding c.args.size 0 (front_ids front))
    (omega arith) c.loop-chunk.invariant
