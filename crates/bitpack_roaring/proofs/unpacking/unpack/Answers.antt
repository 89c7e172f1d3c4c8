-- The ids of one container more.
use Rattle.std.proofs.Common.{◌∙◌, arith, length, refl}
use Rattle.bitpack_roaring.proofs.FaultSteps.{position_first, position_more, start_first, start_more}
use Rattle.bitpack_roaring.proofs.ReadSteps.{container_there, end_there, ids_written, room_for, tested_at}
use Rattle.bitpack_roaring.proofs.unpacking.unpack.Goals as goal

pub loop-container-init : goal.loop-container-init
loop-container-init c = record {
  long = refl;
  start = start_first c.args.head.bytes.now c.args.head.start c.args.head.sound.start_is;
  room = c.args.head.sound.room;
  next = position_first c.args.head.bytes.now;
  values = refl;
}

pub end-end-requires-clause-room : goal.end-end-requires-clause-room
end-end-requires-clause-room c =
    end_there c.args.head.bytes.now c.loop-container.container c.loop-container.start c.loop-container.invariant.start
    (tested_at c.args.head.bytes.now c.loop-container.container c.args.head.containers c.args.head.are_bytes c.requires.sound c.args.head.sound.containers_are c.loop-container-test.true)

pub unpack_container-next-requires-clause-container : goal.unpack_container-next-requires-clause-container
unpack_container-next-requires-clause-container c =
    container_there c.args.head.bytes.now c.loop-container.container c.loop-container.start c.end-end.result c.count-count.result c.is_run-run.result
    c.loop-container.invariant.start c.end-end.ensures.end c.end-end.ensures.room c.is_run-run.ensures c.count-count.ensures.count
    (tested_at c.args.head.bytes.now c.loop-container.container c.args.head.containers c.args.head.are_bytes c.requires.sound c.args.head.sound.containers_are c.loop-container-test.true)

pub unpack_container-next-requires-clause-room : goal.unpack_container-next-requires-clause-room
unpack_container-next-requires-clause-room c =
    let long = c.loop-container.invariant.long in
    let are = c.args.head.sound.containers_are in
    room_for c.args.head.bytes.now c.loop-container.container c.loop-container.next c.count-count.result (length c.loop-container.out) c.args.head.are_bytes c.requires.sound
    (omega (arith, c.loop-container-test.true)) c.loop-container.invariant.next c.count-count.ensures.count (omega (arith, c.requires.room))

pub loop-container-preserved : goal.loop-container-preserved
loop-container-preserved c =
    let inv = c.loop-container.invariant in
    record {
      long = c.unpack_container-next.auto.out ∙ inv.long;
      start = start_more c.args.head.bytes.now c.loop-container.container c.loop-container.start c.end-end.result inv.start c.end-end.ensures.end;
      room = c.end-end.ensures.room;
      next = c.unpack_container-next.ensures.end ∙ position_more c.args.head.bytes.now c.loop-container.container c.loop-container.next c.count-count.result inv.next c.count-count.ensures.count;
      values = ids_written c.args.head.bytes.now c.loop-container.container c.loop-container.start c.end-end.result c.count-count.result c.is_run-run.result
          inv.start c.end-end.ensures.end c.end-end.ensures.room c.is_run-run.ensures c.count-count.ensures.count
          c.key-base.result _ c.loop-container.next c.unpack_container-next.result c.loop-container.out c.unpack_container-next.new.out
          c.key-base.ensures.key refl inv.values c.unpack_container-next.ensures.values;
    }
