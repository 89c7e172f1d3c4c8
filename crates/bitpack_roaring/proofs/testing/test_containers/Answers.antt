-- One container more.
use Rattle.std.proofs.Common.{arith}
use Rattle.std.proofs.lemmas.Result.{err_from_is_err_and}
use Rattle.bitpack_sets.proofs.ForCallers.{first_found, first_more, first_start}
use Rattle.bitpack_roaring.specs.Faults.{container_fault}
use Rattle.bitpack_roaring.proofs.FaultSteps.{position_first, position_more, start_first, start_more}
use Rattle.bitpack_roaring.proofs.testing.test_containers.Goals as goal

pub loop-container-init : goal.loop-container-init
loop-container-init c = record {
  none = first_start (container_fault c.args.head.bytes.now);
  start = start_first c.args.head.bytes.now c.args.head.start c.args.head.sound.start_is;
  room = c.args.head.sound.room;
  position = position_first c.args.head.bytes.now;
  few = omega arith;
}

pub test_container-requires-clause-few : goal.test_container-requires-clause-few
test_container-requires-clause-few c =
    let few = c.loop-container.invariant.few in
    let most = c.args.head.sound.few in
    omega (arith, c.loop-container-test.true)

pub returns-in_err-start-clause-fault : goal.returns-in_err-start-clause-fault
returns-in_err-start-clause-fault c =
    let found = first_found (container_fault c.args.head.bytes.now) c.args.head.containers c.loop-container.container _ c.loop-container-test.true c.loop-container.invariant.none
    c.in_err-start.ensures.fault in
    let p = err_from_is_err_and c.from_residual.result c.from_residual.ensures.1 in
    rw (p.1, p.2) found

pub loop-container-preserved : goal.loop-container-preserved
loop-container-preserved c =
    let inv = c.loop-container.invariant in
    let few = inv.few in
    record {
      none = first_more (container_fault c.args.head.bytes.now) c.loop-container.container inv.none c.in_ok-start.ensures.fault;
      start = start_more c.args.head.bytes.now c.loop-container.container c.loop-container.start c.in_ok-start.start inv.start c.in_ok-start.ensures.end;
      room = c.in_ok-start.ensures.within;
      position = position_more c.args.head.bytes.now c.loop-container.container c.loop-container.position c.count-position.result inv.position c.count-position.ensures.count;
      few = omega (arith, c.count-position.ensures.few);
    }
