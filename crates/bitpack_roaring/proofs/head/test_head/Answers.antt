-- The head is there, or is too short.
use Rattle.std.proofs.Common.{◌+◌, ◌*◌, arith, refl}
use Rattle.bitpack_roaring.proofs.FaultSteps.{head_is, head_short}
use Rattle.bitpack_roaring.proofs.head.test_head.Goals as goal

pub returns-then-bytes-start-clause-fault : goal.returns-then-bytes-start-clause-fault
returns-then-bytes-start-clause-fault c =
    head_short c.args.bytes.now c.has_runs-runs.result c.in_ok-containers.containers c.keys_start-keys.result c.has_offsets-offsets.result c.entry_len.result
    (c.keys_start-keys.result + c.entry_len.result * c.in_ok-containers.containers) c.has_runs-runs.ensures c.in_ok-containers.ensures.containers
    c.keys_start-keys.ensures c.has_offsets-offsets.ensures c.entry_len.ensures refl (omega arith) c.in_ok-containers.ensures.fault (omega arith)

pub invariant_of-result : goal.invariant_of-result
invariant_of-result c = record {
  are_bytes = λ k. (c.type_inv.bytes k).fits;
  sound = head_is c.args.bytes.now c.has_runs-runs.result c.in_ok-containers.containers c.keys_start-keys.result c.has_offsets-offsets.result c.entry_len.result
      (c.keys_start-keys.result + c.entry_len.result * c.in_ok-containers.containers) c.has_runs-runs.ensures c.in_ok-containers.ensures.containers
      c.keys_start-keys.ensures c.has_offsets-offsets.ensures c.entry_len.ensures refl (omega arith) c.in_ok-containers.ensures.few (omega arith);
}
