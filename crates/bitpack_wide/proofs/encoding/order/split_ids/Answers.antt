-- Ids without a fault are a set.
use Rattle.std.proofs.Common.{◌^◌, arith, sym}
use Rattle.bitpack_slices.proofs.ForCallers.{rises_from}
use Rattle.bitpack_sets.proofs.ForCallers.{each_below}
use Rattle.bitpack_wide.proofs.encoding.order.split_ids.Goals as goal

pub returns-in-None-clause-set : goal.returns-in-None-clause-set
returns-in-None-clause-set c = record {
  few = omega arith;
  rising = rises_from 0 (2 ^ 64) c.args.ids.now (each_below (2 ^ 64) c.args.ids.now (λ k. (c.type_inv.ids k).fits)) (sym c.in-None.ensures.found);
}
