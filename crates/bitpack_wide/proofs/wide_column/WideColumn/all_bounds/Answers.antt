-- One chunk more.
use Rattle.std.proofs.Common.{◌*◌, ◌∙◌, ℕ, Option, ap, arith}
use Rattle.std.specs.Prelude.{take}
use Rattle.bitpack_wide.specs.inner.WideColumnSteps.{join_bounds}
use Rattle.bitpack_wide.specs.WideColumns.{there}
use Rattle.bitpack_wide.specs.WideOpened.{bounds_of, values}
use Rattle.bitpack_wide.proofs.WideBounds.{bounds_all, bounds_next, bounds_start}
use Rattle.bitpack_wide.proofs.wide_column.WideColumn.all_bounds.Goals as goal

pub loop-chunk-init : goal.loop-chunk-init
loop-chunk-init c = let self = c.args.self.now in bounds_start self.bytes.now self.count self.rest.now self.are_bytes self.states

pub loop-chunk-preserved : goal.loop-chunk-preserved
loop-chunk-preserved c =
    let self = c.args.self.now in
    let m : ℕ = c.loop-chunk.chunk in
    c.joined-all.ensures ∙ ap (λ (o : Option (ℕ × ℕ)). join_bounds o c.bounds.result) c.loop-chunk.invariant
    ∙ ap (join_bounds (bounds_of (there (take (65536 * m) (values self))))) c.bounds.ensures
    ∙ bounds_next self.bytes.now self.count self.rest.now self.are_bytes self.states m

pub returns : goal.returns
returns c =
    let self = c.args.self.now in
    c.loop-chunk.invariant
    ∙ bounds_all self.bytes.now self.count self.rest.now self.are_bytes self.states c.loop-chunk.chunk (omega (arith, c.loop-chunk-test.false, c.chunks_of-chunk-end.ensures.chunks))
