-- One run more is written.
use Rattle.std.proofs.Common.{◌*◌, ◌+◌, ◌∙◌, arith, drop, refl, take}
use Rattle.bitpack_roaring.proofs.BetweenLaws.{between_len, runs_done, runs_more}
use Rattle.bitpack_roaring.proofs.bounds.put_runs.Goals as goal
use Rattle.bitpack_slices.specs.Bodies.{le_bytes}
use Rattle.bitpack_roaring.specs.inner.Runs.{run_bytes, runs_between}

pub loop-index-init : goal.loop-index-init
loop-index-init c = record { size = refl; written = refl }

pub loop-index-preserved : goal.loop-index-preserved
loop-index-preserved c =
    let i = c.loop-index.index in
    let size = c.loop-index.invariant.size in
    record {
      size = c.write_at.ensures.len ∙ size;
      written = runs_more (take (4 * i) c.loop-index.out) (take (4 * (i + 1)) c.write_at.new.out) (run_bytes (runs_between (drop (2 * i) c.args.bounds.now))) (run_bytes (runs_between (drop (2 * (i + 1)) c.args.bounds.now)))
          (run_bytes (runs_between c.args.bounds.now)) (le_bytes 4 c.run_from.result) c.write_at.ensures.bytes c.run_from.ensures c.loop-index.invariant.written;
    }

pub write_at-requires : goal.write_at-requires
write_at-requires c =
    let room = c.requires.room in
    let size = c.loop-index.invariant.size in
    let many = between_len c.args.bounds.now in
    omega (arith, c.loop-index-test.true)

pub returns : goal.returns
returns c = runs_done c.args.bounds.now c.loop-index.out c.loop-index.index (omega (arith, c.loop-index-test.false)) c.loop-index.invariant.written
