-- One chunk more is measured.
use Rattle.std.proofs.Common.{◌+◌, ◌∙◌, List, ap, arith, subst, sym, ℕ}
use Rattle.bitpack_sets.specs.Chunks.{ids_from}
use Rattle.bitpack_sets.specs.Opened.{ids}
use Rattle.bitpack_slices.specs.Bodies.{parts}
use Rattle.bitpack_roaring.proofs.MeasureSteps.{Measures, all_counted, all_flags, all_runs, all_sized, measures_more, measures_start}
use Rattle.bitpack_roaring.proofs.PartLaws.{first_at, ids_few, ids_rise, most_parts, no_parts}
use Rattle.bitpack_roaring.specs.inner.Walks.{IsAt, numbers_of_part}
use Rattle.bitpack_roaring.proofs.measuring.measure.Goals as goal

pub loop-position-init : goal.loop-position-init
loop-position-init c =
    let all : List ℕ = ids c.args.set.now in
    let first = c.chunks_of-chunks.ensures.ids in
    let (none, (empty, not_yet)) = c.new-measured.ensures in
    record {
      at = first_at c.chunks_of-chunks.result all first (ids_rise c.args.set.now);
      so = subst (λ (l : List ℕ). Measures (parts 65536 all) (parts 65536 l) c.new-measured.result.containers c.new-measured.result.size c.new-measured.result.runs c.args.flags.now) (sym first)
          (measures_start (parts 65536 all) _ _ _ c.args.flags.now none empty not_yet c.requires.clear);
      small = omega arith;
      most = most_parts all (ids_rise c.args.set.now);
    }

pub overflow_add-from : goal.overflow_add-from
overflow_add-from c =
    let few = ids_few c.args.set.now in
    let next = (c.part_at-part.ensures.part (ids c.args.set.now) c.loop-position.invariant.at).next.few in
    omega (arith, c.part_at-part.ensures.from)

pub loop-position-preserved : goal.loop-position-preserved
loop-position-preserved c =
    let all : List ℕ = ids c.args.set.now in
    let set = c.chunks_of-chunks.result in
    let inv = c.loop-position.invariant in
    let part = c.part_at-part.ensures.part all inv.at in
    let is = ap (λ (n : ℕ). parts 65536 (ids_from set n)) (sym c.part_at-part.ensures.begin) ∙ part.parts_are in
    record {
      at = subst (λ (n : ℕ). IsAt all set c.part_at-part.result.end (n + c.part_at-part.result.count)) c.part_at-part.ensures.from part.next;
      so = measures_more (parts 65536 all) (parts 65536 (ids_from set c.loop-position.position)) (parts 65536 (ids_from set c.part_at-part.result.end)) c.part_at-part.result.key
          (numbers_of_part set c.part_at-part.result) c.loop-position.measured.containers c.loop-position.measured.size c.add.new.self.containers c.add.new.self.size
          c.part_at-part.result.count c.count_runs_in-runs.result c.loop-position.measured.runs c.add.new.self.runs c.loop-position.flags c.add.new.flags inv.so is part.count_is
          c.count_runs_in-runs.ensures.runs c.add.ensures.containers c.add.ensures.size c.add.ensures.runs c.add.ensures.flags;
      small = c.add.ensures.small;
      most = inv.most;
    }

pub returns-clause-containers : goal.returns-clause-containers
returns-clause-containers c =
    all_counted _ _ _ _ _ _ c.loop-position.invariant.so (no_parts c.chunks_of-chunks.result c.loop-position.position (omega (arith, c.len.ensures, c.loop-position-test.false)))

pub returns-clause-runs : goal.returns-clause-runs
returns-clause-runs c =
    all_runs _ _ _ _ _ _ c.loop-position.invariant.so (no_parts c.chunks_of-chunks.result c.loop-position.position (omega (arith, c.len.ensures, c.loop-position-test.false)))

pub returns-clause-size : goal.returns-clause-size
returns-clause-size c =
    all_sized _ _ _ _ _ _ c.loop-position.invariant.so (no_parts c.chunks_of-chunks.result c.loop-position.position (omega (arith, c.len.ensures, c.loop-position-test.false)))

pub returns-clause-flags : goal.returns-clause-flags
returns-clause-flags c =
    all_flags _ _ _ _ _ _ c.loop-position.invariant.so (no_parts c.chunks_of-chunks.result c.loop-position.position (omega (arith, c.len.ensures, c.loop-position-test.false)))
