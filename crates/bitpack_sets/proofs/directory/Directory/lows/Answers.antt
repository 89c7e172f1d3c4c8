-- The body of a chunk is numbers, runs or blocks.
use Rattle.std.proofs.Common.{◌∙◌, ap, length, sym, subst, true, false, ℕ, List}
use Rattle.bitpack_slices.specs.Bodies.{IsRising}
use Rattle.bitpack_sets.proofs.lemmas.reads.ChunkReads.{blocks_known, numbers_known, runs_of}
use Rattle.bitpack_sets.proofs.lemmas.reads.DescribedLaws.{blocks_at, numbers_at, runs_at}
use Rattle.bitpack_sets.proofs.lemmas.reads.HeldLaws.{counts_of_numbers, counts_of_others}
use Rattle.bitpack_sets.proofs.directory.Directory.lows.Goals as goal

pub returns-then-body-count_of-clause-are : goal.returns-then-body-count_of-clause-are
returns-then-body-count_of-clause-are c =
    let known = numbers_known c.args.self.chunks c.args.chunk _ c.args.self.rest.now _ c.count_of.ensures c.body-body.ensures c.if-body-count_of.true in
    subst (IsRising 0 65536) (sym known) (c.args.self.sound.bodies c.args.chunk c.requires.within).rising

pub returns-then-body-count_of-clause-lows : goal.returns-then-body-count_of-clause-lows
returns-then-body-count_of-clause-lows c =
    numbers_known c.args.self.chunks c.args.chunk _ c.args.self.rest.now _ c.count_of.ensures c.body-body.ensures c.if-body-count_of.true

pub returns-then-body-count_of-clause-count : goal.returns-then-body-count_of-clause-count
returns-then-body-count_of-clause-count c =
    ap (λ (l : List ℕ). length l) (numbers_known c.args.self.chunks c.args.chunk _ c.args.self.rest.now _ c.count_of.ensures c.body-body.ensures c.if-body-count_of.true)
    ∙ (c.args.self.sound.bodies c.args.chunk c.requires.within).count_is

-- what is read of a body of runs, and of blocks
pub new-requires-clause-rising : goal.new-requires-clause-rising
new-requires-clause-rising c =
    (runs_of c.args.self.count c.args.self.chunks c.args.chunk c.count_of.result c.args.self.rest.now c.body-body.result.now (record { is = c.args.self.sound; within = c.requires.within; count_is = c.count_of.ensures; body_is = c.body-body.ensures }) c.if-body-count_of.false (sym c.begins_runs.ensures ∙ c.if-begins_runs.true)).rising

pub returns-clause-are : goal.returns-clause-are
returns-clause-are c =
    (blocks_known c.args.self.count c.args.self.chunks c.args.chunk c.count_of.result c.args.self.rest.now c.body-body.result.now (record { is = c.args.self.sound; within = c.requires.within; count_is = c.count_of.ensures; body_is = c.body-body.ensures }) c.if-body-count_of.false (sym c.begins_runs.ensures ∙ c.if-begins_runs.false)).are

pub returns-clause-lows : goal.returns-clause-lows
returns-clause-lows c =
    (blocks_known c.args.self.count c.args.self.chunks c.args.chunk c.count_of.result c.args.self.rest.now c.body-body.result.now (record { is = c.args.self.sound; within = c.requires.within; count_is = c.count_of.ensures; body_is = c.body-body.ensures }) c.if-body-count_of.false (sym c.begins_runs.ensures ∙ c.if-begins_runs.false)).read

pub returns-clause-count : goal.returns-clause-count
returns-clause-count c =
    (blocks_known c.args.self.count c.args.self.chunks c.args.chunk c.count_of.result c.args.self.rest.now c.body-body.result.now (record { is = c.args.self.sound; within = c.requires.within; count_is = c.count_of.ensures; body_is = c.body-body.ensures }) c.if-body-count_of.false (sym c.begins_runs.ensures ∙ c.if-begins_runs.false)).size

pub returns-then-body-count_of-clause-counts : goal.returns-then-body-count_of-clause-counts
returns-then-body-count_of-clause-counts c = counts_of_numbers c.args.self.chunks c.args.chunk _ c.args.self.rest.now _ c.count_of.ensures c.body-body.ensures c.if-body-count_of.true

pub returns-then-begins_runs-clause-counts : goal.returns-then-begins_runs-clause-counts
returns-then-begins_runs-clause-counts c =
    counts_of_others c.args.self.chunks c.args.chunk _ c.args.self.rest.now _ true c.count_of.ensures c.body-body.ensures c.if-body-count_of.false (sym c.begins_runs.ensures ∙ c.if-begins_runs.true)

pub returns-clause-counts : goal.returns-clause-counts
returns-clause-counts c =
    counts_of_others c.args.self.chunks c.args.chunk _ c.args.self.rest.now _ false c.count_of.ensures c.body-body.ensures c.if-body-count_of.false (sym c.begins_runs.ensures ∙ c.if-begins_runs.false)

pub returns-then-body-count_of-clause-form : goal.returns-then-body-count_of-clause-form
returns-then-body-count_of-clause-form c =
    numbers_at c.args.self.count c.args.self.chunks c.args.chunk c.count_of.result c.args.self.rest.now c.body-body.result.now (record { is = c.args.self.sound; within = c.requires.within; count_is = c.count_of.ensures; body_is = c.body-body.ensures }) c.if-body-count_of.true

pub returns-then-begins_runs-clause-form : goal.returns-then-begins_runs-clause-form
returns-then-begins_runs-clause-form c =
    runs_at c.args.self.count c.args.self.chunks c.args.chunk c.count_of.result c.args.self.rest.now c.body-body.result.now (record { is = c.args.self.sound; within = c.requires.within; count_is = c.count_of.ensures; body_is = c.body-body.ensures }) c.if-body-count_of.false (sym c.begins_runs.ensures ∙ c.if-begins_runs.true)

pub returns-clause-form : goal.returns-clause-form
returns-clause-form c =
    blocks_at c.args.self.count c.args.self.chunks c.args.chunk c.count_of.result c.args.self.rest.now c.body-body.result.now (record { is = c.args.self.sound; within = c.requires.within; count_is = c.count_of.ensures; body_is = c.body-body.ensures }) c.if-body-count_of.false (sym c.begins_runs.ensures ∙ c.if-begins_runs.false)
