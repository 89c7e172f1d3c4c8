-- One body more has its form.
use Rattle.std.proofs.Common.{arith, refl, true, false}
use Rattle.bitpack_sets.specs.Described.{has_blocks, has_numbers, has_runs}
use Rattle.bitpack_sets.proofs.lemmas.reads.DescribedLaws.{all_of, few_of, more}
use Rattle.bitpack_sets.proofs.directory.Directory.describe_chunk.Goals as goal

pub overflow_add-chunks : goal.overflow_add-chunks
overflow_add-chunks c =
    let few = c.args.self.few in
    let is = c.requires.bodies.all in
    let most = all_of c.args.self.chunks c.args.chunk c.args.self.rest.now in
    omega arith

pub overflow_add-result : goal.overflow_add-result
overflow_add-result c =
    let few = c.args.self.few in
    let is = c.requires.bodies.numbers_are in
    let most = few_of has_numbers c.args.self.chunks c.args.chunk c.args.self.rest.now in
    omega arith

pub overflow_add-result-in-Blocks : goal.overflow_add-result-in-Blocks
overflow_add-result-in-Blocks c =
    let few = c.args.self.few in
    let is = c.requires.bodies.blocks_are in
    let most = few_of has_blocks c.args.self.chunks c.args.chunk c.args.self.rest.now in
    omega arith

pub overflow_add-result-in-Runs : goal.overflow_add-result-in-Runs
overflow_add-result-in-Runs c =
    let few = c.args.self.few in
    let is = c.requires.bodies.runs_are in
    let most = few_of has_runs c.args.self.chunks c.args.chunk c.args.self.rest.now in
    omega arith

pub returns-in-Numbers-clause-bodies : goal.returns-in-Numbers-clause-bodies
returns-in-Numbers-clause-bodies c =
    more c.args.so_far _ c.args.self.chunks c.args.chunk c.args.self.rest.now true false false c.in-Numbers.ensures.form c.requires.bodies refl (omega arith) (omega arith) (omega arith)

pub returns-in-Blocks-clause-bodies : goal.returns-in-Blocks-clause-bodies
returns-in-Blocks-clause-bodies c =
    more c.args.so_far _ c.args.self.chunks c.args.chunk c.args.self.rest.now false true false c.in-Blocks.ensures.form c.requires.bodies refl (omega arith) (omega arith) (omega arith)

pub returns-in-Runs-clause-bodies : goal.returns-in-Runs-clause-bodies
returns-in-Runs-clause-bodies c =
    more c.args.so_far _ c.args.self.chunks c.args.chunk c.args.self.rest.now false false true c.in-Runs.ensures.form c.requires.bodies refl (omega arith) (omega arith) (omega arith)
