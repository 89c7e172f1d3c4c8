-- The body is that of the numbers whose bits are loaded.
use Rattle.std.proofs.Common.{◌∙◌, ap, arith, length, sym}
use Rattle.bitpack_sets.proofs.ForCallers.{written_small}
use Rattle.bitpack_sets.specs.Sets.{body}
use Rattle.bitpack_roaring.proofs.BodyLaws.{no_bits, numbers_are}
use Rattle.bitpack_roaring.proofs.container.write_bits.Goals as goal

pub load_container-requires-clause-clear : goal.load_container-requires-clause-clear
load_container-requires-clause-clear c x = no_bits 1024 x

pub write_body-requires-clause-count : goal.write_body-requires-clause-count
write_body-requires-clause-count c =
    sym (ap length (numbers_are c.args.run c.args.count c.args.bytes.now c.load_container.new.words c.requires.container c.load_container.ensures) ∙ c.requires.container.count_is)

pub returns-clause-few : goal.returns-clause-few
returns-clause-few c =
    let few = c.write_body.ensures.few in
    let long = c.write_body.array_long in
    let same = ap length (numbers_are c.args.run c.args.count c.args.bytes.now c.load_container.new.words c.requires.container c.load_container.ensures) in
    let own = c.requires.container.count_is in
    let small = written_small c.write_body.result c.write_body.new.out _ (omega arith) c.write_body.ensures.written (omega (arith, c.requires.many)) in
    omega arith

pub returns-clause-written : goal.returns-clause-written
returns-clause-written c =
    c.write_body.ensures.written ∙ ap body (numbers_are c.args.run c.args.count c.args.bytes.now c.load_container.new.words c.requires.container c.load_container.ensures)
