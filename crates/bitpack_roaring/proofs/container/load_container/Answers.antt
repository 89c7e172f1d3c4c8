-- The bits are those of the bytes.
use Rattle.bitpack_roaring.proofs.BodyLaws.{bits_loaded}
use Rattle.bitpack_roaring.proofs.container.load_container.Goals as goal

pub returns-else-run : goal.returns-else-run
returns-else-run c = bits_loaded c.args.run c.args.count c.args.bytes.now c.load_bits.new.words c.if-run.false c.requires.many c.load_bits.ensures
