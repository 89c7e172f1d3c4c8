-- The bits of the bytes.
use Rattle.std.proofs.Common.{◌+◌, ◌∙◌, ◌++◌, List, ℕ, ap, arith, length, map, take}
use Rattle.bitpack_roaring.proofs.BitLaws.{bits_are}
use Rattle.bitpack_roaring.proofs.bits.unpack_bits.Goals as goal

pub unpack_words-requires-clause-room : goal.unpack_words-requires-clause-room
unpack_words-requires-clause-room c = let long = ap length (bits_are c.args.body.now c.load_bits.new.words c.load_bits.ensures) in omega (arith, c.requires.room)

pub returns-clause-end : goal.returns-clause-end
returns-clause-end c = c.unpack_words.ensures.end ∙ ap (λ (l : List ℕ). c.args.at + length l) (bits_are c.args.body.now c.load_bits.new.words c.load_bits.ensures)

pub returns-clause-values : goal.returns-clause-values
returns-clause-values c =
    c.unpack_words.ensures.values ∙ ap (λ (l : List ℕ). take c.args.at c.args.out.now ++ map (λ i. c.args.base + i) l) (bits_are c.args.body.now c.load_bits.new.words c.load_bits.ensures)
