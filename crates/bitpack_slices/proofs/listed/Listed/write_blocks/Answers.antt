-- The bits of the ids are set, and then written.
use Rattle.std.proofs.Common.{◌≡◌, ◌<◌, ◌%◌, ◌∙◌, List, ℕ, ap, arith, get_or, length, map}
use Rattle.std.proofs.lemmas.List.{get_or-map, length-map}
use Rattle.bitpack_slices.proofs.lemmas.bits.BitmapLaws.{has_none}
use Rattle.bitpack_slices.proofs.lemmas.bodies.LoadLaws.{has_those, those_rise}
use Rattle.bitpack_slices.proofs.lemmas.bodies.OneBlocks.{blocks_back, blocks_written}
use Rattle.bitpack_slices.proofs.lemmas.bodies.PartLaws.{has_own, some_of}
use Rattle.bitpack_slices.proofs.listed.Listed.write_blocks.Goals as goal
use Rattle.bitpack_slices.specs.Bitmaps.{has_bit}
use Rattle.bitpack_slices.specs.Operations.{those}
use Rattle.bitpack_slices.specs.Reads.{has}
use Rattle.bitpack_slices.specs.Slices.{block_numbers}

-- a number of a list has its bit set
some_set : (ids words : List ℕ) → 0 < length ids → ((x : ℕ) → has_bit words x ≡ has x (map (λ id. id % 65536) ids)) → 0 < length (those 65536 (has_bit words))
some_set ids words some set =
    let lows : List ℕ = map (λ id. id % 65536) ids in
    let size = length-map ids (λ id. id % 65536) in
    let x : ℕ = get_or lows 0 0 in
    let low : x ≡ get_or ids 0 0 % 65536 = get_or-map (λ id. id % 65536) ids 0 0 0 some in
    some_of x (those 65536 (has_bit words)) (has_those (has_bit words) x 65536 (omega arith) ∙ set x ∙ has_own lows 0 (omega arith))

pub set_bits-requires : goal.set_bits-requires
set_bits-requires c = λ x. has_none 1024 x

pub write_blocks-requires : goal.write_blocks-requires
write_blocks-requires c = record { some = some_set _ c.set_bits.new.words c.requires.some c.set_bits.ensures.bits }

pub returns-clause-are : goal.returns-clause-are
returns-clause-are c =
    blocks_written (those 65536 (has_bit c.set_bits.new.words)) _ (those_rise (has_bit c.set_bits.new.words) 65536) (some_set _ c.set_bits.new.words c.requires.some c.set_bits.ensures.bits)
    c.write_blocks.ensures.written

pub returns-clause-numbers : goal.returns-clause-numbers
returns-clause-numbers c = λ x small.
    let all : List ℕ = those 65536 (has_bit c.set_bits.new.words) in
    ap (has x) (ap block_numbers c.write_blocks.ensures.written
    ∙ blocks_back all (those_rise (has_bit c.set_bits.new.words) 65536) (some_set _ c.set_bits.new.words c.requires.some c.set_bits.ensures.bits))
    ∙ has_those (has_bit c.set_bits.new.words) x 65536 small ∙ c.set_bits.ensures.bits x
