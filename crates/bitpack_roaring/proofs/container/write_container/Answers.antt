-- The body is that of the numbers that are listed.
use Rattle.std.proofs.Common.{◌%◌, ◌∙◌, ap, arith, length, take, ℕ}
use Rattle.std.proofs.lemmas.List.{length-map}
use Rattle.bitpack_sets.specs.Sets.{body}
use Rattle.bitpack_roaring.proofs.BodyLaws.{listed_chunk, listed_lows}
use Rattle.bitpack_roaring.specs.Roaring.{numbers_of}
use Rattle.bitpack_roaring.proofs.container.write_container.Goals as goal

pub write_listed-requires-clause-chunk : goal.write_listed-requires-clause-chunk
write_listed-requires-clause-chunk c =
    listed_chunk c.args.count c.unpack_container.result (numbers_of c.args.run c.args.count c.args.bytes.now) c.unpack_container.new.out c.unpack_container.ensures.end c.unpack_container.ensures.values c.requires.container.rising

pub returns-then-count-le-MOST_LISTED-clause-written : goal.returns-then-count-le-MOST_LISTED-clause-written
returns-then-count-le-MOST_LISTED-clause-written c =
    let lows_are = listed_lows c.args.count c.unpack_container.result (numbers_of c.args.run c.args.count c.args.bytes.now) c.unpack_container.new.out c.unpack_container.ensures.end c.unpack_container.ensures.values c.requires.container.rising in
    let own = ap length lows_are ∙ c.requires.container.count_is in
    let some = c.requires.container.some in
    let long = length-map (take c.args.count c.unpack_container.new.out) (λ (id : ℕ). id % 65536) in
    c.write_listed.ensures.written (omega arith) ∙ ap body lows_are
