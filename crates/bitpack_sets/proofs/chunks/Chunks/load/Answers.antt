-- The ids between two positions are those of a chunk, or some of an array.
use Rattle.std.proofs.Common.{◌∙◌, ap, arith, sym}
use Rattle.bitpack_sets.proofs.lemmas.reads.PositionLaws.{between_chunk, lows_array, positions_chunks}
use Rattle.bitpack_sets.proofs.chunks.Chunks.load.Goals as goal
use Rattle.bitpack_slices.specs.Reads.{has}

pub returns-then-self-eq0 : goal.returns-then-self-eq0
returns-then-self-eq0 c x small high =
    c.load_integers.ensures x small high ∙ ap (has x) (lows_array c.args.self.now c.args.position c.args.end c.if-self-eq0.true c.requires.within.0 c.requires.within.1)

pub lows-requires-clause-within : goal.lows-requires-clause-within
lows-requires-clause-within c =
    let all = positions_chunks c.args.self.now c.if-self-eq0.false in
    let at = c.if-position-end.false in
    omega arith

pub returns-else-self-eq0 : goal.returns-else-self-eq0
returns-else-self-eq0 c x small high =
    c.load.ensures x small high ∙ ap (has x) (c.lows.ensures.lows ∙ sym (between_chunk c.args.self.now c.args.position c.args.end c.if-self-eq0.false c.if-position-end.false))
