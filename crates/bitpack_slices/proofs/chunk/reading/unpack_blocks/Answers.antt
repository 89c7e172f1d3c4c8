-- The parts are cut as a body of blocks is read.
use Rattle.std.proofs.Common.{◌≡◌, ℕ, ◌∙◌, ◌+◌, ◌-◌, ◌++◌, ◌≤◌, List, ap, arith, drop, length, take, map, subst, sym}
use Rattle.bitpack_slices.proofs.lemmas.bodies.CutLaws.{slices_past}
use Rattle.bitpack_slices.specs.Parts.{numbers_in_parts}
use Rattle.bitpack_slices.specs.Slices.{AreSlices, block_numbers, numbers_of, slice_numbers, slices_len}
use Rattle.bitpack_slices.specs.declared.chunk.parts.Parts.{Parts}
use Rattle.bitpack_slices.proofs.chunk.reading.unpack_blocks.Goals as goal

-- the slices of bytes that begin with a body
abbrev past : Parts → List ℕ → List ℕ → List ℕ
past parts body rest = take (length rest - (length body - length parts.slices.now)) (drop (length body - length parts.slices.now) rest)

are_past : (parts : Parts) (body rest : List ℕ) → length parts.slices.now ≤ length body → drop (length body - length parts.slices.now) body ≡ parts.slices.now
    → take (length body) rest ≡ body → AreSlices parts.counts.now (take (slices_len parts.counts.now) (past parts body rest))
are_past parts body rest within end front = subst (AreSlices parts.counts.now) (sym (slices_past parts body rest within end front)) parts.are

numbers_past : (parts : Parts) (body rest : List ℕ) → length parts.slices.now ≤ length body → drop (length body - length parts.slices.now) body ≡ parts.slices.now
    → take (length body) rest ≡ body → numbers_in_parts parts ≡ block_numbers body
    → numbers_of (slice_numbers (length parts.counts.now) parts.highs.now) parts.counts.now (take (slices_len parts.counts.now) (past parts body rest)) ≡ block_numbers body
numbers_past parts body rest within end front are =
    ap (numbers_of (slice_numbers (length parts.counts.now) parts.highs.now) parts.counts.now) (slices_past parts body rest within end front) ∙ are

pub unpack_parts-requires-clause-slices : goal.unpack_parts-requires-clause-slices
unpack_parts-requires-clause-slices c = are_past c.new-parts.result c.args.body.now c.args.rest.now c.new-parts.ensures.within c.new-parts.ensures.end c.requires.front

pub unpack_parts-requires-clause-room : goal.unpack_parts-requires-clause-room
unpack_parts-requires-clause-room c =
    let same = c.new-parts.ensures.counted in
    let room = c.requires.room in
    omega arith

pub unpack_parts-requires-2-clause-slices : goal.unpack_parts-requires-2-clause-slices
unpack_parts-requires-2-clause-slices c = are_past c.new-parts.result c.args.body.now c.args.rest.now c.new-parts.ensures.within c.new-parts.ensures.end c.requires.front

pub unpack_parts-requires-2-clause-room : goal.unpack_parts-requires-2-clause-room
unpack_parts-requires-2-clause-room c =
    let same = c.new-parts.ensures.counted in
    let room = c.requires.room in
    omega arith

pub returns-then-parts-clause-end : goal.returns-then-parts-clause-end
returns-then-parts-clause-end c =
    let same = c.new-parts.ensures.counted in
    let end = c.unpack_parts.ensures.end in
    omega arith

pub returns-then-parts-clause-values : goal.returns-then-parts-clause-values
returns-then-parts-clause-values c =
    c.unpack_parts.ensures.values
    ∙ ap (λ (l : List ℕ). take c.args.at c.args.out.now ++ map (λ i. c.args.base + i) l)
    (numbers_past c.new-parts.result c.args.body.now c.args.rest.now c.new-parts.ensures.within c.new-parts.ensures.end c.requires.front c.new-parts.ensures.numbers)

pub returns-clause-end : goal.returns-clause-end
returns-clause-end c =
    let same = c.new-parts.ensures.counted in
    let end = c.unpack_parts-2.ensures.end in
    omega arith

pub returns-clause-values : goal.returns-clause-values
returns-clause-values c =
    c.unpack_parts-2.ensures.values
    ∙ ap (λ (l : List ℕ). take c.args.at c.args.out.now ++ map (λ i. c.args.base + i) l)
    (numbers_past c.new-parts.result c.args.body.now c.args.rest.now c.new-parts.ensures.within c.new-parts.ensures.end c.requires.front c.new-parts.ensures.numbers)
