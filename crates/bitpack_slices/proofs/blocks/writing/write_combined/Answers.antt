-- The blocks are the body: they are shorter than numbers, and have more boundaries than runs.
use Rattle.std.proofs.Common.{Bool, List, ℕ, ◌≡◌, ◌∙◌, ap, arith, false, leb, length, sym, take}
use Rattle.std.proofs.lemmas.List.{length-take-le}
use Rattle.bitpack_slices.proofs.lemmas.bits.BitmapLaws.{those_few}
use Rattle.bitpack_slices.proofs.lemmas.bodies.LoadLaws.{those_rise}
use Rattle.bitpack_slices.proofs.lemmas.bodies.OneBlocks.{blocks_back, blocks_written}
use Rattle.bitpack_slices.proofs.lemmas.bodies.OneBody.{body_blocks}
use Rattle.bitpack_slices.proofs.blocks.writing.write_combined.Goals as goal
use Rattle.bitpack_slices.specs.Bodies.{blocks}
use Rattle.bitpack_slices.specs.Operations.{apply, combined, those}
use Rattle.bitpack_slices.specs.Reads.{has}
use Rattle.bitpack_slices.specs.Runs.{are_few, boundaries}
use Rattle.bitpack_slices.specs.Slices.{block_numbers}

pub overflow_mul-count : goal.overflow_mul-count
overflow_mul-count c =
    let few = those_few 65536 (λ x. apply c.args.operation (has x (block_numbers c.args.a.now)) (has x (block_numbers c.args.b.now))) in
    omega (arith, c.write_blocks-count.ensures.count)

pub new-requires : goal.new-requires
new-requires c =
    let p : ℕ → Bool = λ x. apply c.args.operation (has x (block_numbers c.args.a.now)) (has x (block_numbers c.args.b.now)) in
    blocks_written (those 65536 p) _ (those_rise p 65536) (omega (arith, c.write_blocks-count.ensures.count, c.if-count-eq0.false))
    (c.write_blocks-count.ensures.written (omega (arith, c.if-count-eq0.false)))

pub returns-clause-written : goal.returns-clause-written
returns-clause-written c = λ some.
    let count = c.write_blocks-count in
    let all : List ℕ = combined 65536 c.args.operation (block_numbers c.args.a.now) (block_numbers c.args.b.now) in
    let rise = those_rise (λ x. apply c.args.operation (has x (block_numbers c.args.a.now)) (has x (block_numbers c.args.b.now))) 65536 in
    let written = count.ensures.written some in
    let size : length (blocks all) ≡ count.result.1 = ap length (sym written) ∙ length-take-le count.result.1 count.new.out (omega (arith, count.ensures.most, count.array_long)) in
    let back : block_numbers (take count.result.1 count.new.out) ≡ all = ap block_numbers written ∙ blocks_back all rise (omega (arith, some, count.ensures.count)) in
    let many : are_few (length (boundaries all)) (length all) ≡ false =
    ap (are_few (length (boundaries all))) (sym count.ensures.count) ∙ c.most_bounds.ensures.few (length (boundaries all))
    ∙ ap (λ (l : List ℕ). leb (length (boundaries l)) c.most_bounds.result) (sym (c.new.ensures.numbers ∙ back)) ∙ sym c.has_few_bounds.ensures ∙ c.if-has_few_bounds.false in
    written ∙ sym (body_blocks all many (omega (arith, c.if-size-count.false, count.ensures.count, size)))
