-- The bodies are one part of the bytes.
use Rattle.std.proofs.Common.{◌≡◌, ◌+◌, ◌-◌, ◌≤◌, ℕ, length, drop, take, ap, ◌∙◌, arith, rules}
use Rattle.bitpack_columns.specs.Opened.{blocks_of}
use Rattle.bitpack_columns.specs.Reads.{bodies_start}
use Rattle.bitpack_columns.proofs.CopiedLaws.{copied_bodies, copied_few, copied_room}
use Rattle.bitpack_columns.proofs.OpenedLaws.{few_blocks, some_rest}
use Rattle.bitpack_columns.proofs.reads.copying.copy_front.Goals as goal

pub overflow_cast-blocks : goal.overflow_cast-blocks
overflow_cast-blocks c = record { fits = omega (arith, c.blocks-blocks.ensures, few_blocks c.args.column.now) }

pub overflow_cast-blocks-2 : goal.overflow_cast-blocks-2
overflow_cast-blocks-2 c = record { fits = omega (arith, c.blocks-blocks.ensures, few_blocks c.args.column.now) }

pub bodies_start-start-requires : goal.bodies_start-start-requires
bodies_start-start-requires c =
    let some = some_rest c.args.column.now 0 c.requires.some in
    let few = few_blocks c.args.column.now in
    let blocks = c.blocks-blocks.ensures in
    record { some = some; few = omega arith }

pub overflow_add-start : goal.overflow_add-start
overflow_add-start c =
    let few = copied_few c.args.column.now c.requires.some in
    let start = c.bodies_start-start.ensures ∙ ap (λ (n : ℕ). bodies_start n c.args.column.now.rest.bytes.now) c.blocks-blocks.ensures in
    record { fits = omega (arith, few, start, c.requires.bodies) }

pub slice_bounds-copy_from_slice-end : goal.slice_bounds-copy_from_slice-end
slice_bounds-copy_from_slice-end c =
    let within = copied_room c.args.column.now c.requires.some in
    let start = c.bodies_start-start.ensures ∙ ap (λ (n : ℕ). bodies_start n c.args.column.now.rest.bytes.now) c.blocks-blocks.ensures in
    let room : c.bodies_start-start.result + length c.args.bodies.now ≤ length c.args.column.now.rest.bytes.now = omega (arith, within, start, c.requires.bodies) in
    search rules

pub returns-clause-bodies : goal.returns-clause-bodies
returns-clause-bodies c =
    let column = c.args.column.now in
    let from : ℕ = c.bodies_start-start.result in
    let size : ℕ = length c.args.bodies.now in
    let cut : from + size - from ≡ size = omega arith in
    let start : from ≡ bodies_start (blocks_of column) column.rest.bytes.now = c.bodies_start-start.ensures ∙ ap (λ (n : ℕ). bodies_start n column.rest.bytes.now) c.blocks-blocks.ensures in
    c.copy_from_slice.ensures.after ∙ ap (λ (n : ℕ). take n (drop from column.rest.bytes.now)) cut ∙ ap (λ (n : ℕ). take size (drop n column.rest.bytes.now)) start
    ∙ copied_bodies column c.requires.some c.args.bodies.now c.requires.bodies
