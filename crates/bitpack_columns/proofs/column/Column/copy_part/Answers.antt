-- A whole block goes straight to its position, and a part of one by way of the block.
use Rattle.std.proofs.Common.{◌≡◌, ◌+◌, ◌-◌, ◌*◌, ◌/◌, ◌%◌, ◌≤◌, ℕ, List, length, take, drop, ◌∙◌, ap, arith}
use Rattle.std.proofs.lemmas.List.{drop_at, length-take, length-take-le, take_at}
use Rattle.bitpack_columns.specs.Opened.{values}
use Rattle.bitpack_columns.proofs.CopyLaws.{part_unpacked}
use Rattle.bitpack_columns.proofs.column.Column.copy_part.Goals as goal

pub unpack_blocks-requires-clause-within : goal.unpack_blocks-requires-clause-within
unpack_blocks-requires-clause-within c =
    let whole : ℕ = length c.args.out.now / 128 * 128 in
    omega (arith, c.requires.within, length-take whole c.args.out.now)

pub returns-then-out-ge-BLOCK_LEN-clause-values : goal.returns-then-out-ge-BLOCK_LEN-clause-values
returns-then-out-ge-BLOCK_LEN-clause-values c =
    let all : List ℕ = values c.args.self.now in
    let whole : ℕ = length c.args.out.now / 128 * 128 in
    let new : List ℕ = c.unpack_blocks.new.out in
    let here : 128 * (c.args.from / 128) ≡ c.args.from = omega arith in
    let size : length (take whole c.args.out.now) ≡ whole = length-take-le whole c.args.out.now (omega arith) in
    take_at new (drop whole c.args.out.now) whole (c.unpack_blocks.auto.out ∙ size) ∙ c.unpack_blocks.ensures.values
    ∙ ap (λ n. take n (drop (128 * (c.args.from / 128)) all)) size ∙ ap (λ n. take whole (drop n all)) here

pub returns-then-out-ge-BLOCK_LEN-clause-rest : goal.returns-then-out-ge-BLOCK_LEN-clause-rest
returns-then-out-ge-BLOCK_LEN-clause-rest c =
    let whole : ℕ = length c.args.out.now / 128 * 128 in
    let size : length (take whole c.args.out.now) ≡ whole = length-take-le whole c.args.out.now (omega arith) in
    drop_at c.unpack_blocks.new.out (drop whole c.args.out.now) whole (c.unpack_blocks.auto.out ∙ size)

pub returns-clause-values : goal.returns-clause-values
returns-clause-values c =
    let all : List ℕ = values c.args.self.now in
    let block : ℕ = c.args.from / 128 in
    let index : ℕ = c.args.from % 128 in
    let more : ℕ = c.min-more.result in
    let new : List ℕ = c.copy_from_slice.new.self in
    let here : 128 * block + index ≡ c.args.from = omega arith in
    let size : index + more - index ≡ more = omega arith in
    let inside : index + more ≤ c.unpack_block-len.result = omega (arith, c.min-more.ensures, c.unpack_block-len.ensures.len, c.requires.within, c.requires.some) in
    let few : index + more ≤ 128 = omega (arith, c.unpack_block-len.ensures.len) in
    let room : more ≤ length c.args.out.now = omega (arith, c.min-more.ensures) in
    let long : length new ≡ more = omega (arith, c.copy_from_slice.auto.self, length-take-le more c.args.out.now room) in
    take_at new (drop more c.args.out.now) more long ∙ c.copy_from_slice.ensures.after
    ∙ ap (λ n. take n (drop index c.unpack_block-len.new.out)) size
    ∙ part_unpacked all c.unpack_block-len.new.out block index c.unpack_block-len.result more c.unpack_block-len.ensures.values inside few
    ∙ ap (λ n. take more (drop n all)) here
