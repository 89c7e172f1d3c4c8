-- The first values of the tail have the value.
use Rattle.std.proofs.Common.{◌-◌, ◌<◌, ◌%◌, ℕ, List, length, take, drop, get_or, refl, ◌∙◌, ap, arith}
use Rattle.std.proofs.lemmas.List.{get_or_append_left, length-replicate, length-take}
use Rattle.bitpack_columns.specs.Opened.{blocks_of}
use Rattle.bitpack_columns.proofs.FrontGroups.{value_of_front}
use Rattle.bitpack_columns.proofs.OpenedLaws.{few_blocks}
use Rattle.bitpack_columns.proofs.TailReads.{lent_groups, lent_tail, left_is, tail_entries, tail_groups, tail_room, tail_written}
use Rattle.bitpack_columns.proofs.column.Column.value_in_tail.Goals as goal

pub tail_start-requires-clause-some : goal.tail_start-requires-clause-some
tail_start-requires-clause-some c = rw c.blocks-blocks.ensures (tail_entries c.args.self.now)

pub tail_start-requires-clause-few : goal.tail_start-requires-clause-few
tail_start-requires-clause-few c = omega (arith, c.blocks-blocks.ensures, few_blocks c.args.self.now)

pub slice_bounds-tail-count : goal.slice_bounds-tail-count
slice_bounds-tail-count c =
    let start = rw c.blocks-blocks.ensures at c.tail_start.ensures in
    omega (arith, start, tail_room c.args.self.now)

pub slice_bounds-tail-start : goal.slice_bounds-tail-start
slice_bounds-tail-start c =
    let start = rw c.blocks-blocks.ensures at c.tail_start.ensures in
    omega (arith, start, tail_room c.args.self.now)

pub end_of_group-len-requires-clause-index : goal.end_of_group-len-requires-clause-index
end_of_group-len-requires-clause-index c = omega (arith, c.requires, left_is c.args.self.now)

pub unpack_tail_front-requires-clause-sound : goal.unpack_tail_front-requires-clause-sound
unpack_tail_front-requires-clause-sound c =
    let self = c.args.self.now in
    let count : ℕ = self.count % 128 in
    let start = rw c.blocks-blocks.ensures at c.tail_start.ensures in
    let tail : List ℕ = take (length self.rest.bytes.now - c.tail_start.result) (drop c.tail_start.result self.rest.bytes.now) in
    let lent = lent_groups self count c.tail_base-base.result.1 tail (left_is self) c.tail_base-base.ensures.end (lent_tail self c.tail_start.result start) in
    (blocks_of self, rw (c.blocks-blocks.ensures, lent) (tail_groups self count (left_is self)))

pub returns : goal.returns
returns c =
    let self = c.args.self.now in
    let count : ℕ = self.count % 128 in
    let index : ℕ = c.args.index in
    let start = rw c.blocks-blocks.ensures at c.tail_start.ensures in
    let tail : List ℕ = take (length self.rest.bytes.now - c.tail_start.result) (drop c.tail_start.result self.rest.bytes.now) in
    let new : List ℕ = c.unpack_tail_front.new.out in
    let inside : index < length new =
    omega (arith, c.unpack_tail_front.auto.out, c.end_of_group-len.ensures.within, c.end_of_group-len.ensures.ends.within, length-take {A = ℕ}, length-replicate {A = ℕ}) in
    let front = rw c.blocks-blocks.ensures at c.unpack_tail_front.ensures in
    let all = tail_written self count c.tail_base-base.result.1 tail (left_is self) c.tail_base-base.ensures.end (lent_tail self c.tail_start.result start)
    c.tail_base-base.result.0 _ c.tail_base-base.ensures.base refl in
    get_or_append_left new _ 0 index inside ∙ value_of_front _ index new _ front inside ∙ ap (λ xs. get_or xs index 0) all
