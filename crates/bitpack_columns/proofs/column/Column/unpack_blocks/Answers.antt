-- One block more is written.
use Rattle.std.proofs.Common.{◌≡◌, ◌+◌, ◌-◌, ◌*◌, ◌<◌, ◌≤◌, ℕ, List, length, take, drop, ◌∙◌, ap, sym, arith}
use Rattle.std.proofs.lemmas.List.{drop-drop, nil_from_length, take_all}
use Rattle.bitpack_groups.proofs.ForCallers.{lent_after}
use Rattle.bitpack_columns.specs.declared.column_kind.ColumnKind.TheVariants.{Sorted}
use Rattle.bitpack_columns.specs.Columns.{base_of, block_of}
use Rattle.bitpack_columns.specs.Opened.{blocks_of, values}
use Rattle.bitpack_columns.specs.Reads.{begin_at, mark_at, width_at}
use Rattle.bitpack_columns.proofs.CopyLaws.{block_written, lent_body}
use Rattle.bitpack_columns.proofs.OpenedLaws.{base_chosen, before_next, begin_next, block_unpacked, body_end, entries, few_blocks, length-block_of, narrow, rising, some_rest, some_values}
use Rattle.bitpack_columns.proofs.column.Column.unpack_blocks.Goals as goal

-- the block of a part of the values
block_after : (all : List ℕ) (start index : ℕ) → block_of (start + index) all ≡ block_of index (drop (128 * start) all)
block_after all start index =
    let same : 128 * (start + index) ≡ 128 * start + 128 * index = omega arith in
    ap (λ n. take 128 (drop n all)) same ∙ ap (take 128) (sym (drop-drop (128 * index) (128 * start) all))

next_block : (start index : ℕ) → start + index + 1 ≡ start + (index + 1)
next_block start index = omega arith

pub bodies_start-requires-clause-some : goal.bodies_start-requires-clause-some
bodies_start-requires-clause-some c = some_rest c.args.self.now c.args.start (omega (arith, c.requires.within, c.requires.whole, c.if-count-eq0.false))

pub bodies_start-requires-clause-few : goal.bodies_start-requires-clause-few
bodies_start-requires-clause-few c = omega (arith, c.blocks-blocks.ensures, few_blocks c.args.self.now)

pub slice_bounds-bodies-count : goal.slice_bounds-bodies-count
slice_bounds-bodies-count c =
    let start = rw c.blocks-blocks.ensures at c.bodies_start.ensures in
    let room = (entries c.args.self.now c.args.start (omega (arith, c.requires.within, c.requires.whole, c.if-count-eq0.false))).room in
    omega arith

pub slice_bounds-bodies-start : goal.slice_bounds-bodies-start
slice_bounds-bodies-start c =
    let start = rw c.blocks-blocks.ensures at c.bodies_start.ensures in
    let room = (entries c.args.self.now c.args.start (omega (arith, c.requires.within, c.requires.whole, c.if-count-eq0.false))).room in
    omega arith

pub begin_at-begin-requires-clause-entries : goal.begin_at-begin-requires-clause-entries
begin_at-begin-requires-clause-entries c =
    rw c.blocks-blocks.ensures (entries c.args.self.now c.args.start (omega (arith, c.requires.within, c.requires.whole, c.if-count-eq0.false)))

pub end_at-end-requires-clause-entries : goal.end_at-end-requires-clause-entries
end_at-end-requires-clause-entries c =
    let self = c.args.self.now in
    let lt : c.args.start + c.loop-index.index < blocks_of self = omega (arith, c.requires.within, c.requires.whole, c.loop-index-test.true, c.loop-index.auto.out) in
    rw c.blocks-blocks.ensures (entries self (c.args.start + c.loop-index.index) lt)

pub slice_bounds-body-count : goal.slice_bounds-body-count
slice_bounds-body-count c =
    let self = c.args.self.now in
    let lt : c.args.start + c.loop-index.index < blocks_of self = omega (arith, c.requires.within, c.requires.whole, c.loop-index-test.true, c.loop-index.auto.out) in
    omega (arith, rising self (c.args.start + c.loop-index.index) lt, c.loop-index.invariant.begin_is, c.end_at-end.ensures)

pub slice_bounds-body-start : goal.slice_bounds-body-start
slice_bounds-body-start c =
    let self = c.args.self.now in
    let lt : c.args.start + c.loop-index.index < blocks_of self = omega (arith, c.requires.within, c.requires.whole, c.loop-index-test.true, c.loop-index.auto.out) in
    omega (arith, rising self (c.args.start + c.loop-index.index) lt, c.loop-index.invariant.begin_is, c.end_at-end.ensures)

pub slice_bounds-body-end : goal.slice_bounds-body-end
slice_bounds-body-end c =
    let self = c.args.self.now in
    let lt : c.args.start + c.loop-index.index < blocks_of self = omega (arith, c.requires.within, c.requires.whole, c.loop-index-test.true, c.loop-index.auto.out) in
    let start = rw c.blocks-blocks.ensures at c.bodies_start.ensures in
    omega (
      arith,
      start,
      rising self (c.args.start + c.loop-index.index) lt,
      body_end self (c.args.start + c.loop-index.index) lt,
      lent_after c.bodies_start.result self.rest.bytes.now,
      c.loop-index.invariant.begin_is,
      c.end_at-end.ensures,
    )

pub overflow_sub-end : goal.overflow_sub-end
overflow_sub-end c =
    let self = c.args.self.now in
    let lt : c.args.start + c.loop-index.index < blocks_of self = omega (arith, c.requires.within, c.requires.whole, c.loop-index-test.true, c.loop-index.auto.out) in
    omega (arith, rising self (c.args.start + c.loop-index.index) lt, c.loop-index.invariant.begin_is, c.end_at-end.ensures)

pub overflow_cast-end : goal.overflow_cast-end
overflow_cast-end c =
    let self = c.args.self.now in
    let lt : c.args.start + c.loop-index.index < blocks_of self = omega (arith, c.requires.within, c.requires.whole, c.loop-index-test.true, c.loop-index.auto.out) in
    record { fits = omega (arith, narrow self (c.args.start + c.loop-index.index) lt, c.loop-index.invariant.begin_is, c.end_at-end.ensures) }

pub unpack_body-requires-clause-width : goal.unpack_body-requires-clause-width
unpack_body-requires-clause-width c =
    let self = c.args.self.now in
    let lt : c.args.start + c.loop-index.index < blocks_of self = omega (arith, c.requires.within, c.requires.whole, c.loop-index-test.true, c.loop-index.auto.out) in
    omega (arith, narrow self (c.args.start + c.loop-index.index) lt, c.loop-index.invariant.begin_is, c.end_at-end.ensures)

pub loop-index-preserved : goal.loop-index-preserved
loop-index-preserved c =
    let self = c.args.self.now in
    let all : List ℕ = values self in
    let first : ℕ = c.args.start in
    let index : ℕ = c.loop-index.index in
    let block : ℕ = first + index in
    let begin : ℕ = c.loop-index.begin in
    let end : ℕ = c.end_at-end.result in
    let start : ℕ = c.bodies_start.result in
    let base : ℕ = c.base_after-base.result in
    let marks = mark_at (blocks_of self) self.rest.bytes.now in
    let before = c.loop-index.invariant in
    let lt : block < blocks_of self = omega (arith, c.requires.within, c.requires.whole, c.loop-index-test.true, c.loop-index.auto.out) in
    let bodies = rw c.blocks-blocks.ensures at c.bodies_start.ensures in
    let width : end - begin ≡ width_at self.rest.bytes.now block = omega (arith, before.begin_is, c.end_at-end.ensures) in
    let body : List ℕ = take (16 * end - 16 * begin) (drop (16 * begin) (take (length self.rest.bytes.now - start) (drop start self.rest.bytes.now))) in
    let body_is = lent_body self block start begin end lt bodies before.begin_is c.end_at-end.ensures in
    let base_is = base_chosen self block lt c.mark-mark.result c.mark-mark.ensures c.loop-index.before base before.before_is c.base_after-base.ensures.plain
    c.base_after-base.ensures.sorted in
    let part_is = block_unpacked self block lt base (end - begin) body c.unpack_body.new.out base_is width body_is c.unpack_body.ensures in
    let long : length c.unpack_body.new.out ≡ 128 = ap length part_is ∙ length-block_of all block (some_values self block lt) in
    let room : 128 * index + 128 ≤ length c.loop-index.out = omega (arith, c.loop-index-test.true, c.loop-index.auto.out) in
    record {
      begin_is = c.end_at-end.ensures ∙ sym (begin_next self.rest.bytes.now block) ∙ ap (begin_at self.rest.bytes.now) (next_block first index);
      before_is = λ _. before_next self block lt c.mark-mark.result c.mark-mark.ensures ∙ ap (base_of Sorted self.first marks) (next_block first index);
      written = block_written (drop (128 * first) all) c.loop-index.out c.unpack_body.new.out index room long before.written (part_is ∙ block_after all first index);
    }

pub returns-then-count-eq0 : goal.returns-then-count-eq0
returns-then-count-eq0 c =
    let out : List ℕ = c.args.out.now in
    let none : length out ≡ 0 = omega (arith, c.requires.whole, c.if-count-eq0.true) in
    nil_from_length out none ∙ sym (ap (λ n. take n (drop (128 * c.args.start) (values c.args.self.now))) none)

pub returns : goal.returns
returns c =
    let out : List ℕ = c.loop-index.out in
    let later : List ℕ = drop (128 * c.args.start) (values c.args.self.now) in
    let all : 128 * c.loop-index.index ≡ length c.args.out.now = omega (arith, c.requires.whole, c.loop-index-test.false, c.loop-index.auto.out) in
    sym (take_all (128 * c.loop-index.index) out (omega (arith, all, c.loop-index.auto.out))) ∙ c.loop-index.invariant.written ∙ ap (λ n. take n later) all
