-- All blocks were written, and then the tail.
use Rattle.std.proofs.Common.{◌≡◌, ◌-◌, ◌*◌, ◌≤◌, ◌++◌, ℕ, List, length, take, drop, ◌∙◌, ap, sym, arith}
use Rattle.std.proofs.lemmas.List.{length-append, length-drop, length-take}
use Rattle.bitpack_columns.specs.Opened.{blocks_of, values}
use Rattle.bitpack_columns.proofs.CopyLaws.{all_written, rest_left}
use Rattle.bitpack_columns.proofs.OpenedLaws.{count_is}
use Rattle.bitpack_columns.proofs.column.Column.copy_all.Goals as goal

pub slice_bounds-unpack_tail-count : goal.slice_bounds-unpack_tail-count
slice_bounds-unpack_tail-count c = omega (arith, c.blocks-whole.ensures, count_is c.args.self.now)

pub slice_bounds-unpack_tail-start : goal.slice_bounds-unpack_tail-start
slice_bounds-unpack_tail-start c = omega (arith, c.blocks-whole.ensures, count_is c.args.self.now)

pub slice_bounds-unpack_tail-end : goal.slice_bounds-unpack_tail-end
slice_bounds-unpack_tail-end c =
    let whole : ℕ = 128 * c.blocks-whole.result in
    let out : List ℕ = c.args.out.now in
    omega (
      arith,
      c.requires.room,
      c.blocks-whole.ensures,
      count_is c.args.self.now,
      c.unpack_blocks.auto.out,
      length-append c.unpack_blocks.new.out (drop whole out),
      length-drop whole out,
      length-take whole out,
    )

pub unpack_tail-requires : goal.unpack_tail-requires
unpack_tail-requires c =
    let whole : ℕ = 128 * c.blocks-whole.result in
    let count : ℕ = c.args.self.now.count in
    let out : List ℕ = c.args.out.now in
    let later : List ℕ = c.unpack_blocks.new.out ++ drop whole out in
    omega (
      arith,
      c.requires.room,
      c.blocks-whole.ensures,
      count_is c.args.self.now,
      c.unpack_blocks.auto.out,
      length-append c.unpack_blocks.new.out (drop whole out),
      length-drop whole out,
      length-take whole out,
      length-drop whole later,
      length-take (count - whole) (drop whole later),
    )

pub returns-clause-len : goal.returns-clause-len
returns-clause-len c = sym (count_is c.args.self.now)

pub returns-clause-values : goal.returns-clause-values
returns-clause-values c =
    let self = c.args.self.now in
    let blocks : c.blocks-whole.result ≡ blocks_of self = c.blocks-whole.ensures in
    let whole : ℕ = 128 * c.blocks-whole.result in
    let out : List ℕ = c.args.out.now in
    let front : List ℕ = c.unpack_blocks.new.out in
    let tail : List ℕ = c.unpack_tail.new.out in
    let within : whole ≤ self.count = omega (arith, count_is self) in
    let front_is : front ≡ take whole (values self) =
    c.unpack_blocks.ensures.values ∙ ap (λ n. take n (values self)) (omega (arith, length-take whole out, c.requires.room, count_is self)) in
    let tail_is = c.unpack_tail.ensures.values ∙ ap (λ n. drop (128 * n) (values self)) (sym blocks) in
    all_written (values self) out front tail whole self.count within (omega (arith, ap length front_is, length-take whole (values self), count_is self))
    (omega (arith, ap length tail_is, length-drop whole (values self), count_is self)) front_is tail_is

pub returns-clause-rest : goal.returns-clause-rest
returns-clause-rest c =
    let self = c.args.self.now in
    let blocks : c.blocks-whole.result ≡ blocks_of self = c.blocks-whole.ensures in
    let whole : ℕ = 128 * c.blocks-whole.result in
    let out : List ℕ = c.args.out.now in
    let front : List ℕ = c.unpack_blocks.new.out in
    let tail : List ℕ = c.unpack_tail.new.out in
    let within : whole ≤ self.count = omega (arith, count_is self) in
    let front_is : front ≡ take whole (values self) =
    c.unpack_blocks.ensures.values ∙ ap (λ n. take n (values self)) (omega (arith, length-take whole out, c.requires.room, count_is self)) in
    let tail_is = c.unpack_tail.ensures.values ∙ ap (λ n. drop (128 * n) (values self)) (sym blocks) in
    rest_left out front tail whole self.count within (omega (arith, ap length front_is, length-take whole (values self), count_is self))
    (omega (arith, ap length tail_is, length-drop whole (values self), count_is self))
