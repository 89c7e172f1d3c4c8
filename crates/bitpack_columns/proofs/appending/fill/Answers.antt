-- The tail and the values that fill its block.
use Rattle.std.proofs.Common.{◌≡◌, ◌+◌, ◌%◌, ◌≤◌, ◌++◌, ℕ, List, length, take, sym, ap, ◌∙◌, arith}
use Rattle.std.proofs.lemmas.List.{length-take-le}
use Rattle.bitpack_columns.specs.Columns.{tail_of}
use Rattle.bitpack_columns.specs.Opened.{blocks_of, values}
use Rattle.bitpack_columns.proofs.OpenedLaws.{count_is}
use Rattle.bitpack_columns.proofs.SplitLaws.{front_taken}
use Rattle.bitpack_columns.proofs.appending.fill.Goals as goal

pub unpack_tail-requires : goal.unpack_tail-requires
unpack_tail-requires c =
    c.split_at_mut-tail.ensures.front_len ∙ ap (λ (n : ℕ). n % 128) (sym (count_is c.args.column.now))

pub returns-clause-filled : goal.returns-clause-filled
returns-clause-filled c =
    let column = c.args.column.now in
    let more : List ℕ = c.args.more.now in
    let taken : ℕ = c.min-taken.result in
    let copied : List ℕ = c.copy_from_slice.new.self in
    let le : taken ≤ length more = omega (arith, c.min-taken.ensures) in
    let long : length c.unpack_tail.new.out ≡ length (values column) % 128 =
    c.unpack_tail.auto.out ∙ c.split_at_mut-tail.ensures.front_len ∙ ap (λ (n : ℕ). n % 128) (sym (count_is column)) in
    let is : copied ≡ take taken more = c.copy_from_slice.ensures.after in
    front_taken c.unpack_tail.new.out copied _ (length (values column) % 128 + taken) (omega (arith, long, ap length is, length-take-le taken more le))
    ∙ ap (λ (l : List ℕ). l ++ copied) c.unpack_tail.ensures.values ∙ ap (λ (l : List ℕ). tail_of (blocks_of column) (values column) ++ l) is
