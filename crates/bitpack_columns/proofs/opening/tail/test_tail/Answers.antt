-- The tail of each kind.
use Rattle.std.proofs.Common.{◌≡◌, ◌/◌, ◌%◌, ◌-◌, ◌≤◌, ℕ, List, ap, drop, length, replicate, take, arith, ◌∙◌}
use Rattle.std.proofs.lemmas.List.{length-replicate, length-take-le, take_rest}
use Rattle.bitpack_columns.specs.Reads.{tail_at, tail_start}
use Rattle.bitpack_columns.proofs.TailTests.{plain_tail, sorted_tail}
use Rattle.bitpack_columns.proofs.opening.tail.test_tail.Goals as goal

cut : (rest : List ℕ) (blocks start : ℕ) → start ≡ tail_start blocks rest → take (length rest - start) (drop start rest) ≡ tail_at blocks rest
cut rest blocks start e = take_rest rest start ∙ ap (λ (n : ℕ). drop n rest) e

room : (n : ℕ) → n ≤ 128 → length (take n (replicate {A = ℕ} 128 0)) ≡ n
room n le = length-take-le n (replicate {A = ℕ} 128 0) (omega (arith, length-replicate {A = ℕ} 128 0))

pub returns-in-Plain : goal.returns-in-Plain
returns-in-Plain c =
    let count : ℕ = c.args.count in
    let rest : List ℕ = c.args.rest.now in
    rw (c.in-Plain.is, plain_tail c.args.first count rest)
    (rw (cut rest (count / 128) c.tail_start-start.result c.tail_start-start.ensures, room (count % 128) (omega arith)) at c.test_plain_tail.ensures)

pub returns-in-Sorted : goal.returns-in-Sorted
returns-in-Sorted c =
    let count : ℕ = c.args.count in
    let rest : List ℕ = c.args.rest.now in
    rw (
      c.in-Sorted.is,
      sorted_tail c.args.first count c.value_before-before.result rest c.args.out (rw c.in-Sorted.is at c.requires.blocks) c.value_before-before.ensures
          (rw c.in-Sorted.is at c.requires.out),
    )
    (rw (cut rest (count / 128) c.tail_start-start.result c.tail_start-start.ensures, room (count % 128) (omega arith)) at c.test_sorted_tail.ensures)
