-- The value at the next position is written.
use Rattle.std.proofs.Common.{◌≡◌, ◌+◌, ◌-◌, ◌<◌, ℕ, List, length, take, drop, get_or, set, refl, ◌∙◌, ap, arith, inl, inr}
use Rattle.std.proofs.lemmas.Bool.{cases_lt}
use Rattle.std.proofs.lemmas.List.{drop-set-lt, get_or-drop, get_or-set_other, get_or-set_same, length-drop, length-set, take_rest}
use Rattle.bitpack_columns.specs.Opened.{values}
use Rattle.bitpack_columns.proofs.OpenedLaws.{count_is, few_values}
use Rattle.bitpack_columns.proofs.RunLaws.{read_more, runs_before}
use Rattle.bitpack_columns.proofs.column.Column.gather_all.Goals as goal

-- the first of the positions from an index on
first_lent : (positions : List ℕ) (index : ℕ) → get_or (take (length positions - index) (drop index positions)) 0 0 ≡ get_or positions index 0
first_lent positions index =
    let here : index + 0 ≡ index = omega arith in
    ap (λ xs. get_or xs 0 0) (take_rest positions index) ∙ get_or-drop index positions 0 0 ∙ ap (λ n. get_or positions n 0) here

written_more : (values positions out : List ℕ) (index value : ℕ) → index < length out
    → ((k : ℕ) → k < index → get_or out k 0 ≡ get_or values (get_or positions k 0) 0) → value ≡ get_or values (get_or positions index 0) 0
    → (k : ℕ) → k < index + 1 → get_or (set out index value) k 0 ≡ get_or values (get_or positions k 0) 0
written_more values positions out index value room before next k lt = elim (cases_lt k index) [
  | inl earlier ↦ get_or-set_other out index k value 0 (λ e. absurd (omega (arith, earlier, e))) ∙ before k earlier
  | inr from ↦
      let here : k ≡ index = omega arith in
      rw here (get_or-set_same out index value 0 room ∙ next)
]

pub loop-index-init : goal.loop-index-init
loop-index-init c = record {
  last = λ position lt here. absurd (omega (arith, few_values c.args.self.now, c.none-last.ensures));
  long = refl;
  written = λ k lt. absurd (omega arith);
  read = record {
    few = omega arith;
    was_cached = λ some. absurd (omega (arith, some));
  };
  rest = refl;
}

pub next_value-requires-clause-some : goal.next_value-requires-clause-some
next_value-requires-clause-some c =
    let positions : List ℕ = c.args.positions.now in
    omega (arith, ap length (take_rest positions c.loop-index.index), length-drop c.loop-index.index positions)

pub next_value-requires-clause-within : goal.next_value-requires-clause-within
next_value-requires-clause-within c =
    let positions : List ℕ = c.args.positions.now in
    let index : ℕ = c.loop-index.index in
    omega (arith, first_lent positions index, c.requires.within index c.loop-index-test.true, count_is c.args.self.now)

pub loop-index-preserved : goal.loop-index-preserved
loop-index-preserved c =
    let self = c.args.self.now in
    let positions : List ℕ = c.args.positions.now in
    let index : ℕ = c.loop-index.index in
    let out : List ℕ = c.loop-index.out in
    let value : ℕ = c.next_value.result in
    let lt = c.loop-index-test.true in
    let before = c.loop-index.invariant in
    let room : index < length out = omega (arith, before.long, c.requires.room) in
    record {
      last = c.next_value.ensures.last;
      long = length-set out index value ∙ before.long;
      written = written_more (values self) positions out index value room before.written
          (c.next_value.ensures.value ∙ ap (λ n. get_or (values self) n 0) (first_lent positions index));
      read = read_more positions index c.args.reads.now.blocks c.loop-index.last c.next_value.new.last c.loop-index.reads c.next_value.new.reads before.read
          (rw (first_lent positions index) at c.next_value.ensures.reads);
      rest = drop-set-lt (length positions) out index value lt ∙ before.rest;
    }

pub returns-clause-all : goal.returns-clause-all
returns-clause-all c = record {
  within = omega (arith, c.loop-index.invariant.long, c.requires.room);
  each = λ k lt. c.loop-index.invariant.written k (omega arith);
}

pub returns-clause-reads : goal.returns-clause-reads
returns-clause-reads c =
    let all : c.loop-index.index ≡ length c.args.positions.now = omega (arith, c.loop-index-test.false, c.loop-index.auto.index-end) in
    omega (arith, c.loop-index.invariant.read.few, ap (runs_before c.args.positions.now) all)
