-- One slice alone is copied; of others the numbers are written.
use Rattle.std.proofs.Common.{List, ℕ, ◌≡◌, ◌-◌, ◌++◌, ◌<◌, ◌∙◌, ap, arith, cond, false, length, ltb, sym, take, true}
use Rattle.std.proofs.lemmas.Bool.{cond_below}
use Rattle.bitpack_slices.proofs.lemmas.slices.SelectionLaws.{no_numbers, only_left, only_right}
use Rattle.bitpack_slices.proofs.lemmas.slices.SliceLaws.{slice_few}
use Rattle.bitpack_slices.proofs.slice.selecting.put_both.Goals as goal
use Rattle.bitpack_slices.specs.Bodies.{slice}
use Rattle.bitpack_slices.specs.Operations.{apply, combined}
use Rattle.bitpack_slices.specs.Selections.{numbers_at}
use Rattle.bitpack_slices.specs.Slices.{slice_len}
use Rattle.bitpack_slices.specs.declared.operation.Operation.{Operation}
use Rattle.bitpack_slices.specs.declared.slice.Slice.{Slice}

left_alone : (operation : Operation) (a b : Slice) → b.count ≡ 0 → apply operation true false ≡ true → numbers_at a ≡ combined 256 operation (numbers_at a) (numbers_at b)
left_alone operation a b none retains = only_left operation (numbers_at a) (numbers_at b) a.there.slice.rising (no_numbers b.slices.now b.start b.count none) retains

pub returns-then-retains_left-clause-count : goal.returns-then-retains_left-clause-count
returns-then-retains_left-clause-count c =
    sym c.args.a.there.slice.count_is
    ∙ ap length (left_alone c.args.operation c.args.a c.args.b c.if-b-eq0.true (sym c.retains_left.ensures ∙ c.if-retains_left.true))

pub returns-then-retains_left-clause-written : goal.returns-then-retains_left-clause-written
returns-then-retains_left-clause-written c =
    c.copy_bytes.ensures.bytes
    ∙ ap (λ (l : List ℕ). take c.args.at c.args.out.now ++ l)
    (sym c.args.a.there.slice.encoding ∙ ap slice (left_alone c.args.operation c.args.a c.args.b c.if-b-eq0.true (sym c.retains_left.ensures ∙ c.if-retains_left.true)))

right_alone : (operation : Operation) (a b : Slice) → a.count ≡ 0 → apply operation false true ≡ true → numbers_at b ≡ combined 256 operation (numbers_at a) (numbers_at b)
right_alone operation a b none retains = only_right operation (numbers_at a) (numbers_at b) b.there.slice.rising (no_numbers a.slices.now a.start a.count none) retains

pub returns-then-retains_right-clause-count : goal.returns-then-retains_right-clause-count
returns-then-retains_right-clause-count c =
    sym c.args.b.there.slice.count_is
    ∙ ap length (right_alone c.args.operation c.args.a c.args.b c.if-a-eq0.true (sym c.retains_right.ensures ∙ c.if-retains_right.true))

pub returns-then-retains_right-clause-written : goal.returns-then-retains_right-clause-written
returns-then-retains_right-clause-written c =
    c.copy_bytes-then-retains_right.ensures.bytes
    ∙ ap (λ (l : List ℕ). take c.args.at c.args.out.now ++ l)
    (sym c.args.b.there.slice.encoding ∙ ap slice (right_alone c.args.operation c.args.a c.args.b c.if-a-eq0.true (sym c.retains_right.ensures ∙ c.if-retains_right.true)))

pub returns-then-not-retains_right-clause-end : goal.returns-then-not-retains_right-clause-end
returns-then-not-retains_right-clause-end c =
    let count : ℕ = c.put_matches-end.result - c.args.at in
    let few = c.put_matches-end.ensures.few in
    let end = c.put_matches-end.ensures.end in
    let less : count < 32 = omega arith in
    let size : slice_len count ≡ count = sym (cond_below count 32 count (cond (ltb count 256) 32 0) less) in
    omega (arith, size, end)

pub returns-then-not-retains_right-clause-written : goal.returns-then-not-retains_right-clause-written
returns-then-not-retains_right-clause-written c =
    let all : List ℕ = combined 256 c.args.operation (numbers_at c.args.a) (numbers_at c.args.b) in
    let few = c.put_matches-end.ensures.few in
    let end = c.put_matches-end.ensures.end in
    c.put_matches-end.ensures.values ∙ ap (λ (l : List ℕ). take c.args.at c.args.out.now ++ l) (sym (slice_few all (omega arith)))
