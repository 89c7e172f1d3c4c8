-- The chunk has no fault, so that its columns open and no value is above its greatest.
use Rattle.std.proofs.Common.{◌≡◌, ◌+◌, ◌-◌, ◌*◌, ◌/◌, ◌%◌, ℕ, List, false, get_or, ap, arith, sym, ◌∙◌}
use Rattle.bitpack_columns.specs.Faults as column_faults
use Rattle.bitpack_columns.specs.Stated.{values_in}
use Rattle.bitpack_wide.specs.WideColumnReads.{is_high, least_at, part_at}
use Rattle.bitpack_wide.specs.WideColumns.{chunks_of, has_high}
use Rattle.bitpack_wide.proofs.WideStated.{high_none, low_none, narrow_difference, value_most, wide_difference, within_chunk}
use Rattle.bitpack_wide.proofs.wide_column.getting.value_at.Goals as goal

pub number_at-low-requires : goal.number_at-low-requires
number_at-low-requires c =
    let m : ℕ = c.args.position / 65536 in
    ap column_faults.fault (c.part_at.ensures ∙ ap (λ (n : ℕ). part_at n c.args.rest.now (2 * m + 1)) c.chunks_of-chunks.ensures.chunks)
    ∙ low_none c.args.count c.args.rest.now m c.requires.right

pub overflow_add-result : goal.overflow_add-result
overflow_add-result c =
    let rest : List ℕ = c.args.rest.now in
    let m : ℕ = c.args.position / 65536 in
    let k : ℕ = c.args.position % 65536 in
    let narrow : is_high rest m ≡ false =
    sym (c.has_high.ensures ∙ ap (λ (x : ℕ). has_high (c.bound_at-greatest.result - x)) c.bound_at-least.ensures ∙ ap (λ (x : ℕ). has_high (x - least_at rest m)) c.bound_at-greatest.ensures)
    ∙ c.if-not-has_high.true in
    let low : c.number_at-low.result ≡ get_or (values_in (part_at (chunks_of c.args.count) rest (2 * m + 1))) k 0 =
    c.number_at-low.ensures ∙ ap (λ (l : List ℕ). get_or (values_in l) k 0) (c.part_at.ensures ∙ ap (λ (n : ℕ). part_at n rest (2 * m + 1)) c.chunks_of-chunks.ensures.chunks) in
    omega (
      arith,
      value_most c.args.count rest m c.requires.right k (within_chunk c.args.count c.args.position c.requires.within),
      narrow_difference c.args.count rest m k c.number_at-low.result narrow low,
      c.bound_at-least.ensures,
      c.bound_at-greatest.ensures,
    )

pub returns-then-not-has_high : goal.returns-then-not-has_high
returns-then-not-has_high c =
    let rest : List ℕ = c.args.rest.now in
    let m : ℕ = c.args.position / 65536 in
    let k : ℕ = c.args.position % 65536 in
    let narrow : is_high rest m ≡ false =
    sym (c.has_high.ensures ∙ ap (λ (x : ℕ). has_high (c.bound_at-greatest.result - x)) c.bound_at-least.ensures ∙ ap (λ (x : ℕ). has_high (x - least_at rest m)) c.bound_at-greatest.ensures)
    ∙ c.if-not-has_high.true in
    let low : c.number_at-low.result ≡ get_or (values_in (part_at (chunks_of c.args.count) rest (2 * m + 1))) k 0 =
    c.number_at-low.ensures ∙ ap (λ (l : List ℕ). get_or (values_in l) k 0) (c.part_at.ensures ∙ ap (λ (n : ℕ). part_at n rest (2 * m + 1)) c.chunks_of-chunks.ensures.chunks) in
    ap (λ (n : ℕ). n + c.number_at-low.result) c.bound_at-least.ensures ∙ ap (λ (n : ℕ). least_at rest m + n) (narrow_difference c.args.count rest m k c.number_at-low.result narrow low)

pub number_at-high-requires : goal.number_at-high-requires
number_at-high-requires c =
    let rest : List ℕ = c.args.rest.now in
    let m : ℕ = c.args.position / 65536 in
    ap column_faults.fault (c.part_at-2.ensures ∙ ap (λ (n : ℕ). part_at n rest (2 * m + 2)) c.chunks_of-chunks.ensures.chunks)
    ∙ high_none c.args.count rest m c.requires.right
    (sym (c.has_high.ensures ∙ ap (λ (x : ℕ). has_high (c.bound_at-greatest.result - x)) c.bound_at-least.ensures ∙ ap (λ (x : ℕ). has_high (x - least_at rest m)) c.bound_at-greatest.ensures)
    ∙ c.if-not-has_high.false)

pub overflow_add-result-3 : goal.overflow_add-result-3
overflow_add-result-3 c =
    let rest : List ℕ = c.args.rest.now in
    let m : ℕ = c.args.position / 65536 in
    let k : ℕ = c.args.position % 65536 in
    let chunks = c.chunks_of-chunks.ensures.chunks in
    let low : c.number_at-low.result ≡ get_or (values_in (part_at (chunks_of c.args.count) rest (2 * m + 1))) k 0 =
    c.number_at-low.ensures ∙ ap (λ (l : List ℕ). get_or (values_in l) k 0) (c.part_at.ensures ∙ ap (λ (n : ℕ). part_at n rest (2 * m + 1)) chunks) in
    let high : c.number_at-high.result ≡ get_or (values_in (part_at (chunks_of c.args.count) rest (2 * m + 2))) k 0 =
    c.number_at-high.ensures ∙ ap (λ (l : List ℕ). get_or (values_in l) k 0) (c.part_at-2.ensures ∙ ap (λ (n : ℕ). part_at n rest (2 * m + 2)) chunks) in
    let wide = wide_difference c.args.count rest m k c.number_at-low.result c.number_at-high.result
    (sym (c.has_high.ensures ∙ ap (λ (x : ℕ). has_high (c.bound_at-greatest.result - x)) c.bound_at-least.ensures ∙ ap (λ (x : ℕ). has_high (x - least_at rest m)) c.bound_at-greatest.ensures)
    ∙ c.if-not-has_high.false) low high in
    omega (arith, value_most c.args.count rest m c.requires.right k (within_chunk c.args.count c.args.position c.requires.within), wide, c.bound_at-least.ensures, c.bound_at-greatest.ensures)

pub returns : goal.returns
returns c =
    let rest : List ℕ = c.args.rest.now in
    let m : ℕ = c.args.position / 65536 in
    let k : ℕ = c.args.position % 65536 in
    let chunks = c.chunks_of-chunks.ensures.chunks in
    let low : c.number_at-low.result ≡ get_or (values_in (part_at (chunks_of c.args.count) rest (2 * m + 1))) k 0 =
    c.number_at-low.ensures ∙ ap (λ (l : List ℕ). get_or (values_in l) k 0) (c.part_at.ensures ∙ ap (λ (n : ℕ). part_at n rest (2 * m + 1)) chunks) in
    let high : c.number_at-high.result ≡ get_or (values_in (part_at (chunks_of c.args.count) rest (2 * m + 2))) k 0 =
    c.number_at-high.ensures ∙ ap (λ (l : List ℕ). get_or (values_in l) k 0) (c.part_at-2.ensures ∙ ap (λ (n : ℕ). part_at n rest (2 * m + 2)) chunks) in
    let wide = wide_difference c.args.count rest m k c.number_at-low.result c.number_at-high.result
    (sym (c.has_high.ensures ∙ ap (λ (x : ℕ). has_high (c.bound_at-greatest.result - x)) c.bound_at-least.ensures ∙ ap (λ (x : ℕ). has_high (x - least_at rest m)) c.bound_at-greatest.ensures)
    ∙ c.if-not-has_high.false) low high in
    omega (arith, wide, c.bound_at-least.ensures)
