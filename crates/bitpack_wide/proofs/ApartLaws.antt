-- Wide sets that are spread out, measured and written.
use Rattle.std.proofs.Common.{◌≡◌, ℕ, ◌+◌, ◌*◌, ◌/◌, ◌%◌, ◌^◌, ◌<◌, ◌≤◌, List, ◌∷◌, ◌++◌, length, set, drop, None, Result, Ok, Err, OnErr, refl, sym, ap, ◌∙◌, arith, subst, append_assoc, append-nil, length-append}
use Rattle.std.specs.List.{flat_map}
use Rattle.std.specs.Result.{IsOk}
use Rattle.std.proofs.lemmas.List.{drop_all, length-map}
use Rattle.bitpack_groups.specs.Numbers.{number}
use Rattle.bitpack_slices.proofs.ForCallers.{flat_len}
use Rattle.bitpack_slices.specs.Bodies.{le_bytes}
use Rattle.bitpack_sets.proofs.ForCallers.{one_set}
use Rattle.bitpack_columns.proofs.ForCallers.{longest_encoding, not_refused}
use Rattle.bitpack_columns.specs.Columns as columns
use Rattle.bitpack_columns.specs.Columns.{IsColumn}
use Rattle.bitpack_columns.specs.Written.{refusal}
use Rattle.bitpack_columns.specs.declared.column_kind.ColumnKind.TheVariants.{Sorted}
use Rattle.bitpack_wide.proofs.SpreadLaws.{highs_column}
use Rattle.bitpack_wide.specs.Wide.{IsWide, highs, lows, spread}

-- the high words of ids are a column
module _ (ids values : List ℕ) (is : IsWide ids) (same : values ≡ highs ids) where
  pub column_accepted : refusal Sorted values ≡ None
  column_accepted = not_refused Sorted values (subst (IsColumn Sorted) (sym same) (highs_column ids is))

  pub column_is : columns.encoding Sorted values ≡ columns.encoding Sorted (highs ids)
  column_is = ap (columns.encoding Sorted) same

  pub column_small : length (columns.encoding Sorted values) ≤ 17 * length ids / 4 + 16
  column_small =
      let small = longest_encoding Sorted (highs ids) (highs_column ids is) in
      let size : length (highs ids) ≡ length ids = length-map ids (λ id. id / 2 ^ 32) in
      let e = ap length column_is in
      omega arith

pub has_room : {A E : Type 0} (result : Result A E) (room size : ℕ) → room ≡ size → OnErr result (room < size) → IsOk result
has_room (Ok x) room size e h = refl
has_room (Err x) room size e h = absurd (omega arith)

-- the parts of the encoding
pub spread_size : (ids : List ℕ) → length (spread ids) ≡ 1 + length (number (length ids)) + length (columns.encoding Sorted (highs ids)) + 4 * length ids
unfolding spread
spread_size ids =
    let n : List ℕ = number (length ids) in
    let column : List ℕ = columns.encoding Sorted (highs ids) in
    let low : List ℕ = flat_map (le_bytes 4) (lows ids) in
    let one = length-append (n ++ column) low in
    let two = length-append n column in
    let three = flat_len 4 (lows ids) in
    let four : length (lows ids) ≡ length ids = length-map ids (λ id. id % 2 ^ 32) in
    omega arith

-- a column that fills its room
pub column_filled : (values old new : List ℕ) → length old ≡ length (columns.encoding Sorted values)
    → new ≡ columns.encoding Sorted values ++ drop (length (columns.encoding Sorted values)) old → new ≡ columns.encoding Sorted values
column_filled values old new size e =
    let column : List ℕ = columns.encoding Sorted values in
    e ∙ ap (λ (l : List ℕ). column ++ l) (drop_all (length column) old (omega arith)) ∙ append-nil column

pub spread_joined : (ids form first middle last : List ℕ) → length form ≡ 1 → first ≡ number (length ids) → middle ≡ columns.encoding Sorted (highs ids) → last ≡ flat_map (le_bytes 4) (lows ids)
    → set form 0 9 ++ (first ++ (middle ++ last)) ≡ spread ids
unfolding spread
spread_joined ids form first middle last one a b d =
    let n : List ℕ = number (length ids) in
    let column : List ℕ = columns.encoding Sorted (highs ids) in
    ap (λ (l : List ℕ). l ++ (first ++ (middle ++ last))) (one_set form 9 one) ∙ ap (λ (l : List ℕ). 9 ∷ (l ++ (middle ++ last))) a
    ∙ ap (λ (l : List ℕ). 9 ∷ (n ++ (l ++ last))) b ∙ ap (λ (l : List ℕ). 9 ∷ (n ++ (column ++ l))) d
    ∙ ap (λ (l : List ℕ). 9 ∷ l) (sym (append_assoc n column (flat_map (le_bytes 4) (lows ids))))
