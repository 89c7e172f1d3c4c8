-- What a writer of columns refuses, what it measures, and what it leaves.
use Rattle.std.specs.Prelude.{◌≡◌, ℕ, ◌+◌, ◌^◌, ◌<◌, ◌++◌, nat_lt, if◌then◌else◌, List, drop, map, length, slice_index, Option, Some, None, Result, Err, IfErr, IfOk, IsOk, MatchOption, OnErr, OnOk, vec_len, vec_capacity}
use Rattle.std.specs.Option.{option_map, option_or}
use Rattle.std.specs.declared.vec.Vec.{Vec}
use Rattle.bitpack_columns.specs.declared.column_error.ColumnError.{ColumnError}
use Rattle.bitpack_columns.specs.declared.column_error.ColumnError.TheVariants.{Memory, NotSorted, Overflow, Short, TooLong}
use Rattle.bitpack_columns.specs.declared.column_kind.ColumnKind.{ColumnKind}
use Rattle.bitpack_columns.specs.Columns.{IsColumn, encoding}
use Rattle.bitpack_columns.specs.Faults.{first_of, first_out}

-- why a writer refuses values: they are too many, or in a sorted column one is below the one before
abbrev pub refusal : ColumnKind → List ℕ → Option ColumnError
refusal kind values =
    if nat_lt (2 ^ 28) (length values) then Some (TooLong (length values)) else option_map NotSorted (first_out kind (slice_index values 0) values)

-- the length of the encoding of a column; or the values are none
pub record MeasuresColumn (kind : ColumnKind) (values : List ℕ) (result : Result ℕ ColumnError) : Type 0 where
  pub column : OnOk result (IsColumn kind values)
  pub len : IfOk result (λ len. len ≡ length (encoding kind values))
  pub fault : MatchOption (refusal kind values) (IsOk result) (λ fault. result ≡ Err fault)

-- the encoding of a column is written, and what is after it is unchanged; or a fault refuses the values, or the slice is too short, and
-- nothing changed
pub record WritesUnless (refused : Option ColumnError) (kind : ColumnKind) (values : List ℕ) (result : Result ℕ ColumnError) (old new : List ℕ) : Type 0 where
  pub column : OnOk result (IsColumn kind values)
  pub len : IfOk result (λ len. len ≡ length (encoding kind values))
  pub ok : OnOk result (new ≡ encoding kind values ++ drop (length (encoding kind values)) old)
  pub fault : MatchOption refused (IfErr result (λ e. e ≡ Short)) (λ fault. result ≡ Err fault)
  pub room : refused ≡ None → OnErr result (length old < length (encoding kind values))
  pub unchanged : OnErr result (new ≡ old)

abbrev pub WritesColumn : ColumnKind → List ℕ → Result ℕ ColumnError → List ℕ → List ℕ → Type 0
WritesColumn kind values = WritesUnless (refusal kind values) kind values

-- the encoding of a column is appended; or the values are none, or the vector has no room and memory runs out, and nothing changed
pub record AppendsColumn {A : Type 0} (kind : ColumnKind) (values : List ℕ) (result : Result (Unit {0}) ColumnError) (old new : Vec ℕ A) : Type 0 where
  pub column : OnOk result (IsColumn kind values)
  pub ok : OnOk result (new.items ≡ old.items ++ encoding kind values)
  pub fault : MatchOption (refusal kind values) (IfErr result (λ e. e ≡ Memory)) (λ fault. result ≡ Err fault)
  pub room : refusal kind values ≡ None → OnErr result (vec_capacity old < vec_len old + length (encoding kind values))
  pub unchanged : OnErr result (new.items ≡ old.items)
  pub capacity : OnErr result (vec_capacity new ≡ vec_capacity old)

-- ---- the values of a column and of another one after it, each of these with a base added

abbrev pub raised : ℕ → List ℕ → List ℕ
raised base values = map (λ value. base + value) values

-- a value is no word with the base added; and the first that is not, by its position in the other column
abbrev pub overflow_at : ℕ → List ℕ → ℕ → Option ColumnError
overflow_at base other k = if nat_lt (base + slice_index other k) (2 ^ 32) then None else Some (Overflow k)

abbrev pub overflow : ℕ → List ℕ → Option ColumnError
overflow base other = first_of (overflow_at base other) (length other)

-- why a writer refuses both columns as one
abbrev pub joined_refusal : ColumnKind → List ℕ → ℕ → List ℕ → Option ColumnError
joined_refusal kind values base other = option_or (overflow base other) (refusal kind (values ++ raised base other))
