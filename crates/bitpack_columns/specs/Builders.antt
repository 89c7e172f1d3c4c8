-- What a builder holds of a column, and what pushing values does to it.
use Rattle.std.specs.Prelude.{◌≡◌, ℕ, ◌+◌, ◌<◌, List, ◌++◌, length, None, Result, Err, IfErr, MatchOption, OnErr, OnOk, vec_capacity}
use Rattle.bitpack_columns.specs.declared.column_builder.ColumnBuilder.{ColumnBuilder}
use Rattle.bitpack_columns.specs.declared.column_error.ColumnError.{ColumnError}
use Rattle.bitpack_columns.specs.declared.column_kind.ColumnKind.{ColumnKind}
use Rattle.bitpack_columns.specs.Written.{refusal}

-- its kind, and the values so far
abbrev pub kind_of_builder : ColumnBuilder → ColumnKind
kind_of_builder builder = builder.kind

abbrev pub values_of_builder : ColumnBuilder → List ℕ
values_of_builder builder = builder.values.items

-- how many values there is room for before the vector has to grow
abbrev pub room_of_builder : ColumnBuilder → ℕ
room_of_builder builder = vec_capacity builder.values

-- the pushed values follow those before; or with them the values are no column, which is returned, or there is no room; and nothing changed
pub record Pushes {X : Type 0} (no_room : ColumnError) (kind : ColumnKind) (room : ℕ) (before pushed after : List ℕ) (result : Result X ColumnError) : Type 0 where
  pub ok : OnOk result (after ≡ before ++ pushed)
  pub fault : MatchOption (refusal kind (before ++ pushed)) (IfErr result (λ e. e ≡ no_room)) (λ fault. result ≡ Err fault)
  pub room_lacks : refusal kind (before ++ pushed) ≡ None → OnErr result (room < length before + length pushed)
  pub unchanged : OnErr result (after ≡ before)
