-- What the calls on builders of columns return, and what they leave in the caller's buffer.
use Rattle.std.specs.Prelude.{◌≡◌, ℕ, List, [], drop, length, take, Result, IfOk}
use Rattle.bitpack_columns.specs.Builders.{Pushes}
use Rattle.bitpack_columns.specs.declared.column_error.ColumnError.{ColumnError}
use Rattle.bitpack_columns.specs.declared.column_error.ColumnError.TheVariants.{Short}
use Rattle.bitpacking_c.specs.declared.column_builder.ColumnBuilder.{ColumnBuilder}
use Rattle.bitpacking_c.specs.Columns.{known_kind}

-- the values that were pushed: the first of the buffer
abbrev pub pushed_to : ColumnBuilder → List ℕ
pushed_to builder = take builder.count builder.values.now

-- a builder of a column of this kind, without values, over this buffer
pub record StartsColumn (kind : ℕ) (buffer : List ℕ) (builder : ColumnBuilder) : Type 0 where
  pub kind_is : builder.kind ≡ kind
  pub none : pushed_to builder ≡ []
  pub same : builder.values.now ≡ buffer

-- values were pushed, or refused, and then nothing changed; the result is how many values the builder has then
pub record PushesColumn (old new : ColumnBuilder) (pushed : List ℕ) (answer : Result ℕ ColumnError) : Type 0 where
  pub pushes : Pushes Short (known_kind old.kind) (length old.values.now) (pushed_to old) pushed (pushed_to new) answer
  pub count : IfOk answer (λ count. count ≡ length (pushed_to new))
  pub kind : new.kind ≡ old.kind
  pub rest : drop (length (pushed_to new)) new.values.now ≡ drop (length (pushed_to new)) old.values.now
