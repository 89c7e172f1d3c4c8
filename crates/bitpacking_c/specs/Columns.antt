-- What the calls on columns return. A view without bytes is the empty plain column.
use Rattle.std.specs.Prelude.{◌≡◌, ℕ, ◌+◌, ◌/◌, ◌<◌, ◌≤◌, ℤ, pos, negsuc, ◌==◌, if◌then◌else◌, List, ◌++◌, length, Option, Some, None, Result, Ok, Err}
use Rattle.bitpack_columns.specs.declared.column_error.ColumnError.{ColumnError}
use Rattle.bitpack_columns.specs.declared.column_error.ColumnError.TheVariants.{NotSorted, Overflow, Short}
use Rattle.bitpack_columns.specs.declared.column_kind.ColumnKind.{ColumnKind}
use Rattle.bitpack_columns.specs.declared.column_kind.ColumnKind.TheVariants.{Plain, Sorted}
use Rattle.bitpack_columns.specs.Columns.{IsColumn, encoding}
use Rattle.bitpack_columns.specs.Errors.{number_of_error}
use Rattle.bitpack_columns.specs.Ranges.{AreBounds, first_from}
use Rattle.bitpack_columns.specs.Stated.{kind_in, values_in}
use Rattle.bitpack_columns.specs.Written.{MeasuresColumn, WritesColumn, WritesUnless, joined_refusal, raised}
use Rattle.bitpacking_c.specs.Views.{WritesFound}

-- the bytes are the encoding of the column that they state
abbrev pub EncodeColumn : List ℕ → Type 0
EncodeColumn bytes = IsColumn (kind_in bytes) (values_in bytes) × (encoding (kind_in bytes) (values_in bytes) ≡ bytes)

-- the kind with a number, which is 0 or 1
abbrev pub known_kind : ℕ → ColumnKind
known_kind number = if number == 0 then Plain else Sorted

-- ---- numbers

-- the number of a fault of bytes: -20 less the fault's own number; 0 is no fault
abbrev pub column_fault_number : Option ColumnError → ℤ
column_fault_number None = pos 0
column_fault_number (Some fault) = negsuc (19 + number_of_error fault)

-- the number of a result: the length, -3 for a short buffer, -7 for a value that passes 32 bits, or the number of the fault
abbrev pub number_of_column : Result ℕ ColumnError → ℤ
number_of_column (Ok size) = pos size
number_of_column (Err Short) = negsuc 2
number_of_column (Err (Overflow position)) = negsuc 6
number_of_column (Err fault) = column_fault_number (Some fault)

-- the position after the call: the position of a value out of order or above 32 bits, and else the one before the call
abbrev pub position_after_column : ℕ → Result ℕ ColumnError → ℕ
position_after_column before (Err (NotSorted position)) = position
position_after_column before (Err (Overflow position)) = position
position_after_column before answer = before

-- the number stands for a result with this meaning
abbrev pub NumbersColumn : ℤ → (Result ℕ ColumnError → Type 0) → Type 0
NumbersColumn number Means = (answer : Result ℕ ColumnError) × (number ≡ number_of_column answer) × Means answer

-- the number and the position stand for a result with this meaning
abbrev pub AnswersColumn : ℤ → ℕ → ℕ → (Result ℕ ColumnError → Type 0) → Type 0
AnswersColumn number before after Means = NumbersColumn number (λ answer. (after ≡ position_after_column before answer) × Means answer)

-- ---- calls

-- the encoding of the values is written, or they are refused, or there is no room; if there is no such kind, the result is -23, and nothing is
-- written
pub record PacksColumn (kind : ℕ) (values old new : List ℕ) (before after : ℕ) (number : ℤ) : Type 0 where
  pub unknown : 1 < kind → (number ≡ negsuc 22) × (new ≡ old) × (after ≡ before)
  pub packs : kind ≤ 1 → AnswersColumn number before after (λ answer. WritesColumn (known_kind kind) values answer old new)

-- the result is the length of the encoding of the values, or they are refused; if there is no such kind, the result is -23
pub record SizesColumn (kind : ℕ) (values : List ℕ) (before after : ℕ) (number : ℤ) : Type 0 where
  pub unknown : 1 < kind → (number ≡ negsuc 22) × (after ≡ before)
  pub size : kind ≤ 1 → AnswersColumn number before after (MeasuresColumn (known_kind kind) values)

-- a column and the values of another, each with a base added, are written as one, or they are refused, or there is no room; without work space
-- for the values of the other the result is -3, and nothing is written
pub record JoinsColumn (kind : ColumnKind) (values : List ℕ) (base : ℕ) (others : List ℕ) (room : ℕ) (old new : List ℕ) (before after : ℕ) (number : ℤ) : Type 0 where
  pub short : room < length others → (number ≡ negsuc 2) × (new ≡ old) × (after ≡ before)
  pub joins : length others ≤ room → AnswersColumn number before after
      (λ answer. WritesUnless (joined_refusal kind values base others) kind (values ++ raised base others) answer old new)

-- the first value that is at least the target is found, with its position; for a plain column the result is -23 and nothing is written
abbrev pub SeeksColumn : ColumnKind → List ℕ → ℕ → ℕ × ℕ → ℕ × ℕ → ℤ → Type 0
SeeksColumn Plain values target before after answer = (answer ≡ negsuc 22) × (after ≡ before)
SeeksColumn Sorted values target before after answer = WritesFound (first_from target 0 values) before after answer

-- bounds of a whole block are written and the result is 0; or there is no such block, the result is -6 and nothing is written
pub record BoundsColumn (kind : ColumnKind) (all : List ℕ) (block : ℕ) (before after : ℕ × ℕ) (answer : ℤ) : Type 0 where
  pub beyond : length all / 128 ≤ block → (answer ≡ negsuc 5) × (after ≡ before)
  pub bounds : block < length all / 128 → (answer ≡ pos 0) × AreBounds kind all block after.0 after.1
