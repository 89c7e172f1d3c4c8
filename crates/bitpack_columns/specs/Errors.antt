-- What a call returns that refuses bytes, or values.
use Rattle.std.specs.Prelude.{◌≡◌, ℕ, Option, Some, None, Result, Ok, Err}
use Rattle.bitpack_columns.specs.declared.column_error.ColumnError.{ColumnError}
use Rattle.bitpack_columns.specs.declared.column_error.ColumnError.TheVariants.{Short, BadVersion, TooLong, BadWidth, LooseWidth, BadOffset, BadLast, NotSorted, Trailing, Memory, BadNumber, Padding, WrongKind, BadSizes, Overflow}

-- the number of a refusal
abbrev pub number_of_error : ColumnError → ℕ
number_of_error Short = 1
number_of_error (BadVersion byte) = 2
number_of_error (TooLong count) = 5
number_of_error (BadWidth block width) = 6
number_of_error (LooseWidth block width) = 7
number_of_error (BadOffset block) = 8
number_of_error (BadLast block) = 9
number_of_error (NotSorted position) = 10
number_of_error Trailing = 11
number_of_error Memory = 12
number_of_error BadNumber = 13
number_of_error Padding = 14
number_of_error (WrongKind found wanted) = 15
number_of_error (BadSizes byte) = 16
number_of_error (Overflow position) = 23

-- a test finds the fault that there is, if there is one
abbrev pub Finds : {A : Type 0} → Result A ColumnError → Option ColumnError → Type 0
Finds (Ok _) fault = fault ≡ None
Finds (Err found) fault = fault ≡ Some found
