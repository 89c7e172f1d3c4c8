-- The number of a refusal.
use Rattle.std.specs.Prelude.{ℕ}
use Rattle.bitpack_columns.specs.Errors as columns
use Rattle.bitpack_wide.specs.declared.wide_error.WideError.{WideError}
use Rattle.bitpack_wide.specs.declared.wide_error.WideError.TheVariants.{Short, BadVersion, BadKind, TooLong, BadOffset, NotSorted, Trailing, Memory, BadNumber, BadSizes, BadKey, BadSum, BadBody, LooseForm, Column}

abbrev pub number_of_error : WideError → ℕ
number_of_error Short = 1
number_of_error (BadVersion byte) = 2
number_of_error (BadKind kind) = 3
number_of_error (TooLong count) = 5
number_of_error (BadOffset word) = 8
number_of_error (NotSorted position) = 10
number_of_error Trailing = 11
number_of_error Memory = 12
number_of_error BadNumber = 13
number_of_error (BadSizes byte) = 16
number_of_error (BadKey word) = 18
number_of_error (BadSum word) = 19
number_of_error (BadBody word) = 20
number_of_error LooseForm = 22
number_of_error (Column error) = columns.number_of_error error
