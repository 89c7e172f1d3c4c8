-- What a call returns that refuses the bytes of a wide column, or values.
use Rattle.std.specs.Prelude.{ℕ}
use Rattle.bitpack_wide.specs.declared.wide_column_error.WideColumnError.{WideColumnError}
use Rattle.bitpack_wide.specs.declared.wide_column_error.WideColumnError.TheVariants.{Short, BadVersion, TooLong, BadOffset, Trailing, Memory, BadNumber, BadSizes, BadBody, LooseBody, LooseForm}

-- the number of a refusal
abbrev pub number_of_error : WideColumnError → ℕ
number_of_error Short = 1
number_of_error (BadVersion byte) = 2
number_of_error (TooLong count) = 5
number_of_error (BadOffset part) = 8
number_of_error Trailing = 11
number_of_error Memory = 12
number_of_error BadNumber = 13
number_of_error (BadSizes byte) = 16
number_of_error (BadBody part) = 20
number_of_error (LooseBody chunk) = 21
number_of_error LooseForm = 22
