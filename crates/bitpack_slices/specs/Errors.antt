-- What a call returns that refuses bytes, or ids.
use Rattle.std.specs.Prelude.{◌≡◌, ℕ, Option, Some, None, Result, Ok, Err}
use Rattle.bitpack_slices.specs.declared.set_error.SetError.{SetError}
use Rattle.bitpack_slices.specs.declared.set_error.SetError.TheVariants.{Short, BadVersion, TooLong, BadWidth, LooseWidth, BadOffset, NotSorted, Trailing, Memory, BadNumber, Padding, BadSizes, BadKey, BadSum, BadBody, LooseBody, LooseForm}

-- the number of a refusal
abbrev pub number_of_error : SetError → ℕ
number_of_error Short = 1
number_of_error (BadVersion byte) = 2
number_of_error (TooLong count) = 5
number_of_error (BadWidth group width) = 6
number_of_error (LooseWidth group width) = 7
number_of_error (BadOffset chunk) = 8
number_of_error (NotSorted position) = 10
number_of_error Trailing = 11
number_of_error Memory = 12
number_of_error BadNumber = 13
number_of_error Padding = 14
number_of_error (BadSizes byte) = 16
number_of_error (BadKey chunk) = 18
number_of_error (BadSum chunk) = 19
number_of_error (BadBody chunk) = 20
number_of_error (LooseBody chunk) = 21
number_of_error LooseForm = 22

-- a test finds the fault that there is, if there is one
abbrev pub Finds : {A : Type 0} → Result A SetError → Option SetError → Type 0
Finds (Ok _) fault = fault ≡ None
Finds (Err found) fault = fault ≡ Some found
