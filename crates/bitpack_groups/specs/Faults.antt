-- What a test finds.
use Rattle.std.specs.Prelude.{◌≡◌, Option, Some, None, Result, Ok, Err}

-- a test finds the fault that there is, if there is one
abbrev pub FindsFault : {A E : Type 0} → Result A E → Option E → Type 0
FindsFault (Ok _) fault = fault ≡ None
FindsFault (Err found) fault = fault ≡ Some found
