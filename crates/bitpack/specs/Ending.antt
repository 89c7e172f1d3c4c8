-- The exit status of the program and its message on standard error.
use Rattle.std.specs.Prelude.{ℕ, List, [], codes, Result, Ok, Err}
use Rattle.bitpack.specs.declared.run_error.RunError.{RunError}
use Rattle.bitpack.specs.declared.run_error.RunError.TheVariants.{Read, Write, Memory}

abbrev pub ending_status : Result (Unit {0}) RunError → ℕ
ending_status (Ok _) = 0
ending_status (Err _) = 1

abbrev pub ending_message : Result (Unit {0}) RunError → List ℕ
ending_message (Ok _) = []
ending_message (Err Read) = codes "bitpack: read failed"
ending_message (Err Write) = codes "bitpack: write failed"
ending_message (Err Memory) = codes "bitpack: out of memory"
