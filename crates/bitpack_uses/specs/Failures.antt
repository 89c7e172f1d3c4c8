-- How calls fail: with a fault, or else only if memory runs out.
use Rattle.std.specs.Prelude.{◌≡◌, ℕ, ◌^◌, nat_lt, if◌then◌else◌, List, length, Option, Some, None, Result, Err, IfErr}
use Rattle.std.specs.Option.{option_map}
use Rattle.bitpack_lists.specs.declared.list_error.ListError.{ListError}
use Rattle.bitpack_lists.specs.declared.list_error.ListError.TheVariants.{Memory, NotSorted, TooLong}
use Rattle.bitpack_lists.specs.declared.list_kind.ListKind.{ListKind}
use Rattle.bitpack_lists.specs.Version2.{first_out}

-- it fails with the fault, if there is one, and otherwise with `Memory` or not at all
abbrev pub FailsWith : {A : Type 0} → Option ListError → Result A ListError → Type 0
FailsWith None result = IfErr result (λ e. e ≡ Memory)
FailsWith (Some fault) result = result ≡ Err fault

-- the first fault of values that are to be written: they are too many, or out of order
unfoldable pub values_fault : ListKind → List ℕ → Option ListError
values_fault kind values =
    if nat_lt (2 ^ 28) (length values) then Some (TooLong (length values)) else option_map NotSorted (first_out kind values)
