-- Tests one after the other.
use Rattle.std.proofs.Common.{◌≡◌, Bool, true, false, ◌&&◌, Option, Some, None, refl, ap}
use Rattle.std.specs.Option.{option_or}
use Rattle.bitpack_wide.specs.declared.wide_column_error.WideColumnError.{WideColumnError}

pub first_no : (a b : Bool) → a ≡ false → (a && b) ≡ false
first_no a b e = ap (λ (x : Bool). x && b) e

pub later_no : (a b : Bool) → b ≡ false → (a && b) ≡ false
later_no true b e = e
later_no false b e = refl

pub or_assoc : (a b c : Option WideColumnError) → option_or a (option_or b c) ≡ option_or (option_or a b) c
or_assoc None b c = refl
or_assoc (Some e) b c = refl
