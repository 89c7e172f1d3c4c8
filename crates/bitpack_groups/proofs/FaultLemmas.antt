-- What no fault says of the tests before it, and bytes apart from the first.
use Rattle.std.proofs.Common.{◌≡◌, ℕ, suc, ◌-◌, ◌≤◌, Bool, true, false, cond, List, [], ◌∷◌, length, take, drop, get_or, Option, Some, None, refl, sym, ap, arith}
use Rattle.std.specs.Option.{option_or}
use Rattle.std.proofs.lemmas.List.{take_all}

-- A test that was passed.
pub passed : {A : Type 0} (test : Bool) (fault : A) (rest : Option A) → cond test (Some fault) rest ≡ None → (test ≡ false) × (rest ≡ None)
passed true fault rest e = absurd cc
passed false fault rest e = (refl, e)

pub none_first : {A : Type 0} (one other : Option A) → option_or one other ≡ None → (one ≡ None) × (other ≡ None)
none_first None other e = (refl, e)
none_first (Some x) other e = absurd cc

pub front-is : (bytes : List ℕ) → 1 ≤ length bytes → bytes ≡ get_or bytes 0 0 ∷ take (length bytes - 1) (drop 1 bytes)
front-is [] some = absurd (omega arith)
front-is (byte ∷ bytes) some = ap (λ zs. byte ∷ zs) (sym (take_all (suc (length bytes) - 1) bytes (omega arith)))
