-- A block has as many codes as values: what each kind of `Transformer` proves as its law.
use Rattle.std.proofs.Common.{◌≡◌, ℕ, List, [], ◌∷◌, length, map, suc, refl, ◌∙◌, ap}
use Rattle.std.proofs.lemmas.List.{length-map}
use Rattle.bitpacking_register.specs.Deltas.{differences}
use Rattle.bitpacking.specs.Codes.{one_less}

pub length-differences : (before : ℕ) (values : List ℕ) → length (differences before values) ≡ length values
length-differences before [] = refl
length-differences before (value ∷ values) = ap suc (length-differences value values)

pub length-strict : (before : ℕ) (values : List ℕ) → length (map one_less (differences before values)) ≡ length values
length-strict before values = length-map (differences before values) one_less ∙ length-differences before values
