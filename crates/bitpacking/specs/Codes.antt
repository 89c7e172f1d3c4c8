-- The codes of a block: what is packed instead of its values.
use Rattle.std.specs.Prelude.{ℕ, ◌^◌, ◌<◌, List, map, All, unwrap_or}
use Rattle.bitpacking_register.specs.Words.{wrapping_sum, wrapping_difference}
use Rattle.bitpacking_register.specs.Deltas.{differences, running_sums}
use Rattle.bitpacking.specs.declared.kind.Kind.{Kind}
use Rattle.bitpacking.specs.declared.kind.Kind.TheVariants.{Plain, Sorted, StrictlySorted}

-- each number of the list is a u32
abbrev pub AreWords : List ℕ → Type 0
AreWords values = All (λ value. value < 2 ^ 32) values

-- the value before the block: `None` means `u32::MAX`, and a plain block uses none
abbrev pub start : Kind → ℕ
start Plain = 0
start (Sorted initial) = initial
start (StrictlySorted initial) = unwrap_or initial 4294967295

-- one less and one more, modulo 2 ^ 32
abbrev pub one_less : ℕ → ℕ
one_less code = wrapping_difference code 1

abbrev pub one_more : ℕ → ℕ
one_more code = wrapping_sum code 1

-- a plain block's values; a sorted block's differences, each value less the one before it; a strict block's, each one less
abbrev pub codes : Kind → List ℕ → List ℕ
codes Plain block = block
codes (Sorted initial) block = differences (start (Sorted initial)) block
codes (StrictlySorted initial) block = map one_less (differences (start (StrictlySorted initial)) block)

-- the block that has these codes
abbrev pub values_of : Kind → List ℕ → List ℕ
values_of Plain codes = codes
values_of (Sorted initial) codes = running_sums (start (Sorted initial)) codes
values_of (StrictlySorted initial) codes = running_sums (start (StrictlySorted initial)) (map one_more codes)
