-- What the calls on wide sets return.
use Rattle.std.specs.Prelude.{◌≡◌, ℕ, ◌+◌, ◌<◌, ◌≤◌, ℤ, pos, negsuc, List, length, Option, Some, None, Result, Ok, Err}
use Rattle.bitpack_queries.specs.declared.step.Step.{Step}
use Rattle.bitpack_queries.specs.declared.step.Step.TheVariants.{Combine, Set}
use Rattle.bitpack_slices.specs.declared.operation.Operation.{Operation}
use Rattle.bitpack_wide.specs.Combined.{PutsWide, answer}
use Rattle.bitpack_wide.specs.declared.wide_error.WideError.{WideError}
use Rattle.bitpack_wide.specs.declared.wide_error.WideError.TheVariants.{NotSorted, Short}
use Rattle.bitpack_wide.specs.Errors.{number_of_error}
use Rattle.bitpack_wide.specs.Wide.{IsWide, encoding}
use Rattle.bitpack_wide.specs.Written.{MeasuresWide, WritesWide}
use Rattle.bitpacking_c.specs.ManySets.{WritesIds}

-- the bytes are the encoding of these ids
abbrev pub EncodesWide : List ℕ → List ℕ → Type 0
EncodesWide bytes ids = IsWide ids × (encoding ids ≡ bytes)

-- the number of a fault of bytes: -20 less the fault's own number; 0 is no fault
abbrev pub wide_fault_number : Option WideError → ℤ
wide_fault_number None = pos 0
wide_fault_number (Some fault) = negsuc (19 + number_of_error fault)

-- the number of a result: the length, -3 for a short buffer, or the number of the fault
abbrev pub number_of_wide : Result ℕ WideError → ℤ
number_of_wide (Ok size) = pos size
number_of_wide (Err Short) = negsuc 2
number_of_wide (Err fault) = wide_fault_number (Some fault)

-- the position after the call: the position of an id that is not above the one before, and else the one before the call
abbrev pub position_after_wide : ℕ → Result ℕ WideError → ℕ
position_after_wide before (Err (NotSorted position)) = position
position_after_wide before answer = before

-- the number and the position stand for a result with this meaning
abbrev pub AnswersWide : ℤ → ℕ → ℕ → (Result ℕ WideError → Type 0) → Type 0
AnswersWide number before after Means = (answer : Result ℕ WideError) × (number ≡ number_of_wide answer) × (after ≡ position_after_wide before answer) × Means answer

-- the ids are measured; or work space for `space` numbers is too little
pub record MeasuresIn (ids : List ℕ) (space : ℕ) (answer : Result ℕ WideError) : Type 0 where
  pub enough : length ids ≤ space → MeasuresWide ids answer
  pub short : space < length ids → answer ≡ Err Short

-- the encoding of the ids is written, or they are refused, or there is no room; or work space for `space` numbers is too little, and nothing changed
pub record WritesIn (ids : List ℕ) (space : ℕ) (old new : List ℕ) (answer : Result ℕ WideError) : Type 0 where
  pub enough : length ids ≤ space → WritesWide ids answer old new
  pub short : space < length ids → (answer ≡ Err Short) × (new ≡ old)

-- so it is written; the number and the position stand for this
abbrev pub PacksWide : List ℕ → ℕ → List ℕ → List ℕ → ℕ → ℕ → ℤ → Type 0
PacksWide ids space old new before after number = AnswersWide number before after (WritesIn ids space old new)

-- ---- operations on two wide sets: the step is no operation, the number says so, and nothing is written

-- or the ids that the operation gives are written; or work space for `space` numbers is too little
pub record ListsWide (step : Step) (xs ys : List ℕ) (space : ℕ) (old new : List ℕ) (number : ℤ) : Type 0 where
  pub unknown : (set : ℕ) → step ≡ Set set → (number ≡ negsuc 22) × (new ≡ old)
  pub known : (operation : Operation) → step ≡ Combine operation → length old ≤ space → WritesIds (answer operation xs ys) old new number
  pub short : (operation : Operation) → step ≡ Combine operation → space < length old → (number ≡ negsuc 2) × (new ≡ old)

-- or the number is how many ids the operation gives
pub record CountsWide (step : Step) (xs ys : List ℕ) (number : ℤ) : Type 0 where
  pub unknown : (set : ℕ) → step ≡ Set set → number ≡ negsuc 22
  pub known : (operation : Operation) → step ≡ Combine operation → number ≡ pos (length (answer operation xs ys))

-- or the number stands for the set that the operation gives, with work space for `room` ids; or work space for `space` numbers is too little
pub record CombinesWide (step : Step) (xs ys : List ℕ) (room space : ℕ) (old new : List ℕ) (number : ℤ) : Type 0 where
  pub unknown : (set : ℕ) → step ≡ Set set → (number ≡ negsuc 22) × (new ≡ old)
  pub known : (operation : Operation) → step ≡ Combine operation → room ≤ space → (written : Result ℕ WideError) × (number ≡ number_of_wide written) × PutsWide room (answer operation xs ys) written old new
  pub short : (operation : Operation) → step ≡ Combine operation → space < room → (number ≡ negsuc 2) × (new ≡ old)
