-- What the calls on a set and the ids of an array return.
use Rattle.std.specs.Prelude.{◌≡◌, ◌≢◌, ℕ, ◌<◌, ◌≤◌, ℤ, pos, negsuc, Bool, None, List, drop, length, take, Result, Err, IfErr, IfOk, MatchOption, OnErr}
use Rattle.std.specs.List.{filter}
use Rattle.bitpack_slices.specs.declared.operation.Operation.TheVariants.{Or}
use Rattle.bitpack_slices.specs.declared.set_error.SetError.{SetError}
use Rattle.bitpack_slices.specs.declared.set_error.SetError.TheVariants.{NotSorted, Short}
use Rattle.bitpack_slices.specs.Operations.{answer}
use Rattle.bitpack_slices.specs.Slices.{first_fall}
use Rattle.bitpacking_c.specs.IdSets.{NumbersSet}

-- the ids do not increase, the result is -30 and nothing was written; or those that pass a test were moved to the front, in their order, and
-- their number is the result
pub record RetainsIds (test : ℕ → Bool) (before after : List ℕ) (number : ℤ) : Type 0 where
  pub falls : first_fall 0 before ≢ None → (number ≡ negsuc 29) × (after ≡ before)
  pub count : first_fall 0 before ≡ None → number ≡ pos (length (filter test before))
  pub retained : first_fall 0 before ≡ None → take (length (filter test before)) after ≡ filter test before

-- the first `count` ids and the ids of a set, each once
abbrev pub united : ℕ → List ℕ → List ℕ → List ℕ
united count before ids = answer Or (take count before) ids

-- these are in front, and nothing after them changed; or the first `count` ids do not increase, or there is no room, and nothing was written
pub record UnitesIds (ids : List ℕ) (count : ℕ) (before after : List ℕ) (result : Result ℕ SetError) : Type 0 where
  pub fault : MatchOption (first_fall 0 (take count before)) (IfErr result (λ e. e ≡ Short)) (λ position. result ≡ Err (NotSorted position))
  pub count_is : IfOk result (λ len. len ≡ length (united count before ids))
  pub front : IfOk result (λ len. take len after ≡ united count before ids)
  pub rest : IfOk result (λ len. drop len after ≡ drop len before)
  pub room : first_fall 0 (take count before) ≡ None → OnErr result (length before < length (united count before ids))
  pub unchanged : OnErr result (after ≡ before)

-- the number stands for this; or the array has fewer than `count` ids, the result is -3, and nothing was written
pub record AddsIds (ids : List ℕ) (count : ℕ) (before after : List ℕ) (number : ℤ) : Type 0 where
  pub beyond : length before < count → (number ≡ negsuc 2) × (after ≡ before)
  pub adds : count ≤ length before → NumbersSet number (UnitesIds ids count before after)
