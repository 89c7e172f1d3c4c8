-- What a writer of wide sets refuses, and what it leaves.
use Rattle.std.specs.Prelude.{◌≡◌, ℕ, ◌+◌, ◌^◌, ◌<◌, ◌++◌, nat_lt, if◌then◌else◌, List, drop, length, Option, Some, None, Result, Err, IfErr, IfOk, IsOk, MatchOption, OnErr, OnOk, vec_len, vec_capacity}
use Rattle.std.specs.Option.{option_map}
use Rattle.std.specs.declared.vec.Vec.{Vec}
use Rattle.bitpack_slices.specs.Slices.{first_fall}
use Rattle.bitpack_wide.specs.declared.wide_error.WideError.{WideError}
use Rattle.bitpack_wide.specs.declared.wide_error.WideError.TheVariants.{Memory, NotSorted, Short, TooLong}
use Rattle.bitpack_wide.specs.Wide.{IsWide, encoding}

-- why a writer refuses ids: they are too many, or one is not above the one before
abbrev pub refusal : List ℕ → Option WideError
refusal ids = if nat_lt (2 ^ 28) (length ids) then Some (TooLong (length ids)) else option_map NotSorted (first_fall 0 ids)

-- the length of the encoding of a set; or the ids are none
pub record MeasuresWide (ids : List ℕ) (result : Result ℕ WideError) : Type 0 where
  pub set : OnOk result (IsWide ids)
  pub len : IfOk result (λ len. len ≡ length (encoding ids))
  pub fault : MatchOption (refusal ids) (IsOk result) (λ fault. result ≡ Err fault)

-- the encoding of a set is written, and what is after it is unchanged; or the ids are none, or the slice is too short, and nothing changed
pub record WritesWide (ids : List ℕ) (result : Result ℕ WideError) (old new : List ℕ) : Type 0 where
  pub set : OnOk result (IsWide ids)
  pub len : IfOk result (λ len. len ≡ length (encoding ids))
  pub ok : OnOk result (new ≡ encoding ids ++ drop (length (encoding ids)) old)
  pub fault : MatchOption (refusal ids) (IfErr result (λ e. e ≡ Short)) (λ fault. result ≡ Err fault)
  pub room : refusal ids ≡ None → OnErr result (length old < length (encoding ids))
  pub unchanged : OnErr result (new ≡ old)

-- the encoding of a set is appended; or the ids are none, or the vector has no room and memory runs out, and nothing changed
pub record AppendsWide {A : Type 0} (ids : List ℕ) (result : Result (Unit {0}) WideError) (old new : Vec ℕ A) : Type 0 where
  pub set : OnOk result (IsWide ids)
  pub ok : OnOk result (new.items ≡ old.items ++ encoding ids)
  pub fault : MatchOption (refusal ids) (IfErr result (λ e. e ≡ Memory)) (λ fault. result ≡ Err fault)
  pub room : refusal ids ≡ None → OnErr result (vec_capacity old < vec_len old + length (encoding ids))
  pub unchanged : OnErr result (new.items ≡ old.items)
  pub capacity : OnErr result (vec_capacity new ≡ vec_capacity old)
