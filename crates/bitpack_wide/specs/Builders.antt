-- What a builder holds of a wide set, and what pushing ids does to it.
use Rattle.std.specs.Prelude.{◌≡◌, ℕ, ◌+◌, ◌<◌, List, ◌++◌, length, None, Result, Err, IfErr, MatchOption, OnErr, OnOk, vec_capacity}
use Rattle.bitpack_wide.specs.declared.wide_set_builder.WideSetBuilder.{WideSetBuilder}
use Rattle.bitpack_wide.specs.declared.wide_error.WideError.{WideError}
use Rattle.bitpack_wide.specs.declared.wide_error.WideError.TheVariants.{Memory}
use Rattle.bitpack_wide.specs.Written.{refusal}

-- the ids so far
abbrev pub ids_of_builder : WideSetBuilder → List ℕ
ids_of_builder builder = builder.ids.items

-- how many ids there is room for before the vector has to grow
abbrev pub room_of_builder : WideSetBuilder → ℕ
room_of_builder builder = vec_capacity builder.ids

-- the pushed ids follow those before; or with them the ids have a fault, which is returned, or there is no room; and nothing changed
pub record Pushes {X : Type 0} (room : ℕ) (before pushed after : List ℕ) (result : Result X WideError) : Type 0 where
  pub ok : OnOk result (after ≡ before ++ pushed)
  pub fault : MatchOption (refusal (before ++ pushed)) (IfErr result (λ e. e ≡ Memory)) (λ fault. result ≡ Err fault)
  pub room_lacks : refusal (before ++ pushed) ≡ None → OnErr result (room < length before + length pushed)
  pub unchanged : OnErr result (after ≡ before)
