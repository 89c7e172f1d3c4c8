-- What the calls on builders of sets return, and what they leave in the caller's buffer.
use Rattle.std.specs.Prelude.{◌≡◌, ℕ, ◌+◌, ◌<◌, List, [], ◌++◌, drop, length, take, None, Result, Err, IfErr, IfOk, MatchOption, OnErr, OnOk}
use Rattle.bitpack_slices.specs.declared.set_error.SetError.{SetError}
use Rattle.bitpack_slices.specs.declared.set_error.SetError.TheVariants.{Short}
use Rattle.bitpack_sets.specs.Written.{refusal}
use Rattle.bitpacking_c.specs.declared.set_builder.SetBuilder.{SetBuilder}

-- the ids that were pushed: the first of the buffer
abbrev pub pushed_to : SetBuilder → List ℕ
pushed_to builder = take builder.count builder.ids.now

-- a builder without ids, over this buffer
pub record StartsSet (buffer : List ℕ) (builder : SetBuilder) : Type 0 where
  pub none : pushed_to builder ≡ []
  pub same : builder.ids.now ≡ buffer

-- ids were pushed; or they are refused, or there is no room, and then nothing changed; the result is how many ids the builder has then
pub record PushesSet (old new : SetBuilder) (pushed : List ℕ) (answer : Result ℕ SetError) : Type 0 where
  pub ok : OnOk answer (pushed_to new ≡ pushed_to old ++ pushed)
  pub count : IfOk answer (λ count. count ≡ length (pushed_to new))
  pub fault : MatchOption (refusal (pushed_to old ++ pushed)) (IfErr answer (λ e. e ≡ Short)) (λ fault. answer ≡ Err fault)
  pub room_lacks : refusal (pushed_to old ++ pushed) ≡ None → OnErr answer (length old.ids.now < length (pushed_to old) + length pushed)
  pub unchanged : OnErr answer (pushed_to new ≡ pushed_to old)
  pub rest : drop (length (pushed_to new)) new.ids.now ≡ drop (length (pushed_to new)) old.ids.now
