-- The pushed ids follow those before in the buffer.
use borrow.Rule.Slice.PartMut.{put_mid}
use Rattle.std.proofs.Common.{◌≡◌, ◌+◌, ◌-◌, ℕ, List, ◌++◌, drop, length, take, None, Some, Ok, Err, IfErr, MatchOption, Option, Result, refl, subst, ◌∙◌, ap, arith}
use Rattle.std.proofs.lemmas.List.{length-append, length-take-le}
use Rattle.std.proofs.lemmas.Slice.{drop-put_mid, take-put_mid}
use Rattle.bitpack_slices.specs.declared.set_error.SetError.{SetError}
use Rattle.bitpack_slices.specs.declared.set_error.SetError.TheVariants.{Short}
use Rattle.bitpack_sets.specs.Written.{refusal}
use Rattle.bitpacking_c.proofs.set_builder.SetBuilder.extend.Goals as goal

no_fault : (found : Option SetError) (answer : Result ℕ SetError) (n : ℕ) → answer ≡ Ok n → found ≡ None
    → MatchOption found (IfErr answer (λ e. e ≡ Short)) (λ fault. answer ≡ Err fault)
no_fault None (Ok x) n e none = tt
no_fault None (Err x) n e none = absurd cc
no_fault (Some fault) answer n e none = absurd cc

pub returns-clause-pushes : goal.returns-clause-pushes
returns-clause-pushes c =
    let builder = c.args.self.now in
    let pushed : List ℕ = c.args.pushed.now in
    let buffer : List ℕ = builder.ids.now in
    let so_far : List ℕ = take builder.count buffer in
    let long : length so_far ≡ builder.count = length-take-le builder.count buffer builder.within in
    let right : refusal (so_far ++ pushed) ≡ None = c.in_ok-test_pushed.ensures.fault in
    let end : ℕ = builder.count + length pushed in
    let now : List ℕ = put_mid builder.count (end - builder.count) buffer c.copy_from_slice.new.self in
    let size : length c.copy_from_slice.new.self ≡ length pushed = ap length c.copy_from_slice.ensures.after in
    let whole : take end now ≡ so_far ++ pushed =
    take-put_mid builder.count (end - builder.count) buffer c.copy_from_slice.new.self end (omega (arith, size)) builder.within
    ∙ ap (λ ys. so_far ++ ys) c.copy_from_slice.ensures.after in
    let count : end ≡ length (take end now) = omega (arith, ap length whole, length-append so_far pushed, long) in
    let later : drop end now ≡ drop end buffer =
    drop-put_mid builder.count (end - builder.count) buffer c.copy_from_slice.new.self end (omega arith) builder.within (omega (arith, size)) in
    record {
      ok = whole;
      count = count;
      fault = no_fault (refusal (so_far ++ pushed)) (Ok end) end refl right;
      room_lacks = λ none. tt;
      unchanged = tt;
      rest = subst (λ n. drop n now ≡ drop n buffer) count later;
    }
