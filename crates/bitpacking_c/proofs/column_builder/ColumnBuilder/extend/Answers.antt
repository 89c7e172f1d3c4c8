-- The pushed values follow those before in the buffer.
use borrow.Rule.Slice.PartMut.{put_mid}
use Rattle.std.proofs.Common.{◌≡◌, ◌+◌, ◌-◌, ℕ, List, ◌++◌, drop, length, take, None, Some, Ok, Err, IfErr, MatchOption, Option, Result, refl, subst, ◌∙◌, ap, arith}
use Rattle.std.proofs.lemmas.List.{length-append, length-take-le}
use Rattle.std.proofs.lemmas.Slice.{drop-put_mid, take-put_mid}
use Rattle.bitpack_columns.specs.declared.column_error.ColumnError.{ColumnError}
use Rattle.bitpack_columns.specs.declared.column_error.ColumnError.TheVariants.{Short}
use Rattle.bitpack_columns.specs.declared.column_kind.ColumnKind.{ColumnKind}
use Rattle.bitpack_columns.specs.Written.{refusal}
use Rattle.bitpacking_c.specs.Columns.{known_kind}
use Rattle.bitpacking_c.proofs.column_builder.ColumnBuilder.extend.Goals as goal

no_fault : (found : Option ColumnError) (answer : Result ℕ ColumnError) (n : ℕ) → answer ≡ Ok n → found ≡ None
    → MatchOption found (IfErr answer (λ e. e ≡ Short)) (λ fault. answer ≡ Err fault)
no_fault None (Ok x) n e none = tt
no_fault None (Err x) n e none = absurd cc
no_fault (Some fault) answer n e none = absurd cc

pub returns-clause-pushes : goal.returns-clause-pushes
returns-clause-pushes c =
    let builder = c.args.self.now in
    let pushed : List ℕ = c.args.pushed.now in
    let buffer : List ℕ = builder.values.now in
    let so_far : List ℕ = take builder.count buffer in
    let kind : ColumnKind = known_kind builder.kind in
    let long : length so_far ≡ builder.count = length-take-le builder.count buffer builder.within in
    let right : refusal kind (so_far ++ pushed) ≡ None = rw c.kind_of_number.ensures at c.in_ok-test_pushed.ensures in
    let end : ℕ = builder.count + length pushed in
    let now : List ℕ = put_mid builder.count (end - builder.count) buffer c.copy_from_slice.new.self in
    let size : length c.copy_from_slice.new.self ≡ length pushed = ap length c.copy_from_slice.ensures.after in
    let whole : take end now ≡ so_far ++ pushed =
    take-put_mid builder.count (end - builder.count) buffer c.copy_from_slice.new.self end (omega (arith, size)) builder.within
    ∙ ap (λ ys. so_far ++ ys) c.copy_from_slice.ensures.after in
    let count : end ≡ length (take end now) = omega (arith, ap length whole, length-append so_far pushed, long) in
    let later : drop end now ≡ drop end buffer =
    drop-put_mid builder.count (end - builder.count) buffer c.copy_from_slice.new.self end (omega arith) builder.within (omega (arith, size)) in
    record {
      pushes = record { ok = whole; fault = no_fault (refusal kind (so_far ++ pushed)) (Ok end) end refl right; room_lacks = λ none. tt; unchanged = tt };
      count = count;
      kind = refl;
      rest = subst (λ n. drop n now ≡ drop n buffer) count later;
    }
