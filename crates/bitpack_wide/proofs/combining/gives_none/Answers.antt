-- At most no ids are listed if there is none.
use Rattle.std.proofs.Common.{◌≡◌, ◌≤◌, ◌<◌, ◌↔◌, Bool, IfSome, IsTrue, List, None, Option, Some, [], ap, arith, length, refl, subst, sym, ℕ}
use Rattle.std.proofs.lemmas.Bool.{true≢false}
use Rattle.std.proofs.lemmas.List.{nil_from_length}
use Rattle.std.specs.Option.{is_some}
use Rattle.bitpack_slices.specs.Follows.{Follow}
use Rattle.bitpack_wide.specs.Combined.{answer}
use Rattle.bitpack_wide.specs.Opened.{ids}
use Rattle.bitpack_wide.proofs.combining.gives_none.Goals as goal

is_none : (numbers old new : List ℕ) (listed : Option ℕ) → IfSome listed (λ count. count ≤ 0) → IfSome listed (λ count. Follow numbers old new 0 count)
    → (listed ≡ None → 0 < length numbers) → IsTrue (is_some listed) ↔ (numbers ≡ [])
is_none numbers old new None few written none = (λ h. absurd (true≢false (sym h)), λ e. let no : length numbers ≡ 0 = ap length e in let some = none refl in absurd (omega arith))
is_none numbers old new (Some count) few written none = (λ h. nil_from_length numbers (let end = written.end_is in omega arith), λ e. refl)

pub returns : goal.returns
returns c =
    let numbers = answer c.args.operation (ids c.args.a.now) (ids c.args.b.now) in
    subst (λ (found : Bool). IsTrue found ↔ (numbers ≡ [])) (sym c.is_some.ensures) (is_none numbers _ _ c.list.result c.list.ensures.few c.list.ensures.written c.list.ensures.none)
