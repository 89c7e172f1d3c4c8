-- No bytes have no ids.
use Rattle.std.proofs.Common.{◌≡◌, ℕ, List, [], ◌∷◌, get_or, length, refl, arith}
use Rattle.bitpack_sets.specs.Reads.{ids_in}
use Rattle.bitpacking_c.proofs.set_view.SetView.set.Goals as goal

none_of_none : (bytes : List ℕ) → length bytes ≡ 0 → ids_in bytes ≡ []
unfolding ids_in
none_of_none [] e = refl
none_of_none (x ∷ xs) e = absurd (omega arith)

pub returns-then-self-eq0-clause-none : goal.returns-then-self-eq0-clause-none
returns-then-self-eq0-clause-none c = λ e. none_of_none c.args.self.now.bytes.now c.if-self-eq0.true

form_of_none : (bytes : List ℕ) → length bytes ≡ 0 → get_or bytes 0 0 ≡ 0
form_of_none [] e = refl
form_of_none (x ∷ xs) e = absurd (omega arith)

pub returns-then-self-eq0-clause-form : goal.returns-then-self-eq0-clause-form
returns-then-self-eq0-clause-form c = λ e. form_of_none c.args.self.now.bytes.now c.if-self-eq0.true
