-- No bytes have no ids.
use Rattle.std.proofs.Common.{◌≡◌, ◌∙◌, ℕ, List, [], ◌∷◌, length, refl, sym, arith}
use Rattle.bitpack_wide.specs.Reads.{ids_in}
use Rattle.bitpacking_c.proofs.wide_set_view.WideSetView.read.Goals as goal

none_of_none : (bytes : List ℕ) → length bytes ≡ 0 → ids_in bytes ≡ []
unfolding ids_in
none_of_none [] e = refl
none_of_none (x ∷ xs) e = absurd (omega arith)

pub returns-then-self-eq0 : goal.returns-then-self-eq0
returns-then-self-eq0 c = c.no_ids.ensures ∙ sym (none_of_none c.args.self.now.bytes.now c.if-self-eq0.true)
