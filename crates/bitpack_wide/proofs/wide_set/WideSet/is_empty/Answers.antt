-- The count is that of the ids.
use Rattle.std.proofs.Common.{◌≡◌, length, ap, ◌∙◌, sym, eqb-true, eq-eqb}
use Rattle.std.proofs.lemmas.List.{nil_from_length}
use Rattle.bitpack_wide.specs.Opened.{ids}
use Rattle.bitpack_wide.proofs.StatedLaws.{count_is}
use Rattle.bitpack_wide.proofs.wide_set.WideSet.is_empty.Goals as goal

pub returns : goal.returns
returns c =
    let set = c.args.self.now in
    let e : set.count ≡ length (ids set) = count_is set in
    (λ h. nil_from_length (ids set) (sym e ∙ eqb-true set.count 0 h), λ h. eq-eqb set.count 0 (e ∙ ap length h))
