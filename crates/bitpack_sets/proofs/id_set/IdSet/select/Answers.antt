-- A position below the number of ids has an id.
use Rattle.std.proofs.Common.{◌∙◌, ap, arith, sym, ℕ, Some}
use Rattle.std.proofs.lemmas.Option.{slice_get-get_or, slice_get_past}
use Rattle.bitpack_sets.specs.Opened.{ids}
use Rattle.bitpack_sets.proofs.id_set.IdSet.select.Goals as goal

pub returns-then-position-len : goal.returns-then-position-len
returns-then-position-len c = sym (slice_get_past (ids c.args.self.now) c.args.position (omega (arith, c.len.ensures, c.if-position-len.true)))

pub returns : goal.returns
returns c = ap (λ (n : ℕ). Some n) c.at.ensures ∙ sym (slice_get-get_or (ids c.args.self.now) c.args.position 0 (omega (arith, c.len.ensures, c.if-position-len.false)))
