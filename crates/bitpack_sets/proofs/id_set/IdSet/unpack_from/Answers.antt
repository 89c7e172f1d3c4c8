-- Each form of a set has the ids from a position on.
use Rattle.std.proofs.Common.{ap, drop, length, subst, take, ◌∙◌, List, ℕ}
use Rattle.bitpack_sets.specs.Forms.{IsForm}
use Rattle.bitpack_sets.proofs.lemmas.reads.RangeLaws.{quads_range}
use Rattle.bitpack_sets.proofs.id_set.IdSet.unpack_from.Goals as goal

pub returns-in-Array : goal.returns-in-Array
returns-in-Array c =
    let is = subst (IsForm c.args.self.now) c.in-Array.is c.form.ensures in
    c.unpack_array.ensures ∙ quads_range (length c.args.out.now) c.args.from c.in-Array.ids.now
    ∙ ap (λ (l : List ℕ). take (length c.args.out.now) (drop c.args.from l)) is.ids_are
