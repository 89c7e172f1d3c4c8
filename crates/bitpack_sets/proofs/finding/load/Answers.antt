-- The bitmap of all high bytes tells each id of the key.
use Rattle.std.proofs.Common.{◌∙◌, ◌/◌, ◌%◌, ap, arith, subst, sym}
use Rattle.bitpack_slices.proofs.ForCallers.{full_rise, has_all}
use Rattle.bitpack_sets.proofs.finding.load.Goals as goal
use Rattle.bitpack_slices.specs.Reads.{has}
use Rattle.bitpack_slices.specs.Bodies.{IsRising}

pub load-requires-clause-highs : goal.load-requires-clause-highs
load-requires-clause-highs c = subst (IsRising 0 256) (sym c.all_highs.ensures) full_rise

pub returns : goal.returns
returns c = λ x h.
    let small = c.requires in
    c.span-position.ensures.passed x (omega arith)
    ∙ c.span-position.ensures.own x h
    ∙ sym (c.load.ensures (x % 65536) (omega arith) (ap (has (x % 65536 / 256)) c.all_highs.ensures ∙ has_all (x % 65536 / 256) 0 256 (omega arith) (omega arith)))
