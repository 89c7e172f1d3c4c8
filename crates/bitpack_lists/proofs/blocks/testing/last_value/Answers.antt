-- The value before the block and the sum of the codes.
use Rattle.std.proofs.Common.{◌-◌, ◌∙◌, ap, arith, length, get_or, sym}
use Rattle.bitpacking.specs.Codes.{values_of}
use Rattle.bitpack_lists.proofs.lemmas.blocks.SumsOfCodes.{last_sorted, last_strict}
use Rattle.bitpack_lists.proofs.blocks.testing.last_value.Goals as goal

pub overflow_cast-result : goal.overflow_cast-result
overflow_cast-result c = record { fits = omega (arith, c.requires.codes.1) }

pub returns-in-Sorted : goal.returns-in-Sorted
returns-in-Sorted c =
    last_sorted c.args.codes.now c.args.total c.requires.codes.0 c.requires.total c.in-Sorted.initial
    ∙ ap (λ k. get_or (values_of k c.args.codes.now) (length c.args.codes.now - 1) 0) (sym c.in-Sorted.is)

pub returns-in-StrictlySorted : goal.returns-in-StrictlySorted
returns-in-StrictlySorted c =
    last_strict c.args.codes.now c.args.total c.requires.codes.0 c.requires.total c.in-StrictlySorted.initial c.unwrap_or-start.result c.unwrap_or-start.ensures
    ∙ ap (λ k. get_or (values_of k c.args.codes.now) (length c.args.codes.now - 1) 0) (sym c.in-StrictlySorted.is)
