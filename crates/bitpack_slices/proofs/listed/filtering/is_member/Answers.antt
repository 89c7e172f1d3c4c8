-- A number is in the slice of its high byte.
use Rattle.std.proofs.Common.{ℕ, ◌≡◌, ◌+◌, ◌*◌, ◌/◌, ◌%◌, ◌∙◌, ap, arith}
use Rattle.bitpack_slices.proofs.listed.filtering.is_member.Goals as goal
use Rattle.bitpack_slices.specs.Reads.{has}
use Rattle.bitpack_slices.specs.Selections.{parts_numbers}

pub returns : goal.returns
returns c =
    let number = c.args.number in
    let whole : 256 * (number / 256) + number % 256 ≡ number = omega arith in
    c.contains.ensures ∙ c.slice.ensures (number % 256) (omega arith) ∙ ap (λ (n : ℕ). has n (parts_numbers c.args.blocks.now)) whole
