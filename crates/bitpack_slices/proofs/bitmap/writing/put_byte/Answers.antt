-- The first of eight sums are the numbers.
use Rattle.std.proofs.Common.{ℕ, ◌≡◌, ◌+◌, ◌-◌, take, length, ap, sym, ◌∙◌, arith, rules}
use Rattle.std.specs.Int.RustNames.{count_ones}
use Rattle.bitpack_groups.proofs.ForCallers.{lent_len}
use Rattle.bitpack_slices.proofs.lemmas.bits.ByteLaws.{row_put}
use Rattle.bitpack_slices.proofs.lemmas.bits.CountLaws.{ones_counted}
use Rattle.bitpack_slices.proofs.lemmas.bits.OnesLaws.{ones_few}
use Rattle.bitpack_slices.proofs.bitmap.writing.put_byte.Goals as goal
use Rattle.bitpack_slices.specs.Slices.{ones_from}

pub returns-clause-end : goal.returns-clause-end
returns-clause-end c = ap (λ (n : ℕ). c.args.at + n) (sym (ones_counted c.args.byte 8 c.ranges.byte.fits))

pub returns-clause-values : goal.returns-clause-values
returns-clause-values c =
    let long : length c.loop-i.window ≡ 8 = c.loop-i.auto.window ∙ lent_len c.args.at 8 c.args.out.now c.requires.room in
    let count = ones_counted c.args.byte 8 c.ranges.byte.fits in
    let few = ones_few c.args.byte 0 8 in
    row_put c.args.base c.args.at (c.args.at + 8 - c.args.at) c.loop-i.i (count_ones c.args.byte) c.args.out.now c.loop-i.window c.positions_in-row.result (ones_from c.args.byte 0 8) c.requires.room long
    (omega arith) (search rules) (sym count) (omega arith) (ap (λ (n : ℕ). take n c.positions_in-row.result) (sym count) ∙ c.positions_in-row.ensures.positions) c.loop-i.invariant
