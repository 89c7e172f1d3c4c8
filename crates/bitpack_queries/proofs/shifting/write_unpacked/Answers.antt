-- The ids that stay are copied and shifted: they are the set.
use Rattle.std.proofs.Common.{◌^◌, arith, subst, sym}
use Rattle.bitpack_slices.proofs.ForCallers.{those_rise}
use Rattle.bitpack_sets.specs.Opened.{ids}
use Rattle.bitpack_sets.specs.Sets.{IsSet}
use Rattle.bitpack_queries.specs.Shifts.{has_moved, moved}
use Rattle.bitpack_queries.proofs.lemmas.two.CountLaws.{set_is}
use Rattle.bitpack_queries.proofs.lemmas.two.GatheredLaws.{fills_from}
use Rattle.bitpack_queries.proofs.lemmas.two.ShiftLaws.{all_fit, all_moved, moved_few}
use Rattle.bitpack_queries.proofs.shifting.write_unpacked.Goals as goal

pub shift_ids-requires-clause-below : goal.shift_ids-requires-clause-below
shift_ids-requires-clause-below c = λ k h.
    (all_fit c.args.shift.up c.args.shift.down c.args.from c.copy_range.result c.copy_range.new.out (ids c.args.set.now) (set_is c.args.set.now).rising c.requires.from
    (omega (arith, c.requires.count, c.copy_range.auto.out)) (omega (arith, c.copy_range.ensures.len, c.copy_range.auto.out)) c.copy_range.ensures.ids k h).0

pub shift_ids-requires-clause-above : goal.shift_ids-requires-clause-above
shift_ids-requires-clause-above c = λ k h.
    (all_fit c.args.shift.up c.args.shift.down c.args.from c.copy_range.result c.copy_range.new.out (ids c.args.set.now) (set_is c.args.set.now).rising c.requires.from
    (omega (arith, c.requires.count, c.copy_range.auto.out)) (omega (arith, c.copy_range.ensures.len, c.copy_range.auto.out)) c.copy_range.ensures.ids k h).1

pub write_ids-requires : goal.write_ids-requires
write_ids-requires c =
    let set = c.args.set.now in
    let is = set_is set in
    let few = moved_few c.args.shift.up c.args.shift.down (ids set) is.rising in
    record {
      set = subst IsSet
          (sym (all_moved c.args.shift.up c.args.shift.down c.args.from c.copy_range.result c.copy_range.new.out (ids set) is.rising c.requires.from
          (omega (arith, c.requires.count, c.copy_range.auto.out)) (omega (arith, c.copy_range.ensures.len, c.copy_range.auto.out)) c.copy_range.ensures.ids c.shift_ids.new.own c.shift_ids.ensures))
          (record { few = omega (arith, is.few); rising = those_rise (has_moved c.args.shift.up c.args.shift.down (ids set)) (2 ^ 32) });
    }

pub returns : goal.returns
returns c =
    let set = c.args.set.now in
    let is = set_is set in
    fills_from (moved c.args.shift.up c.args.shift.down (ids set)) c.shift_ids.new.own _ _ _ _
    (all_moved c.args.shift.up c.args.shift.down c.args.from c.copy_range.result c.copy_range.new.out (ids set) is.rising c.requires.from
    (omega (arith, c.requires.count, c.copy_range.auto.out)) (omega (arith, c.copy_range.ensures.len, c.copy_range.auto.out)) c.copy_range.ensures.ids c.shift_ids.new.own c.shift_ids.ensures)
    c.write_ids.ensures
