-- What byte 0 and the counts state.
use Rattle.std.proofs.Common.{◌-◌, ◌*◌, ◌^◌, ◌∙◌, ℕ, List, arith, length, subst, sym}
use Rattle.std.proofs.lemmas.List.{take_rest}
use Rattle.bitpacking.specs.Bits.{AreBytes}
use Rattle.bitpack_groups.proofs.ForCallers.{AreBytes-drop}
use Rattle.bitpack_slices.specs.Bodies.{IsRising}
use Rattle.bitpack_wide.proofs.StatedLaws.{lows_len, some_bytes, spread_cut, stated_spread, stated_words}
use Rattle.bitpack_wide.proofs.wide_set.WideSet.form.Goals as goal

pub bounds-self-0 : goal.bounds-self-0
bounds-self-0 c = let set = c.args.self.now in some_bytes set.bytes.now set.states.none

pub invariant_of-result : goal.invariant_of-result
invariant_of-result c =
    let set = c.args.self.now in
    let (is, are, ids) = stated_words set.bytes.now set.count set.words set.rest.now set.are_bytes set.states c.if-self-eq8.true in
    record { are_bytes = are; sound = is }

pub returns-then-self-eq8-clause-ids : goal.returns-then-self-eq8-clause-ids
returns-then-self-eq8-clause-ids c = let set = c.args.self.now in (stated_words set.bytes.now set.count set.words set.rest.now set.are_bytes set.states c.if-self-eq8.true).2

pub overflow_mul-end : goal.overflow_mul-end
overflow_mul-end c =
    let set = c.args.self.now in
    let few = (stated_spread set.bytes.now set.count set.words set.rest.now set.are_bytes set.states c.if-self-eq8.false).0.few in
    omega arith

pub overflow_sub-end : goal.overflow_sub-end
overflow_sub-end c = let set = c.args.self.now in (stated_spread set.bytes.now set.count set.words set.rest.now set.are_bytes set.states c.if-self-eq8.false).0.room

pub of_tested-requires : goal.of_tested-requires
of_tested-requires c =
    let set = c.args.self.now in
    record { sound = (stated_spread set.bytes.now set.count set.words set.rest.now set.are_bytes set.states c.if-self-eq8.false).0.none }

pub invariant_of-result-2-clause-are_bytes : goal.invariant_of-result-2-clause-are_bytes
invariant_of-result-2-clause-are_bytes c =
    let set = c.args.self.now in
    let rest : List ℕ = set.rest.now in
    let n : ℕ = length rest - 4 * set.count in
    subst AreBytes (sym (take_rest rest n)) (AreBytes-drop n rest (stated_spread set.bytes.now set.count set.words rest set.are_bytes set.states c.if-self-eq8.false).1)

pub invariant_of-result-2-clause-sorted : goal.invariant_of-result-2-clause-sorted
invariant_of-result-2-clause-sorted c =
    let set = c.args.self.now in
    c.of_tested.ensures.kind ∙ (stated_spread set.bytes.now set.count set.words set.rest.now set.are_bytes set.states c.if-self-eq8.false).0.kind

pub invariant_of-result-2-clause-long : goal.invariant_of-result-2-clause-long
invariant_of-result-2-clause-long c =
    let set = c.args.self.now in
    let is = (stated_spread set.bytes.now set.count set.words set.rest.now set.are_bytes set.states c.if-self-eq8.false).0 in
    lows_len set.count set.rest.now c.of_tested.result c.of_tested.ensures.bytes is.room is.count

pub invariant_of-result-2-clause-rising : goal.invariant_of-result-2-clause-rising
invariant_of-result-2-clause-rising c =
    let set = c.args.self.now in
    let is = (stated_spread set.bytes.now set.count set.words set.rest.now set.are_bytes set.states c.if-self-eq8.false).0 in
    subst (IsRising 0 (2 ^ 64)) (sym (spread_cut set.count set.rest.now c.of_tested.result c.of_tested.ensures.bytes)) is.rising

pub returns-clause-ids : goal.returns-clause-ids
returns-clause-ids c =
    let set = c.args.self.now in
    spread_cut set.count set.rest.now c.of_tested.result c.of_tested.ensures.bytes
    ∙ (stated_spread set.bytes.now set.count set.words set.rest.now set.are_bytes set.states c.if-self-eq8.false).2
