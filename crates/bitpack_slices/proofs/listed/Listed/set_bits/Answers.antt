-- An id more is set.
use Rattle.std.proofs.Common.{◌≡◌, ◌∙◌, ◌/◌, ◌%◌, ◌<◌, ap, arith, get_or, length, refl, sym}
use Rattle.std.proofs.lemmas.List.{get_or-map, length-map, take_all}
use Rattle.bitpack_slices.proofs.lemmas.numbers.KeyLaws.{lows_in}
use Rattle.bitpack_slices.proofs.lemmas.numbers.ListLaws.{high_more_none, insert_more}
use Rattle.bitpack_slices.proofs.listed.Listed.set_bits.Goals as goal
use Rattle.bitpack_slices.specs.Lists.{listed_ids}
use Rattle.bitpack_slices.specs.Reads.{has}

pub loop-position-init : goal.loop-position-init
loop-position-init c = record { bits = λ x. c.requires x; highs = λ x h. refl }

pub loop-position-preserved : goal.loop-position-preserved
loop-position-preserved c =
    let ids = listed_ids c.args.self.now in
    let i = c.loop-position.position in
    let size = length-map ids (λ id. id % 65536) in
    let less : i < length (lows_in ids) = omega (arith, c.loop-position-test.true, c.len-position-end.ensures) in
    let low : c.at.result % 65536 ≡ get_or (lows_in ids) i 0 =
    ap (λ n. n % 65536) c.at.ensures ∙ sym (get_or-map (λ id. id % 65536) ids i 0 0 (omega arith)) in
    record {
      bits = λ x. insert_more x _ i (lows_in ids) c.loop-position.words _ less low (c.set_bit-in-loop-position.ensures x) (c.loop-position.invariant.bits x);
      highs = λ x. high_more_none x _ i (lows_in ids) c.loop-position.highs _ less low (c.set_bit.ensures (x / 256)) (c.loop-position.invariant.highs x);
    }

pub returns-clause-bits : goal.returns-clause-bits
returns-clause-bits c x =
    let ids = listed_ids c.args.self.now in
    let size = length-map ids (λ id. id % 65536) in
    c.loop-position.invariant.bits x ∙ ap (has x) (take_all c.loop-position.position (lows_in ids) (omega (arith, c.loop-position-test.false, c.len-position-end.ensures)))

pub returns-clause-highs : goal.returns-clause-highs
returns-clause-highs c x none =
    let ids = listed_ids c.args.self.now in
    let size = length-map ids (λ id. id % 65536) in
    sym (ap (has x) (take_all c.loop-position.position (lows_in ids) (omega (arith, c.loop-position-test.false, c.len-position-end.ensures)))) ∙ c.loop-position.invariant.highs x none
