-- No code, or codes whose least value is tested.
use Rattle.std.proofs.Common.{rules, ◌≡◌, ◌-◌, ◌^◌, ◌<◌, ℕ, List, ap, arith, drop, eqb-true, length, take, true, false, sym, ◌∙◌}
use Rattle.std.proofs.lemmas.Bool.{eqb-false}
use Rattle.std.proofs.lemmas.List.{take_rest}
use Rattle.bitpacking.specs.Codes.{AreWords}
use Rattle.bitpacking.proofs.ForCallers.{AreWords-from_slice}
use Rattle.bitpack_columns.specs.Numbers.{number_end}
use Rattle.bitpack_columns.proofs.LeastLaws.{least_decided}
use Rattle.bitpack_columns.proofs.SoundLaws.{not_mapped, number_small}
use Rattle.bitpack_columns.proofs.TailTests.{plain_decided, plain_none}
use Rattle.bitpack_columns.proofs.opening.tail.test_plain_tail.Goals as goal

cut : (tail : List ℕ) (end : ℕ) → end ≡ number_end tail → take (length tail - end) (drop end tail) ≡ drop (number_end tail) tail
cut tail end e = take_rest tail end ∙ ap (λ (n : ℕ). drop n tail) e

pub returns-then-is_empty : goal.returns-then-is_empty
returns-then-is_empty c =
    rw (plain_none c.args.blocks (length c.args.codes.now) c.args.tail.now (eqb-true (length c.args.codes.now) 0 (sym c.if-is_empty.ensures))) c.test_end.ensures

pub returns-then-not-is_least : goal.returns-then-not-is_least
returns-then-not-is_least c =
    let tail : List ℕ = c.args.tail.now in
    let codes : List ℕ = c.test_codes.new.codes in
    let base : ℕ = c.in_ok-base.base in
    let end : ℕ = c.in_ok-base.end in
    let number = c.in_ok-base.ensures in
    let found = c.in_ok-later.ensures in
    let some : 0 < length c.args.codes.now = omega (arith, eqb-false (length c.args.codes.now) 0 (sym c.if-is_empty.ensures)) in
    let long : length codes ≡ length c.args.codes.now = c.test_codes.auto.codes in
    let words : AreWords codes = AreWords-from_slice codes (search rules) in
    let small : base < 2 ^ 32 = rw number.value (number_small tail (not_mapped _ _ number.fault)) in
    plain_decided c.args.blocks (length c.args.codes.now) base tail (take (length tail - end) (drop end tail)) codes c.in_ok-later.later.now some number.fault
    (cut tail end number.end) found.fault number.value found.codes found.rest false
    (least_decided base codes small words (omega arith) c.bounds-least.result.0 c.bounds-least.result.1 c.is_least.result
    c.bounds-least.ensures.least c.bounds-least.ensures.greatest c.is_least.ensures ∙ c.if-not-is_least.true)

pub returns : goal.returns
returns c =
    let tail : List ℕ = c.args.tail.now in
    let codes : List ℕ = c.test_codes.new.codes in
    let base : ℕ = c.in_ok-base.base in
    let end : ℕ = c.in_ok-base.end in
    let number = c.in_ok-base.ensures in
    let found = c.in_ok-later.ensures in
    let some : 0 < length c.args.codes.now = omega (arith, eqb-false (length c.args.codes.now) 0 (sym c.if-is_empty.ensures)) in
    let long : length codes ≡ length c.args.codes.now = c.test_codes.auto.codes in
    let words : AreWords codes = AreWords-from_slice codes (search rules) in
    let small : base < 2 ^ 32 = rw number.value (number_small tail (not_mapped _ _ number.fault)) in
    rw (plain_decided c.args.blocks (length c.args.codes.now) base tail (take (length tail - end) (drop end tail)) codes c.in_ok-later.later.now some number.fault
    (cut tail end number.end) found.fault number.value found.codes found.rest true
    (least_decided base codes small words (omega arith) c.bounds-least.result.0 c.bounds-least.result.1 c.is_least.result
    c.bounds-least.ensures.least c.bounds-least.ensures.greatest c.is_least.ensures ∙ c.if-not-is_least.false)) c.test_end-2.ensures
