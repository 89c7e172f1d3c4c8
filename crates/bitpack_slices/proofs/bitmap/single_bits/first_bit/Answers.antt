use Rattle.std.proofs.Common.{◌/◌, inl, inr, arith}
use Rattle.std.proofs.lemmas.Bool.{cases_lt}
use Rattle.bitpack_slices.proofs.lemmas.bits.LowestLaws.{is_lowest, zero_word}
use Rattle.bitpack_slices.proofs.bitmap.single_bits.first_bit.Goals as goal

pub loop-at-preserved : goal.loop-at-preserved
loop-at-preserved c = record {
  later = omega (arith, c.loop-at.invariant.later);
  within = omega (arith, c.loop-at-test.true);
  none = λ i a b. elim (cases_lt i c.loop-at.at) [
    | inl lt ↦ c.loop-at.invariant.none i a lt
    | inr ge ↦ zero_word c.args.words.now c.loop-at.at i ge (omega arith) c.if-left-ne0.false
  ];
}

pub returns-then-left-ne0-clause-within : goal.returns-then-left-ne0-clause-within
returns-then-left-ne0-clause-within c = omega (arith, c.loop-at-test.true, (is_lowest c.args.words.now c.loop-at.at ((c.type_inv.words (c.loop-at.at / 64)).fits) c.if-left-ne0.true).within)

pub returns-then-left-ne0-clause-one : goal.returns-then-left-ne0-clause-one
returns-then-left-ne0-clause-one c = λ h. (is_lowest c.args.words.now c.loop-at.at ((c.type_inv.words (c.loop-at.at / 64)).fits) c.if-left-ne0.true).one

pub returns-then-left-ne0-clause-none : goal.returns-then-left-ne0-clause-none
returns-then-left-ne0-clause-none c = λ i a b. elim (cases_lt i c.loop-at.at) [
  | inl lt ↦ c.loop-at.invariant.none i a lt
  | inr ge ↦ (is_lowest c.args.words.now c.loop-at.at ((c.type_inv.words (c.loop-at.at / 64)).fits) c.if-left-ne0.true).none i ge b
]
