-- The high byte of one integer more is found.
use Rattle.std.proofs.Common.{◌∙◌, ◌/◌, arith, eqb, refl}
use Rattle.bitpack_slices.proofs.lemmas.bodies.LoadLaws.{any_done, bit_clear, lows_len, one_found}
use Rattle.bitpack_slices.proofs.bitmap.loading.integer_highs.Goals as goal
use Rattle.bitpack_slices.specs.Slices.{lows_of}

pub loop-i-init : goal.loop-i-init
loop-i-init c = record { size = refl; found = λ h small. bit_clear h _ refl small }

pub loop-i-preserved : goal.loop-i-preserved
loop-i-preserved c = record {
  size = omega arith;
  found = λ h small. one_found c.args.size c.loop-i.i h c.low_at.result c.args.bytes.now c.loop-i.highs c.set_bit.new.words c.requires (omega arith) c.low_at.ensures.low
      (c.set_bit.ensures h) (c.loop-i.invariant.found h small);
}

pub returns : goal.returns
returns c = λ h small. c.loop-i.invariant.found h small ∙ any_done (λ x. eqb (x / 256) h) c.loop-i.i (lows_of c.args.size c.args.bytes.now)
    (let len = lows_len c.args.size c.args.bytes.now c.requires in omega arith)
