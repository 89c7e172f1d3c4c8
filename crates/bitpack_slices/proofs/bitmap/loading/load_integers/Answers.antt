-- The low half of one integer more is loaded.
use Rattle.std.proofs.Common.{◌∙◌, arith, eqb}
use Rattle.bitpack_slices.proofs.lemmas.bodies.LoadLaws.{any_done, lows_len, one_loaded}
use Rattle.bitpack_slices.proofs.bitmap.loading.load_integers.Goals as goal
use Rattle.bitpack_slices.specs.Slices.{lows_of}

pub loop-i-preserved : goal.loop-i-preserved
loop-i-preserved c = record {
  size = omega arith;
  loaded = λ x small is. one_loaded c.args.size c.loop-i.i x c.low_at.result c.args.bytes.now c.loop-i.words c.set_bit.new.words c.requires.size (omega arith) c.low_at.ensures.low
      (c.set_bit.ensures x) (c.loop-i.invariant.loaded x small is);
}

pub returns : goal.returns
returns c = λ x small is. c.loop-i.invariant.loaded x small is ∙ any_done (λ y. eqb y x) c.loop-i.i (lows_of c.args.size c.args.bytes.now)
    (let len = lows_len c.args.size c.args.bytes.now c.requires.size in omega arith)
