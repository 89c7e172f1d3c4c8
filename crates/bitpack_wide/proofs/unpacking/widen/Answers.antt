-- One id more is written.
use Rattle.std.proofs.Common.{◌+◌, ◌*◌, ◌^◌, ◌∙◌, ℕ, arith, length-set, map, refl, sym}
use Rattle.std.proofs.lemmas.List.{get_or-map, length-map}
use Rattle.bitpack_wide.proofs.UnpackLaws.{all_written, one_written}
use Rattle.bitpack_wide.proofs.unpacking.widen.Goals as goal

pub loop-index-init : goal.loop-index-init
loop-index-init c = record { long = refl; written = refl }

pub loop-index-preserved : goal.loop-index-preserved
loop-index-preserved c =
    let f : ℕ → ℕ = λ low. c.args.high * 2 ^ 32 + low in
    let long = c.loop-index.invariant.long in
    let size = length-map c.args.lows.now f in
    record {
      long = length-set c.loop-index.out _ _ ∙ long;
      written = one_written c.loop-index.out (map f c.args.lows.now) c.loop-index.index _ (omega (arith, c.requires)) (omega arith)
          (c.id_of.ensures ∙ sym (get_or-map f c.args.lows.now c.loop-index.index 0 0 (omega arith))) c.loop-index.invariant.written;
    }

pub returns : goal.returns
returns c =
    let f : ℕ → ℕ = λ low. c.args.high * 2 ^ 32 + low in
    let long = c.loop-index.invariant.long in
    let size = length-map c.args.lows.now f in
    all_written c.loop-index.out (map f c.args.lows.now) c.loop-index.index (omega (arith, c.requires)) (omega arith) c.loop-index.invariant.written
