-- One id more is written.
use Rattle.std.proofs.Common.{◌≡◌, ◌+◌, ◌*◌, ◌^◌, ◌∙◌, ℕ, List, ap, arith, get_or, length, length-set, refl, sym}
use Rattle.bitpack_slices.proofs.ForCallers.{quads_len}
use Rattle.bitpack_slices.specs.Slices.{quads_of}
use Rattle.bitpack_wide.proofs.PairLaws.{paired_get, paired_len}
use Rattle.bitpack_wide.proofs.UnpackLaws.{all_written, one_written}
use Rattle.bitpack_wide.specs.Reads.{paired}
use Rattle.bitpack_wide.proofs.unpacking.pair.Goals as goal

pub loop-index-init : goal.loop-index-init
loop-index-init c = record { long = refl; written = refl }

pub loop-index-preserved : goal.loop-index-preserved
loop-index-preserved c =
    let hs : List ℕ = c.args.highs.now in
    let ls : List ℕ = quads_of c.args.lows.now in
    let i : ℕ = c.loop-index.index in
    let long = c.loop-index.invariant.long in
    let quads = quads_len c.args.lows.now in
    let same : length hs ≡ length ls = omega (arith, c.requires.lows) in
    let size = paired_len hs ls same in
    record {
      long = length-set c.loop-index.out _ _ ∙ long;
      written = one_written c.loop-index.out (paired hs ls) i _ (omega (arith, c.requires.len)) (omega arith)
          (c.id_of.ensures ∙ ap (λ (n : ℕ). get_or hs i 0 * 2 ^ 32 + n) c.id_at.ensures ∙ sym (paired_get i hs ls same (omega arith))) c.loop-index.invariant.written;
    }

pub returns : goal.returns
returns c =
    let hs : List ℕ = c.args.highs.now in
    let ls : List ℕ = quads_of c.args.lows.now in
    let long = c.loop-index.invariant.long in
    let quads = quads_len c.args.lows.now in
    let same : length hs ≡ length ls = omega (arith, c.requires.lows) in
    let size = paired_len hs ls same in
    all_written c.loop-index.out (paired hs ls) c.loop-index.index (omega (arith, c.requires.len)) (omega arith) c.loop-index.invariant.written
