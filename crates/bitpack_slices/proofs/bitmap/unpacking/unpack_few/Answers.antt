-- The numbers of one word more are written.
use Rattle.std.proofs.Common.{ℕ, ◌+◌, ◌*◌, ◌++◌, map, take, ap, sym, ◌∙◌, arith, List, append_assoc, append-nil, get_or}
use Rattle.bitpack_slices.proofs.lemmas.bits.BitmapLaws.{ones_counted_more, those_few}
use Rattle.bitpack_slices.proofs.lemmas.bits.UnpackLaws.{bits_more}
use Rattle.bitpack_slices.proofs.bitmap.unpacking.unpack_few.Goals as goal
use Rattle.bitpack_slices.specs.Bitmaps.{has_bit}
use Rattle.bitpack_slices.specs.Operations.{those}
use Rattle.bitpack_slices.specs.Slices.{ones_from}

pub loop-i-init : goal.loop-i-init
unfolding those
loop-i-init c = record { end = omega arith; values = sym (append-nil (take c.args.at c.args.out.now)) }

pub unpack_ones-next-requires-clause-room : goal.unpack_ones-next-requires-clause-room
unpack_ones-next-requires-clause-room c = let few = those_few (64 * c.loop-i.i) (has_bit c.args.bits.now) in omega arith

pub loop-i-preserved : goal.loop-i-preserved
loop-i-preserved c =
    let more = ones_counted_more c.args.bits.now c.loop-i.i in
    let front = take c.args.at c.args.out.now in
    let some : List ℕ = map (λ i. c.args.base + i) (those (64 * c.loop-i.i) (has_bit c.args.bits.now)) in
    let word : List ℕ = map (λ i. c.args.base + 64 * c.loop-i.i + i) (ones_from (get_or c.args.bits.now c.loop-i.i 0) 0 64) in
    record {
      end = omega arith;
      values = c.unpack_ones-next.ensures.values ∙ ap (λ (l : List ℕ). l ++ word) c.loop-i.invariant.values ∙ append_assoc front some word
          ∙ ap (λ (l : List ℕ). front ++ l) (sym (bits_more c.args.base c.loop-i.i c.args.bits.now));
    }
