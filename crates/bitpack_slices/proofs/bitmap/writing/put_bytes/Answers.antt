-- The numbers of one word more are written.
use Rattle.std.proofs.Common.{ℕ, List, ◌+◌, ◌*◌, ◌++◌, map, take, get_or, ap, sym, ◌∙◌, arith, append_assoc, append-nil}
use Rattle.bitpack_slices.proofs.lemmas.bits.BitmapLaws.{ones_counted_more}
use Rattle.bitpack_slices.proofs.lemmas.bits.ByteLaws.{those_less, word_more}
use Rattle.bitpack_slices.proofs.bitmap.writing.put_bytes.Goals as goal
use Rattle.bitpack_slices.specs.Bitmaps.{has_bit}
use Rattle.bitpack_slices.specs.Operations.{those}
use Rattle.bitpack_slices.specs.Slices.{ones_from}

pub loop-i-init : goal.loop-i-init
unfolding those
loop-i-init c = record { end = omega arith; values = sym (append-nil (take c.args.at c.args.out.now)) }

pub put_word-next-requires-clause-room : goal.put_word-next-requires-clause-room
put_word-next-requires-clause-room c =
    let more = ones_counted_more c.args.bits.now c.loop-i.i in
    let less = those_less (64 * (c.loop-i.i + 1)) 256 (has_bit c.args.bits.now) (omega arith) in
    let end = c.loop-i.invariant.end in
    let room = c.requires.room in
    omega arith

pub loop-i-preserved : goal.loop-i-preserved
loop-i-preserved c =
    let more = ones_counted_more c.args.bits.now c.loop-i.i in
    let end = c.loop-i.invariant.end in
    let end' = c.put_word-next.ensures.end in
    let front = take c.args.at c.args.out.now in
    let word : List ℕ = map (λ i. 64 * c.loop-i.i + i) (ones_from (get_or c.args.bits.now c.loop-i.i 0) 0 64) in
    record {
      end = omega arith;
      values = c.put_word-next.ensures.values ∙ ap (λ (l : List ℕ). l ++ word) c.loop-i.invariant.values
          ∙ append_assoc front (those (64 * c.loop-i.i) (has_bit c.args.bits.now)) word ∙ ap (λ (l : List ℕ). front ++ l) (sym (word_more c.args.bits.now c.loop-i.i));
    }
