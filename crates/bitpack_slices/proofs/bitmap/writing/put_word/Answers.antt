-- The numbers of one byte more are written.
use Rattle.std.proofs.Common.{ℕ, List, ◌+◌, ◌*◌, ◌/◌, ◌^◌, ◌++◌, map, take, ap, sym, ◌∙◌, arith, append_assoc, append-nil, bit_and}
use Rattle.bitpack_slices.proofs.lemmas.bits.ByteLaws.{ones_less}
use Rattle.bitpack_slices.proofs.lemmas.bits.RowLaws.{bytes_counted, bytes_more}
use Rattle.bitpack_slices.proofs.bitmap.writing.put_word.Goals as goal
use Rattle.bitpack_slices.specs.Slices.{ones_from}

pub loop-i-init : goal.loop-i-init
unfolding ones_from
loop-i-init c = record { end = omega arith; values = sym (append-nil (take c.args.at c.args.out.now)) }

pub put_byte-next-requires-clause-room : goal.put_byte-next-requires-clause-room
put_byte-next-requires-clause-room c =
    let less = ones_less (8 * c.loop-i.i) 64 c.args.word (omega arith) in
    let end = c.loop-i.invariant.end in
    let room = c.requires.room in
    omega arith

pub loop-i-preserved : goal.loop-i-preserved
loop-i-preserved c =
    let more = bytes_counted c.loop-i.i c.args.word in
    let end = c.loop-i.invariant.end in
    let end' = c.put_byte-next.ensures.end in
    let front = take c.args.at c.args.out.now in
    let some : List ℕ = map (λ i. c.args.base + i) (ones_from c.args.word 0 (8 * c.loop-i.i)) in
    let byte : List ℕ = map (λ i. c.args.base + 8 * c.loop-i.i + i) (ones_from (bit_and (c.args.word / 2 ^ (8 * c.loop-i.i)) 255) 0 8) in
    record {
      end = omega arith;
      values = c.put_byte-next.ensures.values ∙ ap (λ (l : List ℕ). l ++ byte) c.loop-i.invariant.values ∙ append_assoc front some byte
          ∙ ap (λ (l : List ℕ). front ++ l) (sym (bytes_more c.args.base c.loop-i.i c.args.word));
    }
