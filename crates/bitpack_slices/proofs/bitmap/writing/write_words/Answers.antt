-- The bytes of one word more are written.
use Rattle.std.proofs.Common.{◌≡◌, ◌*◌, ◌+◌, ◌-◌, length, refl, ap, ◌∙◌, arith}
use Rattle.bitpack_groups.proofs.ForCallers.{length-written}
use Rattle.bitpack_slices.proofs.lemmas.bits.ByteLaws.{word_bytes, words_done}
use Rattle.bitpack_slices.proofs.bitmap.writing.write_words.Goals as goal
use Rattle.bitpack_slices.specs.Bodies.{le_bytes}

pub loop-index-init : goal.loop-index-init
unfolding le_bytes
loop-index-init c = record { size = c.requires; written = refl }

pub loop-index-preserved : goal.loop-index-preserved
loop-index-preserved c =
    let i = c.loop-index.index in
    let size = c.loop-index.invariant.size in
    let is = c.copy_from_slice.ensures.after ∙ c.to_le_bytes.ensures in
    let long : length c.copy_from_slice.new.self ≡ 8 = ap length is in
    record {
      size = length-written (8 * i) (8 * i + 8 - 8 * i) c.loop-index.out c.copy_from_slice.new.self (omega arith) (omega arith) (omega arith) ∙ size;
      written = word_bytes c.args.words.now c.loop-index.out c.copy_from_slice.new.self i (8 * i + 8 - 8 * i) ((c.type_inv.words i).fits) (omega arith) is
          c.loop-index.invariant.written;
    }

pub returns : goal.returns
returns c = words_done c.args.words.now c.loop-index.out c.loop-index.index (omega arith) c.loop-index.invariant.size c.loop-index.invariant.written
