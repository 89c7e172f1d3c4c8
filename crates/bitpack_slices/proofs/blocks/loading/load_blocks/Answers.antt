-- The slice of one high byte more is loaded.
use Rattle.std.proofs.Common.{◌≡◌, ◌*◌, ◌+◌, ◌-◌, ◌∙◌, ap, arith, get_or, length, sym, List, ℕ}
use Rattle.bitpack_groups.proofs.ForCallers.{length-written}
use Rattle.bitpack_slices.proofs.lemmas.bytes.DecodeLaws.{rising_top}
use Rattle.bitpack_slices.proofs.lemmas.bodies.LoadLaws.{four_words, high_written}
use Rattle.bitpack_slices.proofs.blocks.loading.load_blocks.Goals as goal
use Rattle.bitpack_slices.specs.Bitmaps.{has_bit}
use Rattle.bitpack_slices.specs.Reads.{has}
use Rattle.bitpack_slices.specs.Slices.{block_numbers}

pub slice-requires : goal.slice-requires
slice-requires c = rising_top 0 256 c.loop-high.high-index c.args.highs.now c.requires.highs c.loop-high-test.true

pub slice_bounds-copy_from_slice-end : goal.slice_bounds-copy_from_slice-end
slice_bounds-copy_from_slice-end c = let few = rising_top 0 256 c.loop-high.high-index c.args.highs.now c.requires.highs c.loop-high-test.true in omega arith

pub loop-high-preserved : goal.loop-high-preserved
loop-high-preserved c =
    let few = rising_top 0 256 c.loop-high.high-index c.args.highs.now c.requires.highs c.loop-high-test.true in
    let size = c.loop-high.invariant.size in
    let from : ℕ = 4 * get_or c.args.highs.now c.loop-high.high-index 0 in
    let long : from + 4 - from ≡ 4 = omega arith in
    let four : length c.copy_from_slice.new.self ≡ 4 = c.copy_from_slice.ensures.len ∙ four_words from c.loop-high.words (omega arith) in
    record {
      size = length-written from (from + 4 - from) c.loop-high.words c.copy_from_slice.new.self (omega arith) (four ∙ sym long) (omega arith) ∙ size;
      loaded = high_written (λ x. has x (block_numbers c.args.body.now)) c.loop-high.high-index from (from + 4 - from) c.args.highs.now c.loop-high.words c.copy_from_slice.new.self
          c.loop-high-test.true (omega arith) long four (omega arith)
          (λ y small. ap (λ (l : List ℕ). has_bit l y) c.copy_from_slice.ensures.after ∙ c.bits-bits.ensures y small ∙ c.slice.ensures y small ∙ ap (has _) c.new-blocks.ensures)
          c.loop-high.invariant.loaded;
    }
