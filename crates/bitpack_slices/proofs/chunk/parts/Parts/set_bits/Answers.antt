-- One slice more is set.
use Rattle.std.proofs.Common.{◌≡◌, ◌+◌, ◌-◌, ◌*◌, ◌<◌, ◌∙◌, ℕ, List, ap, arith, take, get_or, length, map, sym}
use Rattle.bitpack_groups.proofs.ForCallers.{length-written}
use Rattle.bitpack_slices.proofs.lemmas.bodies.CutLaws.{lens_more, lens_none}
use Rattle.bitpack_slices.proofs.lemmas.bodies.LoadLaws.{four_words}
use Rattle.bitpack_slices.proofs.lemmas.bodies.ReadLaws.{offset_fits}
use Rattle.bitpack_slices.proofs.lemmas.bodies.SetLaws.{bits_all, cut_own, slice_set, slices_set}
use Rattle.bitpack_slices.proofs.lemmas.bytes.DecodeLaws.{first_at, rising_top}
use Rattle.bitpack_slices.proofs.chunk.parts.Parts.set_bits.Goals as goal
use Rattle.bitpack_slices.specs.Bitmaps.{has_bit}
use Rattle.bitpack_slices.specs.Parts.{numbers_in_parts}
use Rattle.bitpack_slices.specs.Reads.{has}
use Rattle.bitpack_slices.specs.Slices.{IsSlice, slice_len, slice_numbers}

pub returns-then-self-eq-ALL_BITS : goal.returns-then-self-eq-ALL_BITS
returns-then-self-eq-ALL_BITS c x small =
    bits_all x c.args.self.highs.now c.args.self.counts.now c.args.self.slices.now c.copy_words.new.words c.args.self.few c.args.self.occur c.args.self.are
    c.if-self-eq-ALL_BITS.true c.copy_words.ensures small

pub loop-i-init : goal.loop-i-init
loop-i-init c = record { size = omega arith; start = sym (lens_none c.args.self.counts.now); bits = λ x small. c.requires x }

-- a high byte
high_small : (count i r : ℕ) (out highs : List ℕ) → IsSlice count highs → i < count → take r out ≡ map (λ j. 0 + j) (slice_numbers count highs) → get_or out i 0 < 256
high_small count i r out highs occur lt values =
    let hs : List ℕ = slice_numbers count highs in
    let many : length hs ≡ count = occur.count_is in
    let first = first_at r i out hs values (omega arith) in
    let top = rising_top 0 256 i hs occur.rising (omega arith) in
    omega arith

pub overflow_add-offset : goal.overflow_add-offset
overflow_add-offset c =
    let fits = offset_fits c.loop-i.i c.args.self.counts.now c.args.self.slices.now c.args.self.are c.loop-i-test.true in
    let start = c.loop-i.invariant.start in
    omega (arith, c.byte_len-size.ensures)

pub slice_bounds-slice_bits-end : goal.slice_bounds-slice_bits-end
slice_bounds-slice_bits-end c =
    let fits = offset_fits c.loop-i.i c.args.self.counts.now c.args.self.slices.now c.args.self.are c.loop-i-test.true in
    let start = c.loop-i.invariant.start in
    omega (arith, c.byte_len-size.ensures)

pub overflow_cast-from : goal.overflow_cast-from
overflow_cast-from c =
    let small = high_small (length c.args.self.counts.now) c.loop-i.i c.unpack_slice.result c.unpack_slice.new.out c.args.self.highs.now c.args.self.occur c.loop-i-test.true c.unpack_slice.ensures.values in
    omega arith

pub overflow_mul-from : goal.overflow_mul-from
overflow_mul-from c =
    let small = high_small (length c.args.self.counts.now) c.loop-i.i c.unpack_slice.result c.unpack_slice.new.out c.args.self.highs.now c.args.self.occur c.loop-i-test.true c.unpack_slice.ensures.values in
    omega arith

pub overflow_add-from : goal.overflow_add-from
overflow_add-from c =
    let small = high_small (length c.args.self.counts.now) c.loop-i.i c.unpack_slice.result c.unpack_slice.new.out c.args.self.highs.now c.args.self.occur c.loop-i-test.true c.unpack_slice.ensures.values in
    omega arith

pub offset_bounds-words-from : goal.offset_bounds-words-from
offset_bounds-words-from c =
    let small = high_small (length c.args.self.counts.now) c.loop-i.i c.unpack_slice.result c.unpack_slice.new.out c.args.self.highs.now c.args.self.occur c.loop-i-test.true c.unpack_slice.ensures.values in
    omega arith

pub slice_bounds-copy_from_slice-end : goal.slice_bounds-copy_from_slice-end
slice_bounds-copy_from_slice-end c =
    let small = high_small (length c.args.self.counts.now) c.loop-i.i c.unpack_slice.result c.unpack_slice.new.out c.args.self.highs.now c.args.self.occur c.loop-i-test.true c.unpack_slice.ensures.values in
    omega arith

pub loop-i-preserved : goal.loop-i-preserved
loop-i-preserved c =
    let counts : List ℕ = c.args.self.counts.now in
    let slices : List ℕ = c.args.self.slices.now in
    let hs : List ℕ = slice_numbers (length counts) c.args.self.highs.now in
    let i : ℕ = c.loop-i.i in
    let many : length hs ≡ length counts = c.args.self.occur.count_is in
    let first = first_at c.unpack_slice.result i c.unpack_slice.new.out hs c.unpack_slice.ensures.values (omega arith) in
    let top = rising_top 0 256 i hs c.args.self.occur.rising (omega arith) in
    let words : List ℕ = c.loop-i.words in
    let new : List ℕ = c.copy_from_slice.new.self in
    let size = c.loop-i.invariant.size in
    let from : ℕ = 4 * get_or c.unpack_slice.new.out i 0 in
    let long : from + 4 - from ≡ 4 = omega arith in
    let four : length new ≡ 4 = c.copy_from_slice.ensures.len ∙ four_words from words (omega arith) in
    let start = c.loop-i.invariant.start in
    let more = lens_more counts i c.loop-i-test.true in
    let len : c.byte_len-size.result ≡ slice_len (get_or counts i 0 + 1) = c.byte_len-size.ensures in
    record {
      size = length-written from (from + 4 - from) words new (omega arith) (four ∙ sym long) (omega arith) ∙ size;
      start = omega arith;
      bits = slice_set (λ x. has x (numbers_in_parts c.args.self)) i from (from + 4 - from) hs words new (omega arith) (omega arith) long four (omega arith)
          (λ y small. ap (λ (l : List ℕ). has_bit l y) c.copy_from_slice.ensures.after ∙ c.slice_bits-bits.ensures y small
          ∙ cut_own i y c.loop-i.offset c.byte_len-size.result hs counts slices c.args.self.occur.rising many c.args.self.are c.loop-i-test.true small start len)
          c.loop-i.invariant.bits;
    }

pub returns : goal.returns
returns c x small =
    let counts : List ℕ = c.args.self.counts.now in
    let hs : List ℕ = slice_numbers (length counts) c.args.self.highs.now in
    let many : length hs ≡ length counts = c.args.self.occur.count_is in
    c.loop-i.invariant.bits x small ∙ slices_set c.loop-i.i x hs counts c.args.self.slices.now (omega arith) c.args.self.are
