-- The numbers of one slice more are written.
use Rattle.std.proofs.Common.{ℕ, ◌≡◌, ◌+◌, ◌*◌, ◌++◌, map, take, drop, length, get_or, ap, sym, ◌∙◌, arith, subst, List, append_assoc, refl}
use Rattle.std.proofs.lemmas.List.{length-take}
use Rattle.bitpack_slices.proofs.lemmas.bits.CountLaws.{numbers_done, numbers_drop}
use Rattle.bitpack_slices.proofs.lemmas.bytes.DecodeLaws.{first_at, parts_done, parts_step, rising_top, slice_here, slices_step}
use Rattle.bitpack_slices.proofs.lemmas.bodies.CutLaws.{slice_first}
use Rattle.bitpack_slices.proofs.chunk.reading.unpack_parts.Goals as goal
use Rattle.bitpack_slices.specs.Slices.{AreSlices, IsSlice, numbers_of, slice_len, slice_numbers, slices_len}

pub overflow_mul-first : goal.overflow_mul-first
overflow_mul-first c =
    let hs : List ℕ = slice_numbers (length c.args.counts.now) c.args.highs.now in
    let many : length hs ≡ length c.args.counts.now = c.requires.highs.count_is in
    let first = first_at c.unpack_slice.result c.loop-i.i c.unpack_slice.new.out hs c.unpack_slice.ensures.values (omega arith) in
    let top = rising_top 0 256 c.loop-i.i hs c.requires.highs.rising (omega arith) in
    omega arith

pub overflow_add-first : goal.overflow_add-first
overflow_add-first c =
    let hs : List ℕ = slice_numbers (length c.args.counts.now) c.args.highs.now in
    let many : length hs ≡ length c.args.counts.now = c.requires.highs.count_is in
    let first = first_at c.unpack_slice.result c.loop-i.i c.unpack_slice.new.out hs c.unpack_slice.ensures.values (omega arith) in
    let top = rising_top 0 256 c.loop-i.i hs c.requires.highs.rising (omega arith) in
    omega arith

pub unpack_from-next-requires-clause-fits : goal.unpack_from-next-requires-clause-fits
unpack_from-next-requires-clause-fits c =
    let hs : List ℕ = slice_numbers (length c.args.counts.now) c.args.highs.now in
    let many : length hs ≡ length c.args.counts.now = c.requires.highs.count_is in
    let first = first_at c.unpack_slice.result c.loop-i.i c.unpack_slice.new.out hs c.unpack_slice.ensures.values (omega arith) in
    let top = rising_top 0 256 c.loop-i.i hs c.requires.highs.rising (omega arith) in
    omega arith

pub unpack_from-next-requires-clause-size : goal.unpack_from-next-requires-clause-size
unpack_from-next-requires-clause-size c =
    let counts = c.args.counts.now in
    let slices : List ℕ = take (slices_len counts) c.args.rest.now in
    let (within, are) = slices_step c.loop-i.i c.loop-i.offset counts slices c.loop-i.invariant.are c.loop-i-test.true c.loop-i.invariant.within in
    omega (arith, length-take (slices_len counts) c.args.rest.now)

pub unpack_from-next-requires-clause-slice : goal.unpack_from-next-requires-clause-slice
unpack_from-next-requires-clause-slice c =
    let counts = c.args.counts.now in
    let rest = c.args.rest.now in
    let slices : List ℕ = take (slices_len counts) rest in
    let i : ℕ = c.loop-i.i in
    let count : ℕ = get_or counts i 0 + 1 in
    let (within, are) = slices_step i c.loop-i.offset counts slices c.loop-i.invariant.are c.loop-i-test.true c.loop-i.invariant.within in
    let first = slice_first (slices_len counts) c.loop-i.offset (slice_len count) rest (omega (arith, length-take (slices_len counts) rest)) in
    subst (IsSlice count) first (slice_here i c.loop-i.offset counts slices c.loop-i.invariant.are c.loop-i-test.true)

pub unpack_from-next-requires-clause-room : goal.unpack_from-next-requires-clause-room
unpack_from-next-requires-clause-room c =
    let inv = c.loop-i.invariant in
    let more = numbers_drop c.args.counts.now c.loop-i.i c.loop-i-test.true in
    let few = inv.few in
    let long = inv.long in
    omega arith

pub loop-i-init : goal.loop-i-init
loop-i-init c = record { few = refl; long = refl; within = omega arith; are = c.requires.slices; values = refl }

pub loop-i-preserved : goal.loop-i-preserved
loop-i-preserved c =
    let counts = c.args.counts.now in
    let slices : List ℕ = take (slices_len counts) c.args.rest.now in
    let base : ℕ = c.args.base in
    let i : ℕ = c.loop-i.i in
    let offset : ℕ = c.loop-i.offset in
    let size : ℕ = c.byte_len-offset.result in
    let count : ℕ = get_or counts i 0 + 1 in
    let hs : List ℕ = slice_numbers (length counts) c.args.highs.now in
    let many : length hs ≡ length counts = c.requires.highs.count_is in
    let first = first_at c.unpack_slice.result i c.unpack_slice.new.out hs c.unpack_slice.ensures.values (omega arith) in
    let (within, are) = slices_step i offset counts slices c.loop-i.invariant.are c.loop-i-test.true c.loop-i.invariant.within in
    let long : size ≡ slice_len count = c.byte_len-offset.ensures in
    let cut = slice_first (slices_len counts) offset (slice_len count) c.args.rest.now (omega (arith, length-take (slices_len counts) c.args.rest.now)) in
    let front : List ℕ = take c.loop-i.next c.loop-i.out in
    let rest : ℕ → List ℕ = λ s. map (λ j. base + j) (numbers_of (drop (i + 1) hs) (drop (i + 1) counts) (drop (offset + s) slices)) in
    let word : ℕ → List ℕ = λ m. map (λ j. base + 256 * m + j) (slice_numbers count (take (slice_len count) (drop offset slices))) in
    let few = c.loop-i.invariant.few in
    let more = numbers_drop counts i c.loop-i-test.true in
    let end = c.unpack_from-next.ensures.end in
    record {
      few = omega arith;
      long = c.unpack_from-next.auto.out ∙ c.loop-i.invariant.long;
      within = omega arith;
      are = subst (λ (s : ℕ). AreSlices (drop (i + 1) counts) (drop (offset + s) slices)) (sym long) are;
      values = ap (λ (s : ℕ). take c.unpack_from-next.result c.unpack_from-next.new.out ++ rest s) long
          ∙ ap (λ (l : List ℕ). l ++ rest (slice_len count)) (c.unpack_from-next.ensures.values
          ∙ ap (λ (l : List ℕ). front ++ map (λ j. base + 256 * get_or c.unpack_slice.new.out i 0 + j) (slice_numbers count l)) (sym cut))
          ∙ append_assoc front (word (get_or c.unpack_slice.new.out i 0)) (rest (slice_len count))
          ∙ ap (λ (m : ℕ). front ++ (word m ++ rest (slice_len count))) first
          ∙ ap (λ (l : List ℕ). front ++ l) (sym (parts_step base i offset hs counts slices (omega arith) c.loop-i-test.true))
          ∙ c.loop-i.invariant.values;
    }

pub returns-clause-end : goal.returns-clause-end
returns-clause-end c =
    let none = numbers_done c.args.counts.now c.loop-i.i c.loop-i-test.false in
    let few = c.loop-i.invariant.few in
    omega arith

pub returns-clause-values : goal.returns-clause-values
returns-clause-values c =
    let hs : List ℕ = slice_numbers (length c.args.counts.now) c.args.highs.now in
    let many : length hs ≡ length c.args.counts.now = c.requires.highs.count_is in
    sym (parts_done c.args.base c.loop-i.i c.loop-i.next hs c.args.counts.now (drop c.loop-i.offset (take (slices_len c.args.counts.now) c.args.rest.now)) c.loop-i.out c.loop-i-test.false (omega arith))
    ∙ c.loop-i.invariant.values
