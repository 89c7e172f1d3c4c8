-- One slice more is counted.
use Rattle.std.proofs.Common.{◌≡◌, ◌+◌, ◌-◌, ◌*◌, ◌∙◌, ℕ, Bool, List, leb, ap, arith, drop, eqb, take, get_or, length, refl, subst, sym}
use Rattle.std.proofs.lemmas.Bool.{lt-leb}
use Rattle.bitpack_slices.proofs.lemmas.bits.CountLaws.{rising_to}
use Rattle.bitpack_slices.proofs.lemmas.bodies.BoundLaws.{bounds_counted}
use Rattle.bitpack_slices.proofs.lemmas.bodies.BoundSlices.{bounds_done, bounds_more, end_of, end_within, numbers_rise, runs_few}
use Rattle.bitpack_slices.proofs.lemmas.bodies.PartialLaws.{partial_few}
use Rattle.bitpack_slices.proofs.lemmas.bytes.DecodeLaws.{first_at, rising_top, slices_step}
use Rattle.bitpack_slices.proofs.chunk.parts.Parts.has_few_bounds.Goals as goal
use Rattle.bitpack_slices.proofs.chunk.parts.Parts.has_few_bounds.Goals.{else-goes_on, then-goes_on}
use Rattle.bitpack_slices.specs.Bodies.{IsRising}
use Rattle.bitpack_slices.specs.Runs.{boundaries}
use Rattle.bitpack_slices.specs.Slices.{AreSlices, numbers_of, slice_len, slice_numbers}

pub loop-i-init : goal.loop-i-init
loop-i-init c =
    let counts : List ℕ = c.args.self.counts.now in
    let hs : List ℕ = slice_numbers (length counts) c.args.self.highs.now in
    let rises : IsRising 0 65536 (numbers_of hs counts c.args.self.slices.now) = numbers_rise 0 hs counts c.args.self.slices.now c.args.self.occur.rising c.args.self.are in
    let all = bounds_counted (numbers_of hs counts c.args.self.slices.now) rises in
    record { within = omega arith; are = c.args.self.are; few = omega arith; past = λ some ne. absurd (ne refl); counted = omega arith }

pub returns-then-count_partial-most : goal.returns-then-count_partial-most
returns-then-count_partial-most c =
    let counts : List ℕ = c.args.self.counts.now in
    let slices : List ℕ = c.args.self.slices.now in
    let hs : List ℕ = slice_numbers (length counts) c.args.self.highs.now in
    let few = partial_few hs counts slices c.args.self.occur.count_is c.args.self.occur.rising c.args.self.are in
    sym (lt-leb (length (boundaries (numbers_of hs counts slices))) c.args.most (omega (arith, c.count_partial.ensures, c.if-count_partial-most.true)))

pub overflow_mul-first : goal.overflow_mul-first
overflow_mul-first c =
    let hs : List ℕ = slice_numbers (length c.args.self.counts.now) c.args.self.highs.now in
    let many : length hs ≡ length c.args.self.counts.now = c.args.self.occur.count_is in
    let first = first_at c.unpack_slice.result c.loop-i.i c.unpack_slice.new.out hs c.unpack_slice.ensures.values (omega arith) in
    let top = rising_top 0 256 c.loop-i.i hs c.args.self.occur.rising (omega arith) in
    omega arith

pub overflow_add-runs : goal.overflow_add-runs
overflow_add-runs c =
    let offset : ℕ = c.loop-i.offset in
    let more = runs_few (slice_numbers (get_or c.args.self.counts.now c.loop-i.i 0 + 1) (take (offset + c.byte_len-size.result - offset) (drop offset c.args.self.slices.now)))
    (eqb c.loop-i.end (256 * get_or c.unpack_slice.new.out c.loop-i.i 0)) in
    let few = c.loop-i.invariant.few in
    omega (arith, c.requires, c.runs_in-more.ensures.runs)

pub overflow_mul-runs : goal.overflow_mul-runs
overflow_mul-runs c =
    let offset : ℕ = c.loop-i.offset in
    let more = runs_few (slice_numbers (get_or c.args.self.counts.now c.loop-i.i 0 + 1) (take (offset + c.byte_len-size.result - offset) (drop offset c.args.self.slices.now)))
    (eqb c.loop-i.end (256 * get_or c.unpack_slice.new.out c.loop-i.i 0)) in
    let few = c.loop-i.invariant.few in
    omega (arith, c.requires, c.runs_in-more.ensures.runs)

pub returns-then-runs-most : goal.returns-then-runs-most
returns-then-runs-most c =
    let counts : List ℕ = c.args.self.counts.now in
    let slices : List ℕ = c.args.self.slices.now in
    let hs : List ℕ = slice_numbers (length counts) c.args.self.highs.now in
    let i : ℕ = c.loop-i.i in
    let many : length hs ≡ length counts = c.args.self.occur.count_is in
    let first = first_at c.unpack_slice.result i c.unpack_slice.new.out hs c.unpack_slice.ensures.values (omega arith) in
    let more = bounds_more c.loop-i.end (end_of c.runs_in-more.result.1 (256 * get_or c.unpack_slice.new.out i 0 + 256)) i c.loop-i.offset c.byte_len-size.result
    (256 * get_or c.unpack_slice.new.out i 0) c.runs_in-more.result.0 c.runs_in-more.result.1 hs counts slices c.args.self.occur.rising many c.loop-i-test.true c.loop-i.invariant.are
    (c.loop-i.invariant.past c.loop-i-test.true) c.byte_len-size.ensures (ap (λ (h : ℕ). 256 * h) first) c.runs_in-more.ensures.runs c.runs_in-more.ensures.last refl in
    let counted = c.loop-i.invariant.counted in
    let many_runs = c.if-runs-most.true in
    sym (lt-leb (length (boundaries (numbers_of hs counts slices))) c.args.most (omega arith))

pub overflow_add-end : goal.overflow_add-end
overflow_add-end c =
    let hs : List ℕ = slice_numbers (length c.args.self.counts.now) c.args.self.highs.now in
    let many : length hs ≡ length c.args.self.counts.now = c.args.self.occur.count_is in
    let first = first_at c.unpack_slice.result c.loop-i.i c.unpack_slice.new.out hs c.unpack_slice.ensures.values (omega arith) in
    let top = rising_top 0 256 c.loop-i.i hs c.args.self.occur.rising (omega arith) in
    omega arith

pub loop-i-preserved : goal.loop-i-preserved
loop-i-preserved c =
    let counts : List ℕ = c.args.self.counts.now in
    let slices : List ℕ = c.args.self.slices.now in
    let hs : List ℕ = slice_numbers (length counts) c.args.self.highs.now in
    let i : ℕ = c.loop-i.i in
    let size : ℕ = c.byte_len-size.result in
    let next : ℕ = 256 * get_or c.unpack_slice.new.out i 0 + 256 in
    let many : length hs ≡ length counts = c.args.self.occur.count_is in
    let first = first_at c.unpack_slice.result i c.unpack_slice.new.out hs c.unpack_slice.ensures.values (omega arith) in
    let end_is : c.if-goes_on.end ≡ end_of c.runs_in-more.result.1 next = elim c.if-goes_on.branch [
      | then-goes_on w ↦ w.end-is ∙ ap (λ (b : Bool). end_of b next) (sym w.if-goes_on.true)
      | else-goes_on w ↦ w.end-is ∙ ap (λ (b : Bool). end_of b next) (sym w.if-goes_on.false)
    ] in
    let more = bounds_more c.loop-i.end c.if-goes_on.end i c.loop-i.offset size
    (256 * get_or c.unpack_slice.new.out i 0) c.runs_in-more.result.0 c.runs_in-more.result.1 hs counts slices c.args.self.occur.rising many c.loop-i-test.true c.loop-i.invariant.are
    (c.loop-i.invariant.past c.loop-i-test.true) c.byte_len-size.ensures (ap (λ (h : ℕ). 256 * h) first) c.runs_in-more.ensures.runs c.runs_in-more.ensures.last end_is in
    let counted = c.loop-i.invariant.counted in
    let (within, are) = slices_step i c.loop-i.offset counts slices c.loop-i.invariant.are c.loop-i-test.true c.loop-i.invariant.within in
    let long : size ≡ slice_len (get_or counts i 0 + 1) = c.byte_len-size.ensures in
    record {
      within = omega arith;
      are = subst (λ (s : ℕ). AreSlices (drop (i + 1) counts) (drop (c.loop-i.offset + s) slices)) (sym long) are;
      few = omega (arith, c.if-runs-most.false);
      past = λ some ne.
          let up = rising_to 0 256 hs c.args.self.occur.rising i (omega arith) in
          end_within c.runs_in-more.result.1 c.if-goes_on.end next (256 * get_or hs (i + 1) 0) end_is (omega arith) ne;
      counted = omega arith;
    }

pub overflow_sub-result : goal.overflow_sub-result
overflow_sub-result c =
    let counts : List ℕ = c.args.self.counts.now in
    let hs : List ℕ = slice_numbers (length counts) c.args.self.highs.now in
    let many : length hs ≡ length counts = c.args.self.occur.count_is in
    let all = bounds_done c.loop-i.runs c.loop-i.end c.loop-i.i _ hs (drop c.loop-i.i counts) (drop c.loop-i.offset c.args.self.slices.now) (omega arith) c.loop-i.invariant.counted in
    omega (arith, all)

pub returns : goal.returns
returns c =
    let counts : List ℕ = c.args.self.counts.now in
    let slices : List ℕ = c.args.self.slices.now in
    let hs : List ℕ = slice_numbers (length counts) c.args.self.highs.now in
    let many : length hs ≡ length counts = c.args.self.occur.count_is in
    let n : ℕ = length (boundaries (numbers_of hs counts slices)) in
    let all = bounds_done c.loop-i.runs c.loop-i.end c.loop-i.i n hs (drop c.loop-i.i counts) (drop c.loop-i.offset slices) (omega arith) c.loop-i.invariant.counted in
    ap (λ (k : ℕ). leb k c.args.most) (omega (arith, all))
