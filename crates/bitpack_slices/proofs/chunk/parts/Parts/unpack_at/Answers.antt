-- The numbers of one slice more are written.
use Rattle.std.proofs.Common.{◌≡◌, ◌+◌, ◌-◌, ◌*◌, ◌∙◌, ℕ, List, ap, arith, drop, get_or, length, map, min, subst, sym, take, refl}
use Rattle.std.proofs.lemmas.List.{take_all}
use Rattle.std.proofs.Math.Nat.{min-le_left, min-le_right}
use Rattle.bitpack_slices.proofs.lemmas.bodies.BlockReads.{numbers_few, slice_there}
use Rattle.bitpack_slices.proofs.lemmas.bits.CountLaws.{bytes_are}
use Rattle.bitpack_slices.proofs.lemmas.bytes.DecodeLaws.{first_at, rising_top}
use Rattle.bitpack_slices.proofs.lemmas.bodies.ReadLaws.{offset_fits}
use Rattle.bitpack_slices.proofs.lemmas.numbers.RangeLaws.{AtSlice, map_range, min_less, slice_passed, slice_range}
use Rattle.bitpack_slices.proofs.lemmas.slices.PlaceLaws.{more_written}
use Rattle.bitpack_slices.proofs.chunk.parts.Parts.unpack_at.Goals as goal
use Rattle.bitpack_slices.specs.Slices.{IsSlice, numbers_of, slice_len, slice_numbers}

pub overflow_mul-first : goal.overflow_mul-first
overflow_mul-first c =
    let hs : List ℕ = slice_numbers (length c.args.self.counts.now) c.args.self.highs.now in
    let at = c.loop-next.invariant.at c.loop-next-test.true in
    let many : length hs ≡ length c.args.self.counts.now = c.args.self.occur.count_is in
    let index : ℕ = c.loop-next.index in
    let first = first_at c.unpack_slice.result index c.unpack_slice.new.out hs c.unpack_slice.ensures.values (omega (arith, many, at.within)) in
    let top = rising_top 0 256 index hs c.args.self.occur.rising (omega (arith, many, at.within)) in
    omega arith

pub overflow_add-first : goal.overflow_add-first
overflow_add-first c =
    let hs : List ℕ = slice_numbers (length c.args.self.counts.now) c.args.self.highs.now in
    let at = c.loop-next.invariant.at c.loop-next-test.true in
    let many : length hs ≡ length c.args.self.counts.now = c.args.self.occur.count_is in
    let index : ℕ = c.loop-next.index in
    let first = first_at c.unpack_slice.result index c.unpack_slice.new.out hs c.unpack_slice.ensures.values (omega (arith, many, at.within)) in
    let top = rising_top 0 256 index hs c.args.self.occur.rising (omega (arith, many, at.within)) in
    omega arith

pub unpack_some-next-requires-clause-fits : goal.unpack_some-next-requires-clause-fits
unpack_some-next-requires-clause-fits c =
    let hs : List ℕ = slice_numbers (length c.args.self.counts.now) c.args.self.highs.now in
    let at = c.loop-next.invariant.at c.loop-next-test.true in
    let many : length hs ≡ length c.args.self.counts.now = c.args.self.occur.count_is in
    let index : ℕ = c.loop-next.index in
    let first = first_at c.unpack_slice.result index c.unpack_slice.new.out hs c.unpack_slice.ensures.values (omega (arith, many, at.within)) in
    let top = rising_top 0 256 index hs c.args.self.occur.rising (omega (arith, many, at.within)) in
    omega arith

pub unpack_some-next-requires-clause-size : goal.unpack_some-next-requires-clause-size
unpack_some-next-requires-clause-size c =
    let at = c.loop-next.invariant.at c.loop-next-test.true in
    let fits = offset_fits c.loop-next.index c.args.self.counts.now c.args.self.slices.now c.args.self.are at.within in
    omega (arith, at.offset_is)

pub unpack_some-next-requires-clause-slice : goal.unpack_some-next-requires-clause-slice
unpack_some-next-requires-clause-slice c =
    let at = c.loop-next.invariant.at c.loop-next-test.true in
    let index : ℕ = c.loop-next.index in
    let counts : List ℕ = c.args.self.counts.now in
    let count : ℕ = get_or counts index 0 + 1 in
    subst (λ (n : ℕ). IsSlice count (take (slice_len count) (drop n c.args.self.slices.now))) (sym at.offset_is) (slice_there index counts c.args.self.slices.now c.args.self.are at.within)

pub overflow_add-here : goal.overflow_add-here
overflow_add-here c =
    let counts : List ℕ = c.args.self.counts.now in
    let most = numbers_few counts (bytes_are counts c.args.self.are_bytes) in
    let few = c.args.self.few in
    let within = c.loop-next.invariant.within in
    let long = c.loop-next.invariant.long in
    omega (arith, c.requires.within)

pub overflow_add-offset : goal.overflow_add-offset
overflow_add-offset c =
    let at = c.loop-next.invariant.at c.loop-next-test.true in
    let fits = offset_fits c.loop-next.index c.args.self.counts.now c.args.self.slices.now c.args.self.are at.within in
    omega (arith, at.offset_is, c.byte_len-offset.ensures)

pub loop-next-init : goal.loop-next-init
loop-next-init c =
    let here = c.place_at-here.ensures in
    record {
      long = refl;
      within = omega arith;
      at = λ some. record {
        within = here.slice;
        own = omega (arith, here.own, here.after);
        offset_is = here.place.offset_is;
        passed = omega (arith, here.place.before_is, here.after);
      };
      place = here.place;
      after = omega (arith, here.after);
      values = refl;
    }

pub loop-next-preserved : goal.loop-next-preserved
loop-next-preserved c =
    let counts : List ℕ = c.args.self.counts.now in
    let slices : List ℕ = c.args.self.slices.now in
    let hs : List ℕ = slice_numbers (length counts) c.args.self.highs.now in
    let base : ℕ = c.args.base in
    let from : ℕ = c.args.from in
    let out : List ℕ = c.loop-next.out in
    let index : ℕ = c.loop-next.index in
    let left : ℕ = c.loop-next.left in
    let next : ℕ = c.loop-next.next in
    let offset : ℕ = c.loop-next.offset in
    let count : ℕ = get_or counts index 0 + 1 in
    let end : ℕ = c.unpack_some-next.result in
    let wanted : ℕ = min (count - left) (length out - next) in
    let at = c.loop-next.invariant.at c.loop-next-test.true in
    let within = c.loop-next.invariant.within in
    let long = c.loop-next.invariant.long in
    let own = at.own in
    let passed = at.passed in
    let low = min-le_left (count - left) (length out - next) in
    let high = min-le_right (count - left) (length out - next) in
    let ended : end ≡ next + wanted = c.unpack_some-next.ensures.end in
    let same = c.unpack_some-next.auto.out in
    let many : length hs ≡ length counts = c.args.self.occur.count_is in
    let first = first_at c.unpack_slice.result index c.unpack_slice.new.out hs c.unpack_slice.ensures.values (omega (arith, many, at.within)) in
    let whole : end - next ≡ wanted = omega arith in
    let some : ℕ → ℕ → ℕ → List ℕ = λ h k o. map (λ i. base + 256 * h + i) (take k (drop left (slice_numbers count (take (slice_len count) (drop o slices))))) in
    let part : some (get_or c.unpack_slice.new.out index 0) (end - next) offset ≡ take wanted (drop (from + next) (map (λ i. base + i) (numbers_of hs counts slices))) =
    ap (λ (h : ℕ). some h (end - next) offset) first ∙ ap (λ (k : ℕ). some (get_or hs index 0) k offset) whole ∙ ap (some (get_or hs index 0) wanted) at.offset_is
    ∙ sym (slice_range base index left wanted (from + next) hs counts slices many c.args.self.are at.within (omega arith) passed) in
    record {
      long = same ∙ long;
      within = omega arith;
      at = λ more.
          let w : wanted ≡ count - left = min_less (count - left) (length out - next) (omega arith) in
          let after : from + next + wanted ≡ from + end = omega arith in
          let room = c.requires.within in
          subst (AtSlice counts (index + 1) 0 (offset + c.byte_len-offset.result)) after (slice_passed counts index left offset (from + next) wanted c.byte_len-offset.result at c.byte_len-offset.ensures w (omega arith));
      place = record { within = omega (arith, at.within); offset_is = at.offset_is; before_is = omega arith };
      after = omega arith;
      values = more_written next wanted from end out c.unpack_some-next.new.out _ (map (λ i. base + i) (numbers_of hs counts slices)) ended c.unpack_some-next.ensures.values c.loop-next.invariant.values part;
    }

pub returns-clause-numbers : goal.returns-clause-numbers
returns-clause-numbers c =
    let xs : List ℕ = numbers_of (slice_numbers (length c.args.self.counts.now) c.args.self.highs.now) c.args.self.counts.now c.args.self.slices.now in
    let n : ℕ = length c.args.out.now in
    let long = c.loop-next.invariant.long in
    let end : c.loop-next.next ≡ n = (let within = c.loop-next.invariant.within in omega (arith, c.loop-next-test.false)) in
    let f : ℕ → ℕ = λ i. c.args.base + i in
    sym (take_all c.loop-next.next c.loop-next.out (omega arith)) ∙ c.loop-next.invariant.values
    ∙ ap (λ (k : ℕ). take k (drop c.args.from (map f xs))) end ∙ map_range f n c.args.from xs

pub returns-clause-after : goal.returns-clause-after
returns-clause-after c =
    let long = c.loop-next.invariant.long in
    let within = c.loop-next.invariant.within in
    omega (arith, c.loop-next.invariant.after)
