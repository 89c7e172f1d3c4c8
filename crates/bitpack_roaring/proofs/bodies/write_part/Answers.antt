-- Each form of the container.
use Rattle.std.proofs.Common.{◌≡◌, ◌+◌, ◌*◌, ◌++◌, ◌∙◌, List, ap, arith, length, subst, sym, ℕ}
use Rattle.std.specs.List.{flat_map}
use Rattle.std.proofs.lemmas.List.{length-map, length-take-le}
use Rattle.bitpack_groups.proofs.ForCallers.{little_len}
use Rattle.bitpack_slices.proofs.ForCallers.{bounds_rise, flat_len, those_are}
use Rattle.bitpack_slices.specs.Bitmaps.{has_bit}
use Rattle.bitpack_slices.specs.Bodies.{IsRising, bits, le_bytes}
use Rattle.bitpack_slices.specs.Operations.{those}
use Rattle.bitpack_roaring.proofs.PartLaws.{take_front}
use Rattle.bitpack_roaring.proofs.WrittenLaws.{array_size, bits_size, container_array, container_bits, container_runs, lows_written, runs_size}
use Rattle.bitpack_roaring.specs.inner.Runs.{run_bytes, runs_between}
use Rattle.bitpack_roaring.proofs.bodies.write_part.Goals as goal

-- ---- runs

pub list_bounds-count-requires-clause-runs : goal.list_bounds-count-requires-clause-runs
list_bounds-count-requires-clause-runs c = sym c.requires.run ∙ c.if-run.true

pub write_runs-requires-clause-rising : goal.write_runs-requires-clause-rising
write_runs-requires-clause-rising c = subst (IsRising 0 65536) (sym c.list_bounds-count.ensures.bounds) (bounds_rise _ c.requires.part.rising)

pub write_runs-requires-clause-room : goal.write_runs-requires-clause-room
write_runs-requires-clause-room c =
    let size = runs_size _ c.requires.part.rising (sym c.requires.run ∙ c.if-run.true) in
    let same = ap (λ (l : List ℕ). 2 + 4 * length (runs_between l)) c.list_bounds-count.ensures.bounds in
    omega (arith, c.requires.room)

pub returns-then-run-clause-end : goal.returns-then-run-clause-end
returns-then-run-clause-end c =
    c.write_runs.ensures.end ∙ ap (λ (l : List ℕ). 2 + 4 * length (runs_between l)) c.list_bounds-count.ensures.bounds
    ∙ sym (runs_size _ c.requires.part.rising (sym c.requires.run ∙ c.if-run.true))

pub returns-then-run-clause-written : goal.returns-then-run-clause-written
returns-then-run-clause-written c =
    c.write_runs.ensures.written ∙ ap (λ (l : List ℕ). le_bytes 2 (length (runs_between l)) ++ run_bytes (runs_between l)) c.list_bounds-count.ensures.bounds
    ∙ sym (container_runs _ c.requires.part.rising (sym c.requires.run ∙ c.if-run.true))

-- ---- an array

pub copy_ids-requires-clause-within : goal.copy_ids-requires-clause-within
copy_ids-requires-clause-within c = c.requires.part.next.few

pub slice_bounds-write_integers-end : goal.slice_bounds-write_integers-end
slice_bounds-write_integers-end c =
    let count = c.requires.part.count_is in
    let size = array_size _ (sym c.requires.run ∙ c.if-run.false) (omega (arith, c.if-part-le-LONGEST_ARRAY.true)) in
    omega (arith, c.requires.room)

pub slice_bounds-write_integers-end-then-part-le-LONGEST_ARRAY : goal.slice_bounds-write_integers-end-then-part-le-LONGEST_ARRAY
slice_bounds-write_integers-end-then-part-le-LONGEST_ARRAY c =
    let count = c.requires.part.count_is in
    let size = array_size _ (sym c.requires.run ∙ c.if-run.false) (omega (arith, c.if-part-le-LONGEST_ARRAY.true)) in
    sym (length-take-le (2 * c.args.part.count) c.args.out.now (omega (arith, c.requires.room)))

pub write_integers-requires : goal.write_integers-requires
write_integers-requires c =
    let count = c.requires.part.count_is in
    let size = array_size _ (sym c.requires.run ∙ c.if-run.false) (omega (arith, c.if-part-le-LONGEST_ARRAY.true)) in
    let own : length c.copy_ids.new.out ≡ c.args.part.count = ap length (c.copy_ids.ensures ∙ c.requires.part.ids_are) ∙ length-map _ (λ x. c.args.part.key * 65536 + x) ∙ sym count in
    length-take-le (2 * c.args.part.count) c.args.out.now (omega (arith, c.requires.room)) ∙ ap (λ (n : ℕ). 2 * n) (sym own)

pub returns-then-part-le-LONGEST_ARRAY-clause-end : goal.returns-then-part-le-LONGEST_ARRAY-clause-end
returns-then-part-le-LONGEST_ARRAY-clause-end c =
    let count = c.requires.part.count_is in
    ap (λ (n : ℕ). 2 * n) count ∙ sym (array_size _ (sym c.requires.run ∙ c.if-run.false) (omega (arith, c.if-part-le-LONGEST_ARRAY.true)))

pub returns-then-part-le-LONGEST_ARRAY-clause-written : goal.returns-then-part-le-LONGEST_ARRAY-clause-written
returns-then-part-le-LONGEST_ARRAY-clause-written c =
    let count = c.requires.part.count_is in
    let size : length c.write_integers.new.out ≡ 2 * length c.copy_ids.new.out = ap length c.write_integers.ensures ∙ flat_len 2 c.copy_ids.new.out in
    take_front (2 * c.args.part.count) c.write_integers.new.out _ (omega arith) ∙ c.write_integers.ensures ∙ ap (flat_map (le_bytes 2)) (c.copy_ids.ensures ∙ c.requires.part.ids_are)
    ∙ lows_written c.args.part.key _ ∙ sym (container_array _ (sym c.requires.run ∙ c.if-run.false) (omega (arith, c.if-part-le-LONGEST_ARRAY.true)))

-- ---- bits

pub slice_bounds-write_words-end-2 : goal.slice_bounds-write_words-end-2
slice_bounds-write_words-end-2 c =
    let count = c.requires.part.count_is in
    let size = bits_size _ (sym c.requires.run ∙ c.if-run.false) (omega (arith, c.if-part-le-LONGEST_ARRAY.false)) in
    omega (arith, c.requires.room)

pub slice_bounds-write_words-end-3 : goal.slice_bounds-write_words-end-3
slice_bounds-write_words-end-3 c =
    let count = c.requires.part.count_is in
    let size = bits_size _ (sym c.requires.run ∙ c.if-run.false) (omega (arith, c.if-part-le-LONGEST_ARRAY.false)) in
    sym (length-take-le 8192 c.args.out.now (omega (arith, c.requires.room)))

pub write_words-requires : goal.write_words-requires
write_words-requires c =
    let count = c.requires.part.count_is in
    let size = bits_size _ (sym c.requires.run ∙ c.if-run.false) (omega (arith, c.if-part-le-LONGEST_ARRAY.false)) in
    length-take-le 8192 c.args.out.now (omega (arith, c.requires.room)) ∙ ap (λ (n : ℕ). 8 * n) (sym c.load_numbers.array_long)

pub returns-clause-end : goal.returns-clause-end
returns-clause-end c = let count = c.requires.part.count_is in sym (bits_size _ (sym c.requires.run ∙ c.if-run.false) (omega (arith, c.if-part-le-LONGEST_ARRAY.false)))

pub returns-clause-written : goal.returns-clause-written
returns-clause-written c =
    let count = c.requires.part.count_is in
    let words = c.load_numbers.new.words in
    let is : c.write_words.new.out ≡ le_bytes 8192 (bits (those 65536 (has_bit words))) =
    c.write_words.ensures ∙ ap (λ (n : ℕ). le_bytes (8 * n) (bits (those (64 * n) (has_bit words)))) c.load_numbers.array_long in
    take_front 8192 c.write_words.new.out _ (sym (ap length is ∙ little_len 8192 _)) ∙ is ∙ ap (λ (l : List ℕ). le_bytes 8192 (bits l)) (those_are (has_bit words) 65536 _ c.requires.part.rising c.load_numbers.ensures)
    ∙ sym (container_bits _ (sym c.requires.run ∙ c.if-run.false) (omega (arith, c.if-part-le-LONGEST_ARRAY.false)))
