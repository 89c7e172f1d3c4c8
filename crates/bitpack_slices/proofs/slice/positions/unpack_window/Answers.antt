-- The numbers of one byte more are written.
use Rattle.std.proofs.Common.{ℕ, ◌+◌, ◌*◌, ◌/◌, ◌%◌, ◌^◌, ◌≡◌, ◌<◌, ◌≤◌, ◌++◌, map, take, ap, sym, ◌∙◌, arith, List, bit_and, refl, replicate}
use Rattle.bitpack_slices.proofs.lemmas.bits.OnesLaws.{ones_few}
use Rattle.bitpack_slices.proofs.lemmas.bits.RowLaws.{bytes_counted, bytes_more, lanes_first, lanes_more}
use Rattle.bitpack_slices.proofs.slice.positions.unpack_window.Goals as goal
use Rattle.bitpack_slices.specs.Slices.{ones_from}

whole : (base i : ℕ) → base + 64 ≤ 2 ^ 32 → i < 8 → (base + 8 * i) % 2 ^ 32 ≡ base + 8 * i
whole base i fits lt = omega (arith, fits, lt)

first : (base : ℕ) → base < 2 ^ 32 → replicate 8 base ≡ replicate 8 ((base + 8 * 0) % 2 ^ 32)
first base fits = let e : base ≡ (base + 8 * 0) % 2 ^ 32 = omega (arith, fits) in ap (replicate 8) e

pub loop-i-init : goal.loop-i-init
unfolding ones_from
loop-i-init c = record { room = c.requires.room; lanes = first c.args.base c.ranges.base.fits; count = refl; values = refl }

pub unpack_byte-next-requires-clause-room : goal.unpack_byte-next-requires-clause-room
unpack_byte-next-requires-clause-room c = let few = ones_few c.args.word 0 (8 * c.loop-i.i) in omega (arith, c.loop-i.invariant.room, c.loop-i.invariant.count)

pub unpack_byte-next-requires-clause-base : goal.unpack_byte-next-requires-clause-base
unpack_byte-next-requires-clause-base c =
    let one = lanes_first c.args.base c.loop-i.i c.loop-i.lanes c.loop-i.invariant.lanes c.requires.fits (omega arith) in
    let all = whole c.args.base c.loop-i.i c.requires.fits (omega arith) in
    c.loop-i.invariant.lanes ∙ ap (replicate 8) (all ∙ sym one)

pub unpack_byte-next-requires-clause-fits : goal.unpack_byte-next-requires-clause-fits
unpack_byte-next-requires-clause-fits c =
    let one = lanes_first c.args.base c.loop-i.i c.loop-i.lanes c.loop-i.invariant.lanes c.requires.fits (omega arith) in
    omega (arith, c.requires.fits)

pub loop-i-preserved : goal.loop-i-preserved
loop-i-preserved c =
    let more = bytes_counted c.loop-i.i c.args.word in
    let byte : List ℕ = map (λ i. c.args.base + 8 * c.loop-i.i + i) (ones_from (bit_and (c.args.word / 2 ^ (8 * c.loop-i.i)) 255) 0 8) in
    let one = lanes_first c.args.base c.loop-i.i c.loop-i.lanes c.loop-i.invariant.lanes c.requires.fits (omega arith) in
    record {
      room = omega (arith, c.loop-i.invariant.room, c.unpack_byte-next.auto.out);
      lanes = lanes_more c.args.base c.loop-i.i c.loop-i.lanes c.loop-i.invariant.lanes;
      count = omega (arith, c.loop-i.invariant.count, c.unpack_byte-next.ensures.end);
      values = c.unpack_byte-next.ensures.values
          ∙ ap (λ (n : ℕ). take c.loop-i.next c.loop-i.window ++ map (λ i. n + i) (ones_from (bit_and (c.args.word / 2 ^ (8 * c.loop-i.i)) 255) 0 8)) one
          ∙ ap (λ (l : List ℕ). l ++ byte) c.loop-i.invariant.values ∙ sym (bytes_more c.args.base c.loop-i.i c.args.word);
    }
