-- One register of codes more is loaded and stored as values.
use Rattle.std.proofs.Common.{List, ◌≡◌, ℕ, ◌+◌, ◌*◌, take, refl, sym, ◌∙◌, ap, arith}
use Rattle.std.proofs.lemmas.List.{length-take}
use Rattle.std.proofs.lemmas.Nat.{mul-le}
use Rattle.bitpacking.specs.Layout.{codes_of, Layout}
use Rattle.bitpacking.proofs.OneToOne.{Layout-codes_of}
use Rattle.bitpacking.proofs.LaneEquations.{word-lt, lane_word}
use Rattle.bitpacking.proofs.UnpackedLane.{digit, digit-joined, digit-code}
use Rattle.bitpacking.proofs.FrontWords.{joined-front, AreBytes-take}
use Rattle.bitpacking.proofs.RowSteps.{values_step, values_done, rest_step}
use Rattle.bitpacking.proofs.kernel.full_width.unpack_32.Goals as goal

pub loop-i-init : goal.loop-i-init
loop-i-init g c =
    let lanes : ℕ = g.R.Register.LANES in
    let none : lanes * 0 ≡ 0 = omega arith in
    record {
      rows_stored = c.after-sink.ensures.rows_stored;
      done = rw none (ap (λ f. f (codes_of lanes 32 (take (4 * lanes * 32) c.args.source.now.bytes.now))) c.after-sink.ensures.values);
      rest = refl;
      same_reference = refl;
      same_room = refl;
      same_bits = refl;
      loads = omega arith;
      stores = omega arith;
      inside = refl;
      held = omega arith;
    }

pub put-requires-clause-within : goal.put-requires-clause-within
put-requires-clause-within g c =
    let lanes : ℕ = g.R.Register.LANES in
    rw c.loop-i.invariant.rows_stored
    (omega (arith, c.loop-i.invariant.same_room, c.requires.can.can.room, mul-le lanes (c.loop-i.i + 1) lanes 32 (omega arith) (omega (arith, c.loop-i-test.true))))

pub put-requires-clause-loaded : goal.put-requires-clause-loaded
put-requires-clause-loaded g c =
    omega (arith, c.loop-i.invariant.same_bits, c.requires.can.bits, c.load-codes.ensures.counts.inside)

pub loop-i-preserved : goal.loop-i-preserved
loop-i-preserved g c =
    let lanes : ℕ = g.R.Register.LANES in
    let i : ℕ = c.loop-i.i in
    let source : List ℕ = c.args.source.now.bytes.now in
    let front : List ℕ = take (4 * lanes * 32) source in
    let codes : List ℕ = codes_of lanes 32 front in
    let layout : Layout lanes 32 codes front = Layout-codes_of lanes 32 front (simp length-take (omega (arith, c.requires.can.can.whole))) in
    let rows_stored : g.S.Sink.rows_stored c.loop-i.sink ≡ i = c.loop-i.invariant.rows_stored in
    record {
      rows_stored = c.put.ensures.rows_stored ∙ ap (λ n. n + 1) rows_stored;
      done = values_step lanes i codes (g.R.Register.words c.load-codes.result) c.loop-i.target.words.now c.put.new.target.words.now
          (g.S.Sink.block_values c.args.start codes) (g.S.Sink.values c.loop-i.sink) (g.S.Sink.values c.put.new.self)
          layout.code_count c.loop-i-test.true (g.met.R.Register.words_count c.load-codes.result)
          (λ l lt. c.load-codes.ensures.words l lt
          ∙ sym (digit-joined 32 (lane_word lanes source l) 32 i
          (λ q h. word-lt source c.requires.can.are_bytes (lanes * q + l)) c.loop-i-test.true)
          ∙ ap (λ x. digit 32 x i) (sym (joined-front lanes 32 source l lt))
          ∙ digit-code lanes 32 codes front (AreBytes-take source (4 * lanes * 32) c.requires.can.are_bytes) layout l lt i c.loop-i-test.true)
          (rw rows_stored at c.put.ensures.stored)
          c.loop-i.invariant.done;
      rest = rest_step lanes i 32 c.put.new.target.words.now c.loop-i.target.words.now c.args.target.now.words.now
          c.loop-i-test.true (rw rows_stored at c.put.ensures.rest) c.loop-i.invariant.rest;
      same_reference = c.put.ensures.same_reference ∙ c.loop-i.invariant.same_reference;
      same_room = c.put.ensures.room ∙ c.loop-i.invariant.same_room;
      same_bits = c.put.ensures.bits ∙ c.loop-i.invariant.same_bits;
      loads = omega (arith, c.loop-i.invariant.loads, c.load-codes.ensures.counts.loads, c.put.ensures.counts.loads);
      stores = omega (arith, c.loop-i.invariant.stores, c.load-codes.ensures.counts.stores, c.put.ensures.counts.stores);
      inside = omega (arith, c.loop-i.invariant.inside, c.requires.can.bits, c.loop-i.invariant.same_bits, c.load-codes.ensures.counts.inside, c.put.ensures.counts.inside);
      held = omega (arith, c.loop-i.invariant.held, c.loop-i.invariant.inside, c.load-codes.ensures.counts.held, c.put.ensures.counts.held);
    }

pub returns-clause-unpacked : goal.returns-clause-unpacked
returns-clause-unpacked g c =
    let lanes : ℕ = g.R.Register.LANES in
    let front : List ℕ = take (4 * lanes * 32) c.args.source.now.bytes.now in
    let codes : List ℕ = codes_of lanes 32 front in
    let layout : Layout lanes 32 codes front = Layout-codes_of lanes 32 front (simp length-take (omega (arith, c.requires.can.can.whole))) in
    let block : lanes * 32 ≡ 32 * lanes = omega arith in
    record {
      same_reference = c.loop-i.invariant.same_reference;
      unpacked = record {
        block = (
          codes,
          layout,
          values_done lanes c.loop-i.i codes c.loop-i.target.words.now (g.S.Sink.block_values c.args.start codes)
              (g.S.Sink.values c.loop-i.sink) (omega arith) layout.code_count (g.met.S.Sink.values_of_none c.loop-i.sink)
              c.loop-i.invariant.done,
        );
        rest = rw block at c.loop-i.invariant.rest;
        count = ap (λ n. 4 * n * 32) c.LANES.ensures;
      };
    }
