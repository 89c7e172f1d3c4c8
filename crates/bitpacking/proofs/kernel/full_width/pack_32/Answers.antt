-- One register of codes more is stored; after the last one the words are the layout.
use Rattle.std.proofs.Common.{List, ◌++◌, ◌≡◌, ℕ, ◌+◌, ◌*◌, ◌<◌, ◌≤◌, take, drop, sym, ◌∙◌, ap, ⊎_elim, refl, arith}
use Rattle.std.proofs.lemmas.List.{length-take}
use Rattle.std.proofs.lemmas.Bool.{cases_lt}
use Rattle.std.proofs.lemmas.Nat.{mul-le}
use Rattle.bitpacking.proofs.Digits.{joined-same}
use Rattle.bitpacking.proofs.LaneEquations.{lane_code, lane_word, Layout-from_lanes}
use Rattle.bitpacking.proofs.WordsOfParts.{row_after, row_at}
use Rattle.bitpacking.proofs.RowSteps.{codes_step, rest_step}
use Rattle.bitpacking.proofs.FrontWords.{joined-front, AreBytes-take}
use Rattle.bitpacking.proofs.kernel.full_width.pack_32.Goals as goal

pub registers-init : goal.registers-init
registers-init g c =
    let none : g.R.Register.LANES * 0 ≡ 0 = omega arith in
    record {
      codes = rw none (ap (λ f. f c.args.source.now.words.now) (sym c.after-transformer.ensures));
      done = λ lane lt q h. absurd (omega (arith, h));
      are_bytes = c.requires.can.are_bytes;
      rest = refl;
      same_reference = refl;
      same_room = refl;
      loads = omega arith;
      stores = omega arith;
      inside = refl;
      held = omega arith;
    }

pub registers-preserved : goal.registers-preserved
registers-preserved g c =
    let lanes : ℕ = g.R.Register.LANES in
    let i : ℕ = c.registers.i in
    let count = g.met.R.Register.words_count in
    let values : List ℕ = c.args.source.now.words.now in
    let all : List ℕ = g.T.Transformer.block_codes c.args.start values in
    let codes : List ℕ = g.R.Register.words c.transform-codes.result in
    let left : List ℕ = g.T.Transformer.codes c.transform-codes.new.self (drop (lanes * (i + 1)) values) in
    let given : drop (lanes * i) all ≡ codes ++ left =
    codes_step lanes i all values (g.R.Register.words c.load.result) codes (g.T.Transformer.codes c.registers.transformer)
    (g.T.Transformer.codes c.transform-codes.new.self) c.registers.invariant.codes c.load.ensures.words c.transform-codes.ensures in
    record {
      codes = row_after lanes i all codes left (count c.transform-codes.result) given;
      done = λ lane lt q hq. ⊎_elim
          (λ (below : q < i).
          c.store.ensures.before (lanes * q + lane)
          (omega (arith, mul-le lanes (q + 1) lanes i (omega arith) (omega arith)))
          ∙ c.registers.invariant.done lane lt q below)
          (λ (ge : i ≤ q).
          let e : q ≡ i = omega arith in
          rw e (c.store.ensures.stored lane lt
          ∙ sym (row_at lanes i all codes left lane (count c.transform-codes.result) given lt)))
          (cases_lt q i);
      are_bytes = c.store.ensures.are_bytes;
      rest = rest_step (4 * lanes) i 32 c.store.new.self.bytes.now c.registers.target.bytes.now c.args.target.now.bytes.now
          c.registers-test.true c.store.ensures.rest c.registers.invariant.rest;
      same_reference = c.store.ensures.same_reference ∙ c.registers.invariant.same_reference;
      same_room = c.store.ensures.room ∙ c.registers.invariant.same_room;
      loads = omega (arith, c.registers.invariant.loads, c.load.ensures.counts.loads, c.store.ensures.counts.loads);
      stores = omega (arith, c.registers.invariant.stores, c.load.ensures.counts.stores, c.store.ensures.counts.stores);
      inside = omega (arith, c.registers.invariant.inside, c.requires.can.bits, c.load.ensures.counts.inside, c.store.ensures.counts.inside);
      held = omega (arith, c.registers.invariant.held, c.registers.invariant.inside, c.requires.can.bits, c.load.ensures.counts.held, c.store.ensures.counts.held);
    }

pub returns-clause-packed : goal.returns-clause-packed
returns-clause-packed g c =
    let lanes : ℕ = g.R.Register.LANES in
    let bytes : List ℕ = c.registers.target.bytes.now in
    let values : List ℕ = c.args.source.now.words.now in
    let all : List ℕ = g.T.Transformer.block_codes c.args.start values in
    record {
      same_reference = c.registers.invariant.same_reference;
      packed = record {
        layout = λ fits. Layout-from_lanes lanes 32 all (take (4 * lanes * 32) bytes)
            (AreBytes-take bytes (4 * lanes * 32) c.registers.invariant.are_bytes)
            g.met.R.Register.some_lanes (g.met.T.Transformer.codes_count c.args.start values ∙ c.requires.can.can.whole)
            (simp length-take (omega (arith, c.registers.invariant.same_room, c.requires.can.can.room))) fits
            (λ lane lt. record {
              same =
                  joined-front lanes 32 bytes lane lt
                  ∙ joined-same 32 (lane_word lanes bytes lane) (lane_code lanes all lane) 32
                  (λ q hq. c.registers.invariant.done lane lt q (omega arith));
            });
        rest = c.registers.invariant.rest;
        count = ap (λ n. 4 * n * 32) c.LANES.ensures;
      };
    }
