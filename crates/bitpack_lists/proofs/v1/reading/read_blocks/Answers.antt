-- One block more is appended, and then the tail.
use Rattle.std.proofs.Common.{◌≡◌, ◌+◌, ◌*◌, ◌/◌, ◌<◌, ◌≤◌, ◌++◌, ℕ, List, length, refl, sym, ◌∙◌, ap, arith}
use Rattle.std.proofs.Math.Nat.{sub-zero}
use Rattle.std.proofs.lemmas.Nat.{mul-le}
use Rattle.bitpacking.proofs.ForCallers.{as_many_codes}
use Rattle.bitpack_lists.specs.Parts.{first_kind, tail_values}
use Rattle.bitpack_lists.specs.Version1.{Blocks1}
use Rattle.bitpack_lists.proofs.lemmas.blocks.ReadSteps.{read_step, read_done, right_left, tail_left, after_right}
use Rattle.bitpack_lists.proofs.v1.reading.read_blocks.Goals as goal

pub loop-init : goal.loop-init
loop-init g c =
    let whole : c.BLOCK_LEN.result ≡ 32 * g.P.BitPacker.lanes = c.BLOCK_LEN.ensures ∙ g.met.P.BitPacker.block_len in
    record {
      right = rw (whole, sub-zero) c.requires.sound;
      room = omega (arith, c.requires.room);
      read = λ values words blocks. (values, words, rw (c.first-kind.ensures, sub-zero) blocks, refl);
    }

pub read_block-requires : goal.read_block-requires
read_block-requires g c =
    let lanes : ℕ = g.P.BitPacker.lanes in
    let count : ℕ = c.args.header.count in
    let i : ℕ = c.loop.counter in
    let rest : List ℕ = c.loop.rest.now in
    let n : ℕ = 32 * lanes in
    let whole : c.BLOCK_LEN.result ≡ n = c.BLOCK_LEN.ensures ∙ g.met.P.BitPacker.block_len in
    let some = g.met.P.BitPacker.some_lanes in
    let lt : i < count / n = rw whole at c.loop-test.true in
    let is = right_left lanes (4 * tail_values lanes count) (count / c.BLOCK_LEN.result) i rest c.loop-test.true c.loop.invariant.right in
    let left : n * (i + 1) ≤ n * (count / n) = mul-le n (i + 1) n (count / n) (omega arith) (omega arith) in
    record {
      right = is.0;
      room = omega (arith, left, c.loop.invariant.room, g.met.P.BitPacker.block_len);
    }

pub loop-preserved : goal.loop-preserved
loop-preserved g c =
    let lanes : ℕ = g.P.BitPacker.lanes in
    let count : ℕ = c.args.header.count in
    let i : ℕ = c.loop.counter in
    let rest : List ℕ = c.loop.rest.now in
    let blocks : ℕ = count / c.BLOCK_LEN.result in
    let some = g.met.P.BitPacker.some_lanes in
    let (block, appended, (part, words, is, parts, next)) = c.read_block.ensures.block in
    let right = right_left lanes (4 * tail_values lanes count) blocks i rest c.loop-test.true c.loop.invariant.right in
    let length_of : length block ≡ 32 * lanes = sym (as_many_codes c.loop.kind block) ∙ is.holds.code_count in
    record {
      right = rw (after_right lanes i c.loop.kind block part c.read_block.result.1.now rest words is parts) at right.1;
      room = omega (
        arith,
        length_of,
        appended.len,
        appended.capacity,
        c.loop.invariant.room,
      );
      read = λ values words' is'.
          rw next (read_step lanes blocks i c.loop.kind rest c.read_block.result.1.now c.loop.out.items block part c.read_block.new.out.items
          (c.args.out.now.items ++ values) some c.loop-test.true words is parts appended.items (c.loop.invariant.read values words' is'));
    }

pub read_all-requires : goal.read_all-requires
read_all-requires g c =
    let lanes : ℕ = g.P.BitPacker.lanes in
    let count : ℕ = c.args.header.count in
    let n : ℕ = 32 * lanes in
    let whole : c.BLOCK_LEN.result ≡ n = c.BLOCK_LEN.ensures ∙ g.met.P.BitPacker.block_len in
    let some = g.met.P.BitPacker.some_lanes in
    let long = tail_left lanes (4 * tail_values lanes count) (count / c.BLOCK_LEN.result) c.loop.counter c.loop.rest.now c.loop-test.false c.loop.invariant.right in
    let end : c.loop.counter ≡ count / c.BLOCK_LEN.result = omega arith in
    let all : n * c.loop.counter ≡ n * (count / n) = ap (λ m. n * m) (end ∙ ap (λ m. count / m) whole) in
    record { room = omega (arith, long, all, c.loop.invariant.room) }

pub returns : goal.returns
returns g c =
    let lanes : ℕ = g.P.BitPacker.lanes in
    let count : ℕ = c.args.header.count in
    let whole : c.BLOCK_LEN.result ≡ 32 * lanes = c.BLOCK_LEN.ensures ∙ g.met.P.BitPacker.block_len in
    λ values words is.
    let is' : Blocks1 lanes (count / c.BLOCK_LEN.result) (first_kind c.args.header.kind) values c.args.bytes.now = rw whole is in
    read_done lanes (count / c.BLOCK_LEN.result) c.loop.counter c.loop.kind c.loop.rest.now c.loop.out.items c.read_all.new.out.items
    (c.args.out.now.items ++ values) c.loop-test.false c.read_all.ensures.items (c.loop.invariant.read values words is')
