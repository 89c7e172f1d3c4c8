-- The bytes after each width are the body of its block, and those after the last block are the tail.
use Rattle.std.proofs.Common.{◌≡◌, ◌+◌, ◌-◌, ◌*◌, ◌/◌, ◌<◌, ◌≤◌, ◌++◌, ℕ, List, length, take, drop, get_or, None, ◌∙◌, ap, arith}
use Rattle.std.proofs.Math.Nat.{sub-zero}
use Rattle.std.proofs.lemmas.List.{length-append, length-take-le, length-drop}
use Rattle.bitpacking.specs.Layout.{size}
use Rattle.bitpack_lists.specs.Parts.{tail_values, whole_blocks}
use Rattle.bitpack_lists.specs.Version1.{after_block1, blocks_fault1}
use Rattle.bitpack_lists.proofs.lemmas.blocks.FaultLemmas.{IsRight}
use Rattle.bitpack_lists.proofs.lemmas.blocks.ReadSteps.{after_block-is, right_left}
use Rattle.bitpack_lists.proofs.lemmas.v2.UpgradeSteps.{copied_done, copied_first, copied_step, enough_left, right_length}
use Rattle.bitpack_lists.proofs.v2.upgrading.copy_bodies.Goals as goal

-- The next block, where so many bytes follow its width.
module _ (lanes len count i taken : ℕ) (rest : List ℕ) (whole : len ≡ 32 * lanes) (within : i < count / len) (taken_is : taken ≡ 4 * lanes * get_or rest 0 0)
    (none : blocks_fault1 lanes (4 * tail_values lanes count) i (whole_blocks lanes count - i) rest ≡ None) where
  lt : i < whole_blocks lanes count
  lt = rw whole at within

  is : IsRight lanes rest
  is = (right_left lanes (4 * tail_values lanes count) (whole_blocks lanes count) i rest lt none).0

  later : blocks_fault1 lanes (4 * tail_values lanes count) (i + 1) (whole_blocks lanes count - (i + 1)) (after_block1 lanes rest) ≡ None
  later = (right_left lanes (4 * tail_values lanes count) (whole_blocks lanes count) i rest lt none).1

  after : take (length rest - (1 + taken)) (drop (1 + taken) rest) ≡ after_block1 lanes rest
  after = after_block-is lanes taken rest is.some taken_is

  end : 1 + taken ≤ length rest
  end = omega (arith, is.some, is.room, length-drop 1 rest, taken_is)

  body : take (1 + taken - 1) (drop 1 rest) ≡ take (size lanes (get_or rest 0 0)) (drop 1 rest)
  body =
      let e : 1 + taken - 1 ≡ size lanes (get_or rest 0 0) = omega (arith, taken_is) in
      ap (λ n. take n (drop 1 rest)) e

  length-body : length (take (1 + taken - 1) (drop 1 rest)) ≡ taken
  length-body = length-take-le (1 + taken - 1) (drop 1 rest) (omega (arith, end, length-drop 1 rest)) ∙ omega arith

  long : length rest ≡ 1 + taken + length (after_block1 lanes rest)
  long = omega (arith, right_length lanes rest is, taken_is)

  -- The blocks after it have a byte each, and then there is the tail.
  enough : whole_blocks lanes count - (i + 1) + 4 * tail_values lanes count ≤ length (after_block1 lanes rest)
  enough = omega (arith, enough_left lanes (4 * tail_values lanes count) (i + 1) (whole_blocks lanes count - (i + 1)) (after_block1 lanes rest) later)

pub loop-init : goal.loop-init
loop-init g c = record {
  right = rw sub-zero c.requires.sound;
  long = omega arith;
  capacity = omega arith;
  copied = λ values entries listed has.
      copied_first g.P.BitPacker.lanes c.args.header.count c.args.header.kind values entries c.args.bytes.now c.args.out.now.items listed has;
}

pub bounds-rest-0 : goal.bounds-rest-0
bounds-rest-0 g c =
    let whole : c.BLOCK_LEN.result ≡ 32 * g.P.BitPacker.lanes = c.BLOCK_LEN.ensures ∙ g.met.P.BitPacker.block_len in
    (right_left g.P.BitPacker.lanes (4 * tail_values g.P.BitPacker.lanes c.args.header.count) (whole_blocks g.P.BitPacker.lanes c.args.header.count) c.loop.counter
    c.loop.rest.now (rw whole at c.loop-test.true) c.loop.invariant.right).0.some

pub slice_bounds-append-end : goal.slice_bounds-append-end
slice_bounds-append-end g c =
    end g.P.BitPacker.lanes c.BLOCK_LEN.result c.args.header.count c.loop.counter c.compressed_block_size-end.result c.loop.rest.now
    (c.BLOCK_LEN.ensures ∙ g.met.P.BitPacker.block_len) c.loop-test.true c.compressed_block_size-end.ensures c.loop.invariant.right

pub append-requires : goal.append-requires
append-requires g c =
    let lanes : ℕ = g.P.BitPacker.lanes in
    let count : ℕ = c.args.header.count in
    let i : ℕ = c.loop.counter in
    let taken : ℕ = c.compressed_block_size-end.result in
    let rest : List ℕ = c.loop.rest.now in
    let whole : c.BLOCK_LEN.result ≡ 32 * lanes = c.BLOCK_LEN.ensures ∙ g.met.P.BitPacker.block_len in
    let below = lt lanes c.BLOCK_LEN.result count i taken rest whole c.loop-test.true c.compressed_block_size-end.ensures c.loop.invariant.right in
    let more = enough lanes c.BLOCK_LEN.result count i taken rest whole c.loop-test.true c.compressed_block_size-end.ensures c.loop.invariant.right in
    let all = long lanes c.BLOCK_LEN.result count i taken rest whole c.loop-test.true c.compressed_block_size-end.ensures c.loop.invariant.right in
    let size_of = length-body lanes c.BLOCK_LEN.result count i taken rest whole c.loop-test.true c.compressed_block_size-end.ensures c.loop.invariant.right in
    record { room = omega (arith, below, more, all, size_of, c.loop.invariant.long, c.loop.invariant.capacity, c.requires.room) }

pub slice_bounds-rest-count : goal.slice_bounds-rest-count
slice_bounds-rest-count g c =
    end g.P.BitPacker.lanes c.BLOCK_LEN.result c.args.header.count c.loop.counter c.compressed_block_size-end.result c.loop.rest.now
    (c.BLOCK_LEN.ensures ∙ g.met.P.BitPacker.block_len) c.loop-test.true c.compressed_block_size-end.ensures c.loop.invariant.right

pub slice_bounds-rest-start : goal.slice_bounds-rest-start
slice_bounds-rest-start g c =
    end g.P.BitPacker.lanes c.BLOCK_LEN.result c.args.header.count c.loop.counter c.compressed_block_size-end.result c.loop.rest.now
    (c.BLOCK_LEN.ensures ∙ g.met.P.BitPacker.block_len) c.loop-test.true c.compressed_block_size-end.ensures c.loop.invariant.right

pub loop-preserved : goal.loop-preserved
loop-preserved g c =
    let lanes : ℕ = g.P.BitPacker.lanes in
    let count : ℕ = c.args.header.count in
    let i : ℕ = c.loop.counter in
    let taken : ℕ = c.compressed_block_size-end.result in
    let rest : List ℕ = c.loop.rest.now in
    let whole : c.BLOCK_LEN.result ≡ 32 * lanes = c.BLOCK_LEN.ensures ∙ g.met.P.BitPacker.block_len in
    let below = lt lanes c.BLOCK_LEN.result count i taken rest whole c.loop-test.true c.compressed_block_size-end.ensures c.loop.invariant.right in
    let left = after lanes c.BLOCK_LEN.result count i taken rest whole c.loop-test.true c.compressed_block_size-end.ensures c.loop.invariant.right in
    let all = long lanes c.BLOCK_LEN.result count i taken rest whole c.loop-test.true c.compressed_block_size-end.ensures c.loop.invariant.right in
    let size_of = length-body lanes c.BLOCK_LEN.result count i taken rest whole c.loop-test.true c.compressed_block_size-end.ensures c.loop.invariant.right in
    let copied = body lanes c.BLOCK_LEN.result count i taken rest whole c.loop-test.true c.compressed_block_size-end.ensures c.loop.invariant.right in
    record {
      right = rw left (later lanes c.BLOCK_LEN.result count i taken rest whole c.loop-test.true c.compressed_block_size-end.ensures c.loop.invariant.right);
      long = rw left (omega (arith, all, size_of, c.append.ensures.len, c.loop.invariant.long));
      capacity = omega (arith, c.append.ensures.capacity, c.loop.invariant.capacity);
      copied = λ values entries listed has.
          rw left (copied_step lanes (whole_blocks lanes count) i c.args.header.kind values entries rest c.args.out.now.items c.loop.out.items c.append.new.out.items
          g.met.P.BitPacker.some_lanes below (c.append.ensures.items ∙ ap (λ xs. c.loop.out.items ++ xs) copied) (c.loop.invariant.copied values entries listed has));
    }

pub returns-clause-bodies : goal.returns-clause-bodies
returns-clause-bodies g c =
    let lanes : ℕ = g.P.BitPacker.lanes in
    let whole : c.BLOCK_LEN.result ≡ 32 * lanes = c.BLOCK_LEN.ensures ∙ g.met.P.BitPacker.block_len in
    λ values entries listed has.
    let (later, bodies, items, tail) = copied_done lanes (whole_blocks lanes c.args.header.count) c.loop.counter c.args.header.kind values entries c.loop.rest.now
    c.args.out.now.items c.loop.out.items (rw whole at c.loop-test.false) (rw whole at c.loop.auto.counter-end) (c.loop.invariant.copied values entries listed has) in (
      later,
      bodies,
      record {
        items = items;
        len = omega (arith, ap length items, length-append c.args.out.now.items later, c.loop.out.ok, c.args.out.now.ok);
        capacity = c.loop.invariant.capacity;
      },
      tail,
    )

pub returns-clause-len : goal.returns-clause-len
returns-clause-len g c =
    let lanes : ℕ = g.P.BitPacker.lanes in
    let whole : c.BLOCK_LEN.result ≡ 32 * lanes = c.BLOCK_LEN.ensures ∙ g.met.P.BitPacker.block_len in
    let low : whole_blocks lanes c.args.header.count ≤ c.loop.counter = rw whole at c.loop-test.false in
    let high : c.loop.counter ≤ whole_blocks lanes c.args.header.count = rw whole at c.loop.auto.counter-end in
    omega (arith, low, high, c.loop.invariant.long)
