-- One block more is unpacked from the bytes after those read.
use Rattle.std.proofs.Common.{◌≡◌, ℕ, ◌+◌, ◌-◌, ◌*◌, ◌<◌, ◌≤◌, List, ◌∷◌, [], ◌++◌, length, take, drop, get_or, sum, add-one, refl, ◌∙◌, ap, arith}
use Rattle.std.proofs.Math.Seq.{take-add, take-suc}
use Rattle.std.proofs.lemmas.List.{take_all, length-take, length-drop}
use Rattle.std.proofs.lemmas.Nat.{mul-le}
use Rattle.bitpacking.specs.Layout.{size}
use Rattle.bitpack_lists.specs.Chains.{next_kind}
use Rattle.bitpack_lists.proofs.lemmas.blocks.ChainLemmas.{Loose_step, Loose_done, length-block, drop-further, sum-more, sum-prefix, take-put_block, drop-put_block}
use Rattle.bitpack_lists.proofs.chain.unpack_all.Goals as goal

-- The bytes up to the end of the next block.
reach : (lanes i : ℕ) (widths bytes : List ℕ) (read : ℕ) → i < length widths → read ≡ 4 * lanes * sum (take i widths)
    → 4 * lanes * sum widths ≤ length bytes
    → (read + size lanes (get_or widths i 0) ≤ length bytes)
    × (take (i + 1) widths ≡ take i widths ++ get_or widths i 0 ∷ [])
reach lanes i widths bytes read lt e room =
    let more : take (i + 1) widths ≡ take i widths ++ get_or widths i 0 ∷ [] = rw add-one (take-suc widths i 0 lt) in
    let total : read + size lanes (get_or widths i 0) ≡ 4 * lanes * sum (take (i + 1) widths) =
    rw more (sum-more lanes read (size lanes (get_or widths i 0)) (get_or widths i 0) (take i widths) e refl) in
    let le : 4 * lanes * sum (take (i + 1) widths) ≤ 4 * lanes * sum widths =
    mul-le (4 * lanes) (sum (take (i + 1) widths)) (4 * lanes) (sum widths) (omega arith) (sum-prefix (i + 1) widths) in
    (omega arith, more)

pub decompress_kind-read-requires : goal.decompress_kind-read-requires
decompress_kind-read-requires g c =
    let lanes : ℕ = g.P.BitPacker.lanes in
    let i : ℕ = c.loop-index.index in
    let values : List ℕ = c.loop-index.values in
    let widths : List ℕ = c.args.widths.now in
    let found = reach lanes i widths c.args.bytes.now c.loop-index.read c.loop-index-test.true c.loop-index.invariant.read c.requires.bytes in
    let all : 32 * lanes * length widths ≤ length c.args.values.now = rw g.met.P.BitPacker.block_len at c.requires.room in
    let long = length-block (32 * lanes) c.BLOCK_LEN-len.result i (length widths) values (c.BLOCK_LEN-len.ensures ∙ g.met.P.BitPacker.block_len)
    c.loop-index-test.true (omega arith) in
    record {
      narrow = c.requires.widths i 0 c.loop-index-test.true;
      whole = simp (length-take, length-drop) (omega (arith, found.0));
      room = omega (arith, long);
    }

pub loop-index-preserved : goal.loop-index-preserved
loop-index-preserved g c =
    let lanes : ℕ = g.P.BitPacker.lanes in
    let len : ℕ = c.BLOCK_LEN-len.result in
    let i : ℕ = c.loop-index.index in
    let values : List ℕ = c.loop-index.values in
    let widths : List ℕ = c.args.widths.now in
    let width : ℕ = get_or widths i 0 in
    let bytes : List ℕ = c.args.bytes.now in
    let read : ℕ = c.loop-index.read in
    let added : ℕ = c.decompress_kind-read.result in
    let block : List ℕ = c.decompress_kind-read.new.decompressed in
    let before = c.loop-index.invariant in
    let some = g.met.P.BitPacker.some_lanes in
    let whole : len ≡ 32 * lanes = c.BLOCK_LEN-len.ensures ∙ g.met.P.BitPacker.block_len in
    let found = reach lanes i widths bytes read c.loop-index-test.true before.read c.requires.bytes in
    let all : 32 * lanes * length widths ≤ length c.args.values.now = rw g.met.P.BitPacker.block_len at c.requires.room in
    let span : 32 * lanes * (i + 1) ≤ length values =
    omega (arith, mul-le (32 * lanes) (i + 1) (32 * lanes) (length widths) (omega arith) (omega arith)) in
    let long : length block ≡ 32 * lanes =
    c.decompress_kind-read.auto.decompressed ∙ rw whole (simp (length-take, length-drop) (omega arith)) in
    let kind : c.next_kind-block_kind.result ≡ next_kind c.loop-index.block_kind (get_or block (32 * lanes - 1) 0) =
    c.next_kind-block_kind.ensures ∙ ap (λ n. next_kind c.loop-index.block_kind (get_or block (n - 1) 0)) whole in
    let given : take (size lanes width) (take (length bytes - read) (drop read bytes)) ≡ take added (drop read bytes) =
    rw (c.decompress_kind-read.ensures.size, take_all (length bytes - read) (drop read bytes) (simp length-drop (omega arith))) refl in
    let front : take (32 * lanes) block ≡ block = take_all (32 * lanes) block (omega arith) in
    let holds = rw (front, given) at c.decompress_kind-read.ensures.unpacked.block in
    let next : 32 * lanes * (i + 1) ≡ 32 * lanes * i + 32 * lanes = omega arith in
    record {
      read = rw (found.1) (sum-more lanes read added width (take i widths) before.read c.decompress_kind-read.ensures.size);
      loose =
          rw (kind, found.1, take-add read added bytes, take-put_block (32 * lanes) len i values block whole (omega arith) long)
          (Loose_step lanes width c.args.kind c.loop-index.block_kind (take (32 * lanes * i) values) (take i widths) block some long
          (take read bytes) (take added (drop read bytes)) (c.requires.widths i 0 c.loop-index-test.true) holds before.loose);
      rest =
          drop-put_block (32 * lanes) len i values block whole (omega arith) long
          ∙ rw next (drop-further (32 * lanes * i) (32 * lanes) values c.args.values.now before.rest);
    }

pub returns-clause-chain : goal.returns-clause-chain
returns-clause-chain g c =
    let lanes : ℕ = g.P.BitPacker.lanes in
    let i : ℕ = c.loop-index.index in
    let end : i ≡ length c.args.widths.now = omega arith in
    let widths : take i c.args.widths.now ≡ c.args.widths.now = take_all i c.args.widths.now (omega arith) in
    let blocks : g.P.BitPacker.BLOCK_LEN * length c.args.widths.now ≡ 32 * lanes * i = rw (end, g.met.P.BitPacker.block_len) refl in
    rw blocks (rw widths at (Loose_done lanes c.args.kind c.loop-index.block_kind (take (32 * lanes * i) c.loop-index.values)
    (take i c.args.widths.now) (take c.loop-index.read c.args.bytes.now) c.loop-index.invariant.loose))
