-- The tests in their order find the first fault of a block.
use Rattle.std.proofs.Common.{◌≡◌, ◌-◌, ◌/◌, arith, ℕ, List, length, take, drop, get_or, true, false, sym, ◌∙◌, ap}
use Rattle.bitpacking.specs.Layout.{size}
use Rattle.bitpack_lists.specs.Parts.{is_loose}
use Rattle.bitpack_lists.proofs.lemmas.blocks.ListLemmas.{lanes-is}
use Rattle.bitpack_lists.proofs.lemmas.blocks.FaultLemmas.{front-is, no_byte, wide, missing, loose, right}
use Rattle.bitpack_lists.proofs.v1.reading.test_first_block.Goals as goal

pub returns-in_default-clause-fault : goal.returns-in_default-clause-fault
returns-in_default-clause-fault g c = no_byte g.P.BitPacker.lanes c.args.block c.args.bytes.now c.in_default.len_below

pub returns-then-width-gt32-clause-fault : goal.returns-then-width-gt32-clause-fault
returns-then-width-gt32-clause-fault g c =
    let bytes : List ℕ = c.args.bytes.now in
    wide g.P.BitPacker.lanes c.args.block (get_or bytes 0 0) bytes (take (length bytes - 1) (drop 1 bytes)) (front-is bytes c.in-len1-up.len_at_least)
    c.if-width-gt32.true

pub returns-then-rest-size-clause-fault : goal.returns-then-rest-size-clause-fault
returns-then-rest-size-clause-fault g c =
    let bytes : List ℕ = c.args.bytes.now in
    missing g.P.BitPacker.lanes c.args.block (get_or bytes 0 0) bytes (take (length bytes - 1) (drop 1 bytes)) (front-is bytes c.in-len1-up.len_at_least)
    c.if-width-gt32.false (rw c.compressed_block_size-size.ensures at c.if-rest-size.true)

pub fits_smaller-requires : goal.fits_smaller-requires
fits_smaller-requires g c =
    let lanes : c.BLOCK_LEN.result / 32 ≡ g.P.BitPacker.lanes = lanes-is g.P.BitPacker.lanes c.BLOCK_LEN.result (c.BLOCK_LEN.ensures ∙ g.met.P.BitPacker.block_len) in
    record {
      lanes = rw lanes (g.met.P.BitPacker.some_lanes, g.met.P.BitPacker.few_lanes);
      width = omega arith;
      body = rw lanes (c.split_at.ensures.front_len ∙ c.compressed_block_size-size.ensures);
    }

pub returns-then-fits_smaller-clause-fault : goal.returns-then-fits_smaller-clause-fault
returns-then-fits_smaller-clause-fault g c =
    let bytes : List ℕ = c.args.bytes.now in
    let lanes : ℕ = g.P.BitPacker.lanes in
    let width : ℕ = get_or bytes 0 0 in
    let rest : List ℕ = take (length bytes - 1) (drop 1 bytes) in
    let same : c.BLOCK_LEN.result / 32 ≡ lanes = lanes-is lanes c.BLOCK_LEN.result (c.BLOCK_LEN.ensures ∙ g.met.P.BitPacker.block_len) in
    let body : c.split_at.result.0.now ≡ take (size lanes width) rest = c.split_at.ensures.front ∙ ap (λ n. take n rest) c.compressed_block_size-size.ensures in
    let answer : is_loose lanes width (take (size lanes width) rest) ≡ true =
    ap (is_loose lanes width) (sym body) ∙ ap (λ n. is_loose n width c.split_at.result.0.now) (sym same) ∙ sym c.fits_smaller.ensures ∙ c.if-fits_smaller.true in
    loose lanes c.args.block width bytes rest (front-is bytes c.in-len1-up.len_at_least) c.if-width-gt32.false
    (rw c.compressed_block_size-size.ensures at c.if-rest-size.false) answer

pub returns-clause-fault : goal.returns-clause-fault
returns-clause-fault g c =
    let bytes : List ℕ = c.args.bytes.now in
    let lanes : ℕ = g.P.BitPacker.lanes in
    let width : ℕ = get_or bytes 0 0 in
    let rest : List ℕ = take (length bytes - 1) (drop 1 bytes) in
    let same : c.BLOCK_LEN.result / 32 ≡ lanes = lanes-is lanes c.BLOCK_LEN.result (c.BLOCK_LEN.ensures ∙ g.met.P.BitPacker.block_len) in
    let body : c.split_at.result.0.now ≡ take (size lanes width) rest = c.split_at.ensures.front ∙ ap (λ n. take n rest) c.compressed_block_size-size.ensures in
    let answer : is_loose lanes width (take (size lanes width) rest) ≡ false =
    ap (is_loose lanes width) (sym body) ∙ ap (λ n. is_loose n width c.split_at.result.0.now) (sym same) ∙ sym c.fits_smaller.ensures ∙ c.if-fits_smaller.false in
    right lanes c.args.block width bytes rest (front-is bytes c.in-len1-up.len_at_least) c.if-width-gt32.false
    (rw c.compressed_block_size-size.ensures at c.if-rest-size.false) answer
