-- The tests in their order find the first fault of the bytes.
use Rattle.std.proofs.Common.{◌≡◌, ◌-◌, ◌+◌, ◌*◌, ◌/◌, ◌%◌, ◌<◌, ◌≤◌, ℕ, List, length, take, drop, Some, None, refl, ◌∙◌, ap, arith}
use Rattle.std.proofs.lemmas.List.{take_all, length-drop}
use Rattle.std.proofs.lemmas.Result.{err_from_is_err_and}
use Rattle.bitpack_lists.specs.declared.list_kind.ListKind.{ListKind}
use Rattle.bitpack_lists.specs.declared.list_error.ListError.TheVariants.{Short}
use Rattle.bitpack_lists.specs.Parts.{header_fault, BeginsWithHeader}
use Rattle.bitpack_lists.specs.Version1.{fault1, body_fault1, blocks_fault1}
use Rattle.bitpack_lists.proofs.lemmas.blocks.FaultLemmas.{header_first, body_next, body_short, body_blocks}
use Rattle.bitpack_lists.proofs.lemmas.blocks.HeaderLemmas.{header_bytes}
use Rattle.bitpack_lists.proofs.lemmas.blocks.ListLemmas.{lanes-is}
use Rattle.bitpack_lists.proofs.v1.reading.test_version1.Goals as goal

-- What comes after a right header of so many values.
module _ (lanes len count : ℕ) (kind : ListKind) (bytes rest : List ℕ) (whole : len ≡ 32 * lanes) (is : rest ≡ take (length bytes - 7) (drop 7 bytes))
    (none : header_fault 1 (len / 32) bytes ≡ None) (begins : BeginsWithHeader 1 (len / 32) kind count bytes) where
  later : fault1 lanes bytes ≡ body_fault1 lanes count rest
  later =
      let found = header_bytes 1 (len / 32) kind count bytes begins in
      let all : rest ≡ drop 7 bytes = is ∙ take_all (length bytes - 7) (drop 7 bytes) (omega (arith, length-drop 7 bytes)) in
      rw all (body_next lanes count bytes (rw (lanes-is lanes len whole) at none) found.count_is)

  short : length rest < count / len + 4 * (count % len) → fault1 lanes bytes ≡ Some Short
  short few =
      later ∙ body_short lanes count (count / len) (4 * (count % len)) rest (ap (λ n. count / n) whole) (ap (λ n. 4 * (count % n)) whole) few

  blocks : count / len + 4 * (count % len) ≤ length rest → fault1 lanes bytes ≡ blocks_fault1 lanes (4 * (count % len)) 0 (count / len) rest
  blocks enough =
      later ∙ body_blocks lanes count (count / len) (4 * (count % len)) rest (ap (λ n. count / n) whole) (ap (λ n. 4 * (count % n)) whole) enough

pub returns-in_err-header-clause-fault : goal.returns-in_err-header-clause-fault
returns-in_err-header-clause-fault g c =
    let lanes : ℕ = g.P.BitPacker.lanes in
    let whole : c.BLOCK_LEN-len.result / 32 ≡ lanes = lanes-is lanes c.BLOCK_LEN-len.result (c.BLOCK_LEN-len.ensures ∙ g.met.P.BitPacker.block_len) in
    let p = err_from_is_err_and c.from_residual.result c.from_residual.ensures.1 in
    rw (p.1, p.2) (header_first lanes c.args.bytes.now c.in_err-header.field-0.0 (rw whole at c.in_err-header.ensures.fault))

pub returns-clause-header : goal.returns-clause-header
returns-clause-header g c =
    let lanes : ℕ = g.P.BitPacker.lanes in
    let whole : c.BLOCK_LEN-len.result / 32 ≡ lanes = lanes-is lanes c.BLOCK_LEN-len.result (c.BLOCK_LEN-len.ensures ∙ g.met.P.BitPacker.block_len) in
    rw whole at c.in_ok-header.ensures.header

pub returns-then-rest-blocks-clause-fault : goal.returns-then-rest-blocks-clause-fault
returns-then-rest-blocks-clause-fault g c =
    let bytes : List ℕ = c.args.bytes.now in
    let header = c.in_ok-header.header in
    short g.P.BitPacker.lanes c.BLOCK_LEN-len.result header.count header.kind bytes (take (length bytes - 7) (drop 7 bytes))
    (c.BLOCK_LEN-len.ensures ∙ g.met.P.BitPacker.block_len) refl c.in_ok-header.ensures.fault c.in_ok-header.ensures.header c.if-rest-blocks.true

pub returns-in_err-test_chain-clause-fault : goal.returns-in_err-test_chain-clause-fault
returns-in_err-test_chain-clause-fault g c =
    let bytes : List ℕ = c.args.bytes.now in
    let header = c.in_ok-header.header in
    let p = err_from_is_err_and c.from_residual-in_err-test_chain.result c.from_residual-in_err-test_chain.ensures.1 in
    rw (p.1, p.2)
    (blocks g.P.BitPacker.lanes c.BLOCK_LEN-len.result header.count header.kind bytes (take (length bytes - 7) (drop 7 bytes))
    (c.BLOCK_LEN-len.ensures ∙ g.met.P.BitPacker.block_len) refl c.in_ok-header.ensures.fault c.in_ok-header.ensures.header c.if-rest-blocks.false
    ∙ c.in_err-test_chain.ensures)

pub returns-clause-fault : goal.returns-clause-fault
returns-clause-fault g c =
    let bytes : List ℕ = c.args.bytes.now in
    let header = c.in_ok-header.header in
    blocks g.P.BitPacker.lanes c.BLOCK_LEN-len.result header.count header.kind bytes (take (length bytes - 7) (drop 7 bytes))
    (c.BLOCK_LEN-len.ensures ∙ g.met.P.BitPacker.block_len) refl c.in_ok-header.ensures.fault c.in_ok-header.ensures.header c.if-rest-blocks.false
    ∙ c.in_ok-test_chain.ensures
