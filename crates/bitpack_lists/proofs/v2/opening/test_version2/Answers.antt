-- Header and rest are tested one after the other.
use Rattle.std.proofs.Common.{◌≡◌, ◌-◌, ◌/◌, ℕ, List, length, take, drop, sym, ◌∙◌, ap, arith}
use Rattle.std.proofs.lemmas.List.{length-drop, take_all}
use Rattle.std.proofs.lemmas.Result.{err_from_is_err_and}
use Rattle.bitpack_lists.specs.Version2.{rest_fault2}
use Rattle.bitpack_lists.proofs.lemmas.blocks.ListLemmas.{lanes-is}
use Rattle.bitpack_lists.proofs.lemmas.v2.Soundness2.{header_first2, rest_next}
use Rattle.bitpack_lists.proofs.v2.opening.test_version2.Goals as goal

pub returns-in_err-header-clause-fault : goal.returns-in_err-header-clause-fault
returns-in_err-header-clause-fault g c =
    let whole : c.BLOCK_LEN.result / 32 ≡ g.P.BitPacker.lanes = lanes-is g.P.BitPacker.lanes c.BLOCK_LEN.result (c.BLOCK_LEN.ensures ∙ g.met.P.BitPacker.block_len) in
    let p = err_from_is_err_and c.from_residual.result c.from_residual.ensures.1 in
    rw (p.1, p.2) (header_first2 g.P.BitPacker.lanes c.args.bytes.now c.in_err-header.field-0.0 (rw whole at c.in_err-header.ensures.fault))

-- What is after the header, as the code lends it.
later_is : (bytes : List ℕ) → take (length bytes - 7) (drop 7 bytes) ≡ drop 7 bytes
later_is bytes = take_all (length bytes - 7) (drop 7 bytes) (omega (arith, length-drop 7 bytes))

pub returns-in_err-test_blocks_and_words-clause-fault : goal.returns-in_err-test_blocks_and_words-clause-fault
returns-in_err-test_blocks_and_words-clause-fault g c =
    let lanes : ℕ = g.P.BitPacker.lanes in
    let bytes : List ℕ = c.args.bytes.now in
    let header = c.in_ok-header.header in
    let whole : c.BLOCK_LEN.result / 32 ≡ lanes = lanes-is lanes c.BLOCK_LEN.result (c.BLOCK_LEN.ensures ∙ g.met.P.BitPacker.block_len) in
    let p = err_from_is_err_and c.from_residual-in_err-test_blocks_and_words.result c.from_residual-in_err-test_blocks_and_words.ensures.1 in
    rw (p.1, p.2)
    (rest_next lanes header.count header.kind bytes (rw whole at c.in_ok-header.ensures.header)
    ∙ ap (rest_fault2 lanes header.kind header.count) (sym (later_is bytes)) ∙ c.in_err-test_blocks_and_words.ensures)

pub returns-clause-fault : goal.returns-clause-fault
returns-clause-fault g c =
    let lanes : ℕ = g.P.BitPacker.lanes in
    let bytes : List ℕ = c.args.bytes.now in
    let header = c.in_ok-header.header in
    let whole : c.BLOCK_LEN.result / 32 ≡ lanes = lanes-is lanes c.BLOCK_LEN.result (c.BLOCK_LEN.ensures ∙ g.met.P.BitPacker.block_len) in
    rest_next lanes header.count header.kind bytes (rw whole at c.in_ok-header.ensures.header)
    ∙ ap (rest_fault2 lanes header.kind header.count) (sym (later_is bytes)) ∙ c.in_ok-test_blocks_and_words.ensures
