-- Bytes without a fault encode the values appended; each failure is the fault, or Memory.
use Rattle.std.proofs.Common.{◌≡◌, ◌-◌, ◌++◌, ℕ, List, length, take, drop, refl, sym, ◌∙◌, ap, subst, arith}
use Rattle.std.proofs.lemmas.List.{take_all, length-drop}
use Rattle.std.proofs.lemmas.Result.{err_from_is_err_and}
use Rattle.bitpacking.specs.Bits.{AreBytes}
use Rattle.bitpacking.proofs.ForCallers.{AreBytes-from_slice}
use Rattle.bitpack_lists.specs.Parts.{whole_blocks, first_kind}
use Rattle.bitpack_lists.specs.Version1.{Blocks1}
use Rattle.bitpack_lists.proofs.lemmas.blocks.ListLemmas.{on_ok, on_err}
use Rattle.bitpack_lists.proofs.lemmas.blocks.HeaderLemmas.{header_bytes}
use Rattle.bitpack_lists.proofs.lemmas.v1.Soundness1.{later_from_none, list_from_none}
use Rattle.bitpack_lists.proofs.v1.reading.decode.Goals as goal

pub returns-in_err-header-clause-err : goal.returns-in_err-header-clause-err
returns-in_err-header-clause-err g c =
    let p = err_from_is_err_and c.from_residual.result c.from_residual.ensures.1 in
    rw (c.in_err-header.ensures.fault, p.1, p.2) refl

pub returns-then-is_err-clause-err : goal.returns-then-is_err-clause-err
returns-then-is_err-clause-err g c = rw c.in_ok-header.ensures.fault refl

pub returns-then-is_err-clause-room : goal.returns-then-is_err-clause-room
returns-then-is_err-clause-room g c = λ none.
    let header = c.in_ok-header.header in
    let found = header_bytes 1 g.P.BitPacker.lanes header.kind header.count c.args.bytes.now c.in_ok-header.ensures.header in
    let full = on_err c.reserve.result (sym c.is_err.ensures.value ∙ c.if-is_err.true) c.reserve.ensures.full in
    omega (arith, full, found.count_is)

pub read_blocks-requires : goal.read_blocks-requires
read_blocks-requires g c =
    let lanes : ℕ = g.P.BitPacker.lanes in
    let bytes : List ℕ = c.args.bytes.now in
    let header = c.in_ok-header.header in
    let rest : take (length bytes - 7) (drop 7 bytes) ≡ drop 7 bytes = take_all (length bytes - 7) (drop 7 bytes) (omega (arith, length-drop 7 bytes)) in
    let right = later_from_none lanes header.count header.kind bytes c.in_ok-header.ensures.header c.in_ok-header.ensures.fault in
    record {
      sound = rw rest right;
      room = omega (arith, on_ok c.reserve.result (sym c.is_err.ensures.value ∙ c.if-is_err.false) c.reserve.ensures.ok);
    }

pub returns-clause-ok : goal.returns-clause-ok
returns-clause-ok g c =
    let lanes : ℕ = g.P.BitPacker.lanes in
    let bytes : List ℕ = c.args.bytes.now in
    let header = c.in_ok-header.header in
    let small : AreBytes bytes = AreBytes-from_slice bytes c.type_inv.bytes in
    let rest : take (length bytes - 7) (drop 7 bytes) ≡ drop 7 bytes = take_all (length bytes - 7) (drop 7 bytes) (omega (arith, length-drop 7 bytes)) in
    let (values, long, list) =
    list_from_none lanes header.count header.kind bytes g.met.P.BitPacker.some_lanes small c.in_ok-header.ensures.header c.in_ok-header.ensures.fault in
    let blocks : Blocks1 lanes (whole_blocks lanes header.count) (first_kind header.kind) values (drop 7 bytes) =
    subst (λ n. Blocks1 lanes (whole_blocks lanes n) (first_kind header.kind) values (drop 7 bytes)) long list.blocks in
    let given : Blocks1 lanes (whole_blocks lanes header.count) (first_kind header.kind) values (take (length bytes - 7) (drop 7 bytes)) =
    subst (λ zs. Blocks1 lanes (whole_blocks lanes header.count) (first_kind header.kind) values zs) (sym rest) blocks in
    (values, list, c.read_blocks.ensures values list.words given ∙ ap (λ xs. xs ++ values) c.reserve.ensures.items)

pub returns-clause-err : goal.returns-clause-err
returns-clause-err g c = rw c.in_ok-header.ensures.fault tt
