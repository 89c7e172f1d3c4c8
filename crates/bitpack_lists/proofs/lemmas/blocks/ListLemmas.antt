-- Version 1: a header before blocks and tail is an encoded list.
-- Serves ForCallers, blocks, opened, v1, v2.
use Rattle.std.proofs.Common.{◌≡◌, ℕ, ◌*◌, ◌/◌, ◌^◌, ◌<◌, ◌≤◌, List, ◌++◌, length, true, false, Result, Ok, Err, OnOk, OnErr, is_err, arith}
use Rattle.std.proofs.lemmas.List.{take_at, drop_at}
use Rattle.bitpacking.specs.Bits.{AreBytes}
use Rattle.bitpacking.specs.Codes.{AreWords}
use Rattle.bitpack_lists.specs.declared.list_kind.ListKind.{ListKind}
use Rattle.bitpack_lists.specs.Parts.{header, whole_blocks, first_kind}
use Rattle.bitpack_lists.specs.Version1.{Blocks1, List1}
use Rattle.bitpack_lists.proofs.lemmas.blocks.HeaderLemmas.{AreBytes-header, length-header}
use Rattle.bitpack_lists.proofs.lemmas.blocks.PartLemmas.{AreBytes-append}
use Rattle.bitpack_lists.proofs.lemmas.v1.OneEncoding1.{blocks_of}

pub List1-from_blocks : (lanes : ℕ) (kind : ListKind) (values later : List ℕ) → AreWords values → length values ≤ 2 ^ 28
    → Blocks1 lanes (whole_blocks lanes (length values)) (first_kind kind) values later
    → List1 lanes kind values (header 1 kind lanes (length values) ++ later)
List1-from_blocks lanes kind values later words few blocks =
    let front : List ℕ = header 1 kind lanes (length values) in
    let seven : length front ≡ 7 = length-header 1 kind lanes (length values) in
    record {
      words = words;
      begins = record { few = few; front = take_at front later 7 seven };
      blocks = rw (drop_at front later 7 seven) blocks;
    }

-- What is after the header of values, and with the header is their encoded list.
pub encoding_of : (lanes : ℕ) (kind : ListKind) (values : List ℕ) → 1 ≤ lanes → lanes < 2 ^ 8 → AreWords values → length values ≤ 2 ^ 28
    → (later : List ℕ) × AreBytes later × Blocks1 lanes (whole_blocks lanes (length values)) (first_kind kind) values later
    × AreBytes (header 1 kind lanes (length values) ++ later) × List1 lanes kind values (header 1 kind lanes (length values) ++ later)
encoding_of lanes kind values some few words short =
    let count : ℕ = whole_blocks lanes (length values) in
    let (later, small, blocks) = blocks_of lanes count (first_kind kind) values some words (omega arith) in
    let front : List ℕ = header 1 kind lanes (length values) in (
      later,
      small,
      blocks,
      AreBytes-append front later (AreBytes-header 1 kind lanes (length values) (omega arith) few) small,
      List1-from_blocks lanes kind values later words short blocks,
    )

pub on_ok : {A E P : Type 0} (result : Result A E) → is_err result ≡ false → OnOk result P → P
on_ok (Ok x) e holds = holds
on_ok (Err x) e holds = absurd cc

pub on_err : {A E P : Type 0} (result : Result A E) → is_err result ≡ true → OnErr result P → P
on_err (Ok x) e holds = absurd cc
on_err (Err x) e holds = holds

pub lanes-is : (lanes len : ℕ) → len ≡ 32 * lanes → len / 32 ≡ lanes
lanes-is lanes len e = omega arith
