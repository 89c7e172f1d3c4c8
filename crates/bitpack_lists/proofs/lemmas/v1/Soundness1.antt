-- Version 1: bytes without a fault encode one list, and an encoded list has no fault.
-- Serves ForCallers, laws, v1, v2.
use Rattle.std.proofs.Common.{◌≡◌, ℕ, ◌+◌, ◌*◌, ◌^◌, ◌<◌, ◌≤◌, List, length, take, drop, None, refl, sym, subst, ◌∙◌, ap, arith}
use Rattle.std.proofs.lemmas.List.{take-append-drop}
use Rattle.bitpacking.specs.Bits.{AreBytes}
use Rattle.bitpacking.specs.Codes.{start}
use Rattle.bitpack_lists.specs.declared.list_kind.ListKind.{ListKind}
use Rattle.bitpack_lists.specs.declared.list_kind.ListKind.TheVariants as lists
use Rattle.bitpack_lists.specs.Parts.{header_fault, count_of, whole_blocks, tail_values, first_kind, BeginsWithHeader}
use Rattle.bitpack_lists.specs.Version1.{Blocks1, List1, blocks_fault1, body_fault1, fault1}
use Rattle.bitpack_lists.specs.Laws.{LooseFitsSmaller, OneEncoding1, OneList1, NoFault1}
use Rattle.bitpack_lists.proofs.lemmas.blocks.PartLemmas.{AreBytes-drop}
use Rattle.bitpack_lists.proofs.lemmas.blocks.LooseLemmas.{Decides-loose}
use Rattle.bitpack_lists.proofs.lemmas.blocks.HeaderLemmas.{header_bytes, header_fault-none, header_from_fault, kind_byte-same}
use Rattle.bitpack_lists.proofs.lemmas.blocks.FaultLemmas.{none_first, body_next, body_blocks, body_from_none}
use Rattle.bitpack_lists.proofs.lemmas.v1.OneEncoding1.{same_blocks, same_values}
use Rattle.bitpack_lists.proofs.lemmas.blocks.ReadSteps.{values_from_none, none_from_values}

start-first : (kind : ListKind) → start (first_kind kind) < 2 ^ 32
start-first lists.Plain = omega arith
start-first lists.Sorted = omega arith
start-first lists.StrictlySorted = omega arith

-- What is after a header without a fault.
pub later_from_none : (lanes count : ℕ) (kind : ListKind) (bytes : List ℕ) → BeginsWithHeader 1 lanes kind count bytes → fault1 lanes bytes ≡ None
    → blocks_fault1 lanes (4 * tail_values lanes count) 0 (whole_blocks lanes count) (drop 7 bytes) ≡ None
later_from_none lanes count kind bytes begins none =
    let found = header_bytes 1 lanes kind count bytes begins in
    let right = header_fault-none 1 lanes kind count bytes begins in
    body_from_none lanes count (drop 7 bytes) (sym (body_next lanes count bytes right found.count_is) ∙ none)

pub list_from_none : (lanes count : ℕ) (kind : ListKind) (bytes : List ℕ) → 1 ≤ lanes → AreBytes bytes → BeginsWithHeader 1 lanes kind count bytes
    → fault1 lanes bytes ≡ None
    → (values : List ℕ) × (length values ≡ count) × List1 lanes kind values bytes
list_from_none lanes count kind bytes some small begins none =
    let right = later_from_none lanes count kind bytes begins none in
    let found = values_from_none lanes (tail_values lanes count) (whole_blocks lanes count) 0 (first_kind kind) (drop 7 bytes) some (start-first kind)
    (AreBytes-drop 7 bytes small) right in
    let long : length found.0 ≡ count = omega (arith, found.2) in (
      found.0,
      long,
      record {
        words = found.1;
        begins = subst (λ n. BeginsWithHeader 1 lanes kind n bytes) (sym long) begins;
        blocks = subst (λ n. Blocks1 lanes (whole_blocks lanes n) (first_kind kind) found.0 (drop 7 bytes)) (sym long) found.3;
      },
    )

-- An encoded list has no fault.
pub none_from_list : (lanes : ℕ) (kind : ListKind) (values bytes : List ℕ) → 1 ≤ lanes → List1 lanes kind values bytes
    → fault1 lanes bytes ≡ None
none_from_list lanes kind values bytes some list =
    let count : ℕ = length values in
    let found = header_bytes 1 lanes kind count bytes list.begins in
    let right = header_fault-none 1 lanes kind count bytes list.begins in
    let parts : count ≡ 32 * lanes * whole_blocks lanes count + tail_values lanes count = omega arith in
    let later = none_from_values lanes (tail_values lanes count) (whole_blocks lanes count) 0 (first_kind kind) values (drop 7 bytes) list.words parts list.blocks in
    body_next lanes count bytes right found.count_is
    ∙ body_blocks lanes count (whole_blocks lanes count) (4 * tail_values lanes count) (drop 7 bytes) refl refl later.1
    ∙ later.0

header_right : (lanes : ℕ) (bytes : List ℕ) → fault1 lanes bytes ≡ None → header_fault 1 lanes bytes ≡ None
unfolding fault1
header_right lanes bytes none = (none_first (header_fault 1 lanes bytes) (body_fault1 lanes (count_of bytes) (drop 7 bytes)) none).0

-- ---- the laws

pub loose_fits_smaller : LooseFitsSmaller
loose_fits_smaller lanes width codes bytes layout = Decides-loose lanes width codes bytes layout

pub one_encoding1 : OneEncoding1
one_encoding1 lanes kind values encoding other some small small' one two =
    let front : take 7 other ≡ take 7 encoding = two.begins.front ∙ sym one.begins.front in
    let later : drop 7 other ≡ drop 7 encoding =
    same_blocks lanes (whole_blocks lanes (length values)) (first_kind kind) values (drop 7 encoding) (drop 7 other) some
    (AreBytes-drop 7 encoding small) (AreBytes-drop 7 other small') one.blocks two.blocks in
    sym (take-append-drop 7 other) ∙ rw (front, later) (take-append-drop 7 encoding)

pub one_list1 : OneList1
one_list1 lanes kind kind' values others encoding some one two =
    let first = header_bytes 1 lanes kind (length values) encoding one.begins in
    let second = header_bytes 1 lanes kind' (length others) encoding two.begins in
    let same : kind' ≡ kind = kind_byte-same kind' kind (sym second.kind_is ∙ first.kind_is) in
    let long : length others ≡ length values = sym second.count_is ∙ first.count_is in
    let blocks : Blocks1 lanes (whole_blocks lanes (length values)) (first_kind kind') others (drop 7 encoding) =
    subst (λ n. Blocks1 lanes (whole_blocks lanes n) (first_kind kind') others (drop 7 encoding)) long two.blocks in (
      same,
      same_values lanes (whole_blocks lanes (length values)) (first_kind kind) (first_kind kind') values others (drop 7 encoding) some (ap first_kind same)
          one.words two.words one.blocks blocks,
    )

pub encoding_from_none : (lanes : ℕ) (bytes : List ℕ) → 0 < lanes → AreBytes bytes → fault1 lanes bytes ≡ None
    → (kind : ListKind) × (values : List ℕ) × List1 lanes kind values bytes
encoding_from_none lanes bytes some small none =
    let header = header_from_fault 1 lanes bytes small (header_right lanes bytes none) in
    let found = list_from_none lanes (count_of bytes) _ bytes some small header none in
    (_, found.0, found.2)

pub no_fault1 : NoFault1
no_fault1 lanes bytes some small = (
  encoding_from_none lanes bytes some small,
  λ found. none_from_list lanes found.0 found.1 bytes some found.2,
)
