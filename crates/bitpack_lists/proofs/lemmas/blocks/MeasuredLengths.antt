-- How long an encoded list of either version is, by the least widths of its blocks.
-- Serves blocks, chain, v1, v2.
use Rattle.std.proofs.Common.{◌≡◌, ℕ, zero, suc, ◌+◌, ◌-◌, ◌*◌, ◌%◌, ◌<◌, ◌≤◌, List, [], ◌∷◌, length, take, drop, get_or, sum, refl, sym, ◌∙◌, ap, arith, mul-suc, add-one, zero-add}
use Rattle.std.proofs.Math.Nat.{mod-eq-sub-mul-div}
use Rattle.std.proofs.Math.Seq.{drop-cons}
use Rattle.std.proofs.lemmas.List.{drop-drop, get_or-take, length-append, length-drop}
use Rattle.std.proofs.lemmas.List.Sums.{sum_by-cons}
use Rattle.bitpacking.specs.declared.kind.Kind.{Kind}
use Rattle.bitpacking.specs.Codes.{codes}
use Rattle.bitpacking.specs.Layout.{size}
use Rattle.bitpacking.specs.Width.{IsWidth}
use Rattle.bitpacking.proofs.ForCallers.{length-bytes_of_words, same_least_width}
use Rattle.bitpack_lists.specs.declared.list_kind.ListKind.{ListKind}
use Rattle.bitpack_lists.specs.Chains.{LeastWidths, second_kind}
use Rattle.bitpack_lists.specs.Parts.{first_kind, tail_values, whole_blocks}
use Rattle.bitpack_lists.specs.inner.Opening.{AreEntries}
use Rattle.bitpack_lists.specs.Version1.{Blocks1, List1}
use Rattle.bitpack_lists.specs.Version2.{kind_at, tail_start, width_at, widths_before}
use Rattle.bitpack_lists.proofs.lemmas.blocks.BlockLemmas.{kind_at-next}
use Rattle.bitpack_lists.proofs.lemmas.blocks.HeaderLemmas.{header_bytes}
use Rattle.bitpack_lists.proofs.lemmas.v1.OneEncoding1.{length-part}
use Rattle.bitpack_lists.proofs.lemmas.blocks.WriteSteps.{cached_first}

-- ---- one block more is measured

-- The least widths of all blocks: those of the blocks that are left, and the length so far.
abbrev pub Measured : ℕ → ℕ → ℕ → Kind → List ℕ → ℕ → List ℕ → Type 0
Measured lanes entry i kind rest size_of all =
    LeastWidths lanes kind rest (drop i all) × (size_of + 4 * lanes * sum (drop i all) ≡ entry * i + 4 * lanes * sum all)

pub measured_step : (lanes entry i width size_of : ℕ) (kind : Kind) (rest all : List ℕ) → i < length all → IsWidth kind (take (32 * lanes) rest) width
    → Measured lanes entry i kind rest size_of all
    → Measured lanes entry (i + 1) (second_kind lanes kind rest) (drop (32 * lanes) rest) (size_of + (entry + size lanes width)) all
measured_step lanes entry i width size_of kind rest all lt least before =
    let first = cached_first lanes kind rest all i lt before.0 in
    let same : get_or all i 0 ≡ width = same_least_width (codes kind (take (32 * lanes) rest)) width (get_or all i 0) least first.0 in
    let parts : drop i all ≡ get_or all i 0 ∷ drop (i + 1) all = rw add-one (drop-cons all i 0 lt) in
    let total : sum (drop i all) ≡ width + sum (drop (i + 1) all) =
    ap sum parts ∙ sum_by-cons (λ (n : ℕ). n) (get_or all i 0) (drop (i + 1) all) ∙ ap (λ w. w + sum (drop (i + 1) all)) same in
    (first.1, omega (arith, rw total at before.1))

-- In a chain, which has no entries. A block has room among its bytes.
pub chained_step : (lanes i width size_of added : ℕ) (kind : Kind) (rest all : List ℕ) → i < length all → IsWidth kind (take (32 * lanes) rest) width
    → added ≡ size lanes width → Measured lanes 0 i kind rest size_of all
    → Measured lanes 0 (i + 1) (second_kind lanes kind rest) (drop (32 * lanes) rest) (size_of + added) all
chained_step lanes i width size_of added kind rest all lt least e before =
    let next = measured_step lanes 0 i width size_of kind rest all lt least before in
    (next.0, omega (arith, e, next.1))

pub chained_room : (lanes i width size_of room : ℕ) (kind : Kind) (rest all : List ℕ) → i < length all → IsWidth kind (take (32 * lanes) rest) width
    → Measured lanes 0 i kind rest size_of all → 4 * lanes * sum all ≤ room → size_of + size lanes width ≤ room
chained_room lanes i width size_of room kind rest all lt least before within =
    omega (arith, within, (measured_step lanes 0 i width size_of kind rest all lt least before).1)

-- ---- version 1

pub widths_of_blocks : (lanes count : ℕ) (kind : Kind) (values bytes : List ℕ) → Blocks1 lanes count kind values bytes
    → (all : List ℕ) × (length all ≡ count) × LeastWidths lanes kind values all
    × (length bytes ≡ count + 4 * lanes * sum all + 4 * (length values - 32 * lanes * count))
widths_of_blocks lanes zero kind values bytes is =
    let none : 32 * lanes * 0 ≡ 0 = omega arith in
    ([], refl, tt, ap length is ∙ length-bytes_of_words values ∙ rw none (omega arith))
widths_of_blocks lanes (suc count) kind values bytes (part, rest, e, is, more) =
    let n : ℕ = 32 * lanes in
    let later = widths_of_blocks lanes count (second_kind lanes kind values) (drop n values) rest more in
    let long = length-part lanes kind (take n values) part is.width is is.least in
    let total = ap (λ s. 4 * lanes * s) (sum_by-cons (λ (n : ℕ). n) is.width later.0) in (
      is.width ∷ later.0,
      ap suc later.1,
      (is.least, later.2),
      ap length e ∙ length-append part rest ∙ omega (arith, long, total, later.3, mul-suc n count, length-drop n values),
    )

pub length-encoding1 : (lanes size_of : ℕ) (kind : ListKind) (values encoding : List ℕ)
    → ((all : List ℕ) → length all ≡ whole_blocks lanes (length values) → LeastWidths lanes (first_kind kind) values all
    → size_of ≡ 7 + whole_blocks lanes (length values) + 4 * lanes * sum all + 4 * tail_values lanes (length values))
    → List1 lanes kind values encoding → length encoding ≡ size_of
length-encoding1 lanes size_of kind values encoding measured list =
    let blocks : ℕ = whole_blocks lanes (length values) in
    let widths = widths_of_blocks lanes blocks (first_kind kind) values (drop 7 encoding) list.blocks in
    let found = header_bytes 1 lanes kind (length values) encoding list.begins in
    let over : length values % (32 * lanes) ≡ length values - 32 * lanes * blocks = mod-eq-sub-mul-div (length values) (32 * lanes) in
    omega (arith, measured widths.0 widths.1 widths.2, widths.3, found.long, length-drop 7 encoding, over)

-- ---- version 2

-- The widths of so many entries, from one on.
abbrev pub entry_widths : List ℕ → ℕ → ℕ → List ℕ
entry_widths rest i zero = []
entry_widths rest i (suc count) = width_at rest i ∷ entry_widths rest (suc i) count

pub length-entry_widths : (rest : List ℕ) (i count : ℕ) → length (entry_widths rest i count) ≡ count
length-entry_widths rest i zero = refl
length-entry_widths rest i (suc count) = ap suc (length-entry_widths rest (suc i) count)

sum-entry_widths : (rest : List ℕ) (i count : ℕ) → widths_before rest i + sum (entry_widths rest i count) ≡ widths_before rest (i + count)
sum-entry_widths rest i zero =
    let same : i + 0 ≡ i = omega arith in
    rw same (omega arith)
sum-entry_widths rest i (suc count) =
    let next : i + suc count ≡ suc i + count = omega arith in
    let first = sum_by-cons (λ (n : ℕ). n) (width_at rest i) (entry_widths rest (suc i) count) in
    rw next (omega (arith, first, sum-entry_widths rest (suc i) count))

pub least-entry_widths : (lanes i count blocks : ℕ) (kind : ListKind) (values rest : List ℕ) → 1 ≤ lanes → i + count ≤ blocks → AreEntries lanes blocks kind values rest
    → LeastWidths lanes (kind_at kind rest i) (drop (32 * lanes * i) values) (entry_widths rest i count)
least-entry_widths lanes i zero blocks kind values rest some room are = tt
least-entry_widths lanes i (suc count) blocks kind values rest some room are =
    let n : ℕ = 32 * lanes in
    let left : List ℕ = drop (n * i) values in
    let entry = are i (omega arith) in
    let last : get_or left (n - 1) 0 ≡ get_or (take n left) (n - 1) 0 = sym (get_or-take n left (n - 1) 0 (omega arith)) in
    let next : second_kind lanes (kind_at kind rest i) left ≡ kind_at kind rest (suc i) =
    rw add-one at (kind_at-next kind rest i (kind_at kind rest i) (get_or left (n - 1) 0) refl (last ∙ sym entry.last)) in
    let after : drop n left ≡ drop (n * suc i) values = drop-drop n (n * i) values ∙ ap (λ k. drop k values) (sym (mul-suc n i)) in
    (entry.least, rw (next, after) (least-entry_widths lanes (suc i) count blocks kind values rest some (omega arith) are))

pub length-rest2 : (lanes blocks size_of tail : ℕ) (kind : ListKind) (values rest : List ℕ) → 1 ≤ lanes
    → ((all : List ℕ) → length all ≡ blocks → LeastWidths lanes (first_kind kind) values all → size_of ≡ 7 + 9 * blocks + 4 * lanes * sum all + tail)
    → AreEntries lanes blocks kind values rest → size_of ≡ 7 + tail_start lanes blocks rest + tail
length-rest2 lanes blocks size_of tail kind values rest some measured are =
    let none : 32 * lanes * 0 ≡ 0 = omega arith in
    let least : LeastWidths lanes (first_kind kind) values (entry_widths rest 0 blocks) =
    rw none at (least-entry_widths lanes 0 blocks blocks kind values rest some (omega arith) are) in
    let total : sum (entry_widths rest 0 blocks) ≡ widths_before rest blocks =
    sym (zero-add (sum (entry_widths rest 0 blocks))) ∙ sum-entry_widths rest 0 blocks ∙ ap (widths_before rest) (zero-add blocks) in
    rw total at (measured (entry_widths rest 0 blocks) (length-entry_widths rest 0 blocks) least) ∙ omega arith
