-- The loops that measure and write a list: what is after the blocks so far, and the cached widths.
-- Serves blocks, chain, v1, v2.
use Rattle.std.proofs.Common.{◌≡◌, ℕ, suc, ◌+◌, ◌-◌, ◌*◌, ◌/◌, ◌<◌, ◌≤◌, List, [], ◌∷◌, ◌++◌, length, take, drop, get_or, sym, ◌∙◌, ap, arith, append_assoc, add-one, inl, inr}
use Rattle.std.proofs.Math.Seq.{drop-cons}
use Rattle.std.proofs.lemmas.Bool.{cases_lt}
use Rattle.std.proofs.lemmas.List.{append-nil, length-append, get_or-take, take_all, drop_all}
use Rattle.std.proofs.lemmas.Nat.{mul-le}
use Rattle.bitpacking.specs.declared.kind.Kind.{Kind}
use Rattle.bitpacking.specs.Bits.{AreBytes}
use Rattle.bitpacking.specs.Calls.{CanPack}
use Rattle.bitpacking.specs.Width.{IsWidth}
use Rattle.bitpacking.specs.Layout.{size}
use Rattle.bitpack_lists.specs.Chains.{next_kind, second_kind, LeastWidths}
use Rattle.bitpacking.specs.Words.{bytes_of_words}
use Rattle.bitpack_lists.specs.Version1.{IsPart1, Blocks1}
use Rattle.bitpacking.proofs.ForCallers.{length-bytes_of_words}
use Rattle.bitpack_lists.proofs.lemmas.blocks.PartLemmas.{AreBytes-left, AreBytes-right}
use Rattle.bitpack_lists.proofs.lemmas.v1.OneEncoding1.{length-part, same_part}

-- ---- the values that are left

pub block-left : (n i count left : ℕ) → 0 < n → i < count / n → left + n * i ≡ count → n ≤ left
block-left n i count left some lt e =
    let le : n * (i + 1) ≤ n * (count / n) = mul-le n (i + 1) n (count / n) (omega arith) (omega arith) in
    omega arith

pub left-more : (n i count left after : ℕ) → left + n * i ≡ count → after ≡ left - n → n ≤ left → after + n * (i + 1) ≡ count
left-more n i count left after e more room = omega arith

pub last-block : (lanes : ℕ) (kind : Kind) (len : ℕ) (values block : List ℕ) → 1 ≤ lanes → len ≡ 32 * lanes → block ≡ take len values
    → next_kind kind (get_or block (len - 1) 0) ≡ second_kind lanes kind values
last-block lanes kind len values block some whole e =
    let within : len - 1 < len = omega arith in
    let last : get_or block (len - 1) 0 ≡ get_or values (len - 1) 0 = ap (λ xs. get_or xs (len - 1) 0) e ∙ get_or-take len values (len - 1) 0 within in
    ap (next_kind kind) last ∙ ap (λ n. next_kind kind (get_or values (n - 1) 0)) whole

pub one-less : (blocks i : ℕ) → i < blocks → blocks - i ≡ suc (blocks - (i + 1))
one-less blocks i lt = omega arith

-- ---- the cached widths

-- The widths so far, with the least widths of blocks after them, are least widths.
abbrev pub CachedWidths : ℕ → Kind → Kind → List ℕ → List ℕ → List ℕ → Type 0
CachedWidths lanes first kind values rest widths = (later : List ℕ) → LeastWidths lanes kind rest later → LeastWidths lanes first values (widths ++ later)

pub cached_step : (lanes : ℕ) (first kind : Kind) (values rest widths : List ℕ) (width : ℕ) → IsWidth kind (take (32 * lanes) rest) width
    → CachedWidths lanes first kind values rest widths
    → CachedWidths lanes first (second_kind lanes kind rest) values (drop (32 * lanes) rest) (widths ++ width ∷ [])
cached_step lanes first kind values rest widths width least before =
    λ later more. rw (append_assoc widths (width ∷ []) later) (before (width ∷ later) (least, more))

pub cached_done : (lanes : ℕ) (first kind : Kind) (values rest widths : List ℕ) → CachedWidths lanes first kind values rest widths
    → LeastWidths lanes first values widths
cached_done lanes first kind values rest widths before = rw (append-nil widths) at (before [] tt)

-- Cached or not, the widths of one block more are least widths.
pub least_step : (lanes : ℕ) (first kind : Kind) (values rest old new : List ℕ) (i width : ℕ) → IsWidth kind (take (32 * lanes) rest) width
    → (i < length old → take (i + 1) new ≡ take i old ++ width ∷ []) → (length old ≤ i → new ≡ old)
    → (i ≤ length old → CachedWidths lanes first kind values rest (take i old)) → LeastWidths lanes first values (take i old)
    → LeastWidths lanes first values (take (i + 1) new)
least_step lanes first kind values rest old new i width least cached past before so_far =
    elim (cases_lt i (length old)) [
      | inl lt ↦ rw (cached lt) (cached_done lanes first (second_kind lanes kind rest) values (drop (32 * lanes) rest) (take i old ++ width ∷ [])
          (cached_step lanes first kind values rest (take i old) width least (before (omega arith))))
      | inr le ↦ rw (past le, take_all (i + 1) old (omega arith), ← take_all i old le) so_far
    ]

-- A cached width, and those after it.
pub cached_first : (lanes : ℕ) (kind : Kind) (rest widths : List ℕ) (i : ℕ) → i < length widths → LeastWidths lanes kind rest (drop i widths)
    → IsWidth kind (take (32 * lanes) rest) (get_or widths i 0)
    × LeastWidths lanes (second_kind lanes kind rest) (drop (32 * lanes) rest) (drop (i + 1) widths)
cached_first lanes kind rest widths i lt least =
    let parts : drop i widths ≡ get_or widths i 0 ∷ drop (i + 1) widths = rw add-one (drop-cons widths i 0 lt) in
    rw parts at least

pub cached_rest : (lanes : ℕ) (kind : Kind) (rest widths : List ℕ) (i : ℕ) → LeastWidths lanes kind rest (drop i widths)
    → LeastWidths lanes (second_kind lanes kind rest) (drop (32 * lanes) rest) (drop (i + 1) widths)
cached_rest lanes kind rest widths i least =
    elim (cases_lt i (length widths)) [
      | inl lt ↦ (cached_first lanes kind rest widths i lt least).1
      | inr le ↦ rw (drop_all (i + 1) widths (omega arith)) tt
    ]

-- ---- what is written, with what is left of the bytes after it

abbrev pub Written : ℕ → ℕ → Kind → List ℕ → List ℕ → List ℕ → Type 0
Written lanes left kind rest out all = (later : List ℕ) × AreBytes later × Blocks1 lanes left kind rest later × (out ++ later ≡ all)

pub written_step : (lanes blocks i : ℕ) (kind : Kind) (rest out part new all : List ℕ) → 0 < lanes → i < blocks
    → AreBytes part → IsPart1 lanes kind (take (32 * lanes) rest) part → new ≡ out ++ part
    → Written lanes (blocks - i) kind rest out all
    → Written lanes (blocks - (i + 1)) (second_kind lanes kind rest) (drop (32 * lanes) rest) new all
written_step lanes blocks i kind rest out part new all some lt small is items before =
    let more = rw (one-less blocks i lt) at before.2 in
    let bytes : AreBytes (more.0 ++ more.1) = rw more.2 at before.1 in
    let same : part ≡ more.0 =
    same_part lanes kind (take (32 * lanes) rest) more.0 part some (AreBytes-left more.0 more.1 bytes) small more.3 is in
    let whole : new ++ more.1 ≡ all =
    ap (λ zs. zs ++ more.1) (items ∙ ap (λ zs. out ++ zs) same) ∙ append_assoc out more.0 more.1
    ∙ ap (λ zs. out ++ zs) (sym more.2) ∙ before.3 in
    (more.1, AreBytes-right more.0 more.1 bytes, more.4, whole)

-- The next part is no longer than what is left.
pub written_room : (lanes blocks i : ℕ) (kind : Kind) (rest out part all : List ℕ) → i < blocks
    → IsPart1 lanes kind (take (32 * lanes) rest) part
    → Written lanes (blocks - i) kind rest out all → length out + length part ≤ length all
written_room lanes blocks i kind rest out part all lt is before =
    let block : List ℕ = take (32 * lanes) rest in
    let more = rw (one-less blocks i lt) at before.2 in
    let long : length part ≡ 1 + size lanes is.width = length-part lanes kind block part is.width is is.least in
    let long' : length more.0 ≡ 1 + size lanes is.width = length-part lanes kind block more.0 is.width more.3 is.least in
    let both : length before.0 ≡ length more.0 + length more.1 = ap length more.2 ∙ length-append more.0 more.1 in
    let total : length out + length before.0 ≡ length all = sym (length-append out before.0) ∙ ap length before.3 in
    omega arith

pub written_tail : (lanes blocks i : ℕ) (kind : Kind) (rest out all : List ℕ) → blocks ≤ i
    → Written lanes (blocks - i) kind rest out all → out ++ bytes_of_words rest ≡ all
written_tail lanes blocks i kind rest out all le before =
    let none : blocks - i ≡ 0 = omega arith in
    let is : before.0 ≡ bytes_of_words rest = rw none at before.2 in
    ap (λ zs. out ++ zs) (sym is) ∙ before.3

pub written_tail_room : (lanes blocks i : ℕ) (kind : Kind) (rest out all : List ℕ) → blocks ≤ i
    → Written lanes (blocks - i) kind rest out all → length out + 4 * length rest ≡ length all
written_tail_room lanes blocks i kind rest out all le before =
    omega (arith, ap length (written_tail lanes blocks i kind rest out all le before), length-append out (bytes_of_words rest), length-bytes_of_words rest)

-- A block at its least width can be packed into 1,024 bytes.
pub packable : (lanes width : ℕ) (kind : Kind) (block buffer : List ℕ) → IsWidth kind block width → length block ≡ 32 * lanes → width ≤ 32 → lanes ≤ 8
    → 1024 ≤ length buffer → CanPack lanes width kind block buffer
packable lanes width kind block buffer least whole narrow few room = record {
  whole = whole;
  narrow = narrow;
  room = omega (arith, mul-le (4 * lanes) width 32 32 (omega arith) narrow);
  fits = least.fits;
}

-- ---- the parts of an encoded list
