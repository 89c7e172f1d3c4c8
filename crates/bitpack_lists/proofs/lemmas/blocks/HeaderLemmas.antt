-- A header without a fault is the header of a kind and a count, and the other way round.
-- Serves ForCallers, blocks, header, laws, opened, v1, v2.
use Rattle.std.proofs.Common.{◌≡◌, ℕ, zero, suc, ◌^◌, ◌<◌, ◌≤◌, Bool, true, false, cond, List, [], ◌∷◌, ◌++◌, length, take, drop, get_or, Option, Some, None, refl, sym, ◌∙◌, ap, arith}
use Rattle.std.proofs.lemmas.Bool.{le-ltb, ltb-false, eq-eqb, eqb-true, not-false}
use Rattle.std.proofs.lemmas.List.{length-take, take-append-drop}
use Rattle.bitpacking.specs.Bits.{AreBytes}
use Rattle.bitpack_lists.specs.declared.list_kind.ListKind.{ListKind}
use Rattle.bitpack_lists.specs.declared.list_kind.ListKind.TheVariants as lists
use Rattle.bitpacking.specs.Words.{bytes_of_words, word}
use Rattle.bitpack_lists.specs.Parts.{kind_byte, kind_of_byte, header, header_fault, BeginsWithHeader, count_of}
use Rattle.bitpack_lists.proofs.lemmas.blocks.PartLemmas.{AreBytes-cons, AreBytes-drop, AreBytes-word, bytes-word, word-bytes}

-- A test that was passed.
pub passed : {A : Type 0} (test : Bool) (fault : A) (rest : Option A) → cond test (Some fault) rest ≡ None → (test ≡ false) × (rest ≡ None)
passed true fault rest e = absurd cc
passed false fault rest e = (refl, e)

pub kind_byte-of : (code : ℕ) → code ≤ 2 → kind_byte (kind_of_byte code) ≡ code
kind_byte-of zero le = refl
kind_byte-of (suc zero) le = refl
kind_byte-of (suc (suc zero)) le = refl
kind_byte-of (suc (suc (suc code))) le = absurd (omega arith)

pub kind_byte-le : (kind : ListKind) → kind_byte kind ≤ 2
kind_byte-le lists.Plain = omega arith
kind_byte-le lists.Sorted = omega arith
kind_byte-le lists.StrictlySorted = omega arith

pub kind_byte-same : (one other : ListKind) → kind_byte one ≡ kind_byte other → one ≡ other
kind_byte-same lists.Plain lists.Plain e = refl
kind_byte-same lists.Plain lists.Sorted e = absurd (omega arith)
kind_byte-same lists.Plain lists.StrictlySorted e = absurd (omega arith)
kind_byte-same lists.Sorted lists.Plain e = absurd (omega arith)
kind_byte-same lists.Sorted lists.Sorted e = refl
kind_byte-same lists.Sorted lists.StrictlySorted e = absurd (omega arith)
kind_byte-same lists.StrictlySorted lists.Plain e = absurd (omega arith)
kind_byte-same lists.StrictlySorted lists.Sorted e = absurd (omega arith)
kind_byte-same lists.StrictlySorted lists.StrictlySorted e = refl

pub length-header : (version : ℕ) (kind : ListKind) (lanes count : ℕ) → length (header version kind lanes count) ≡ 7
unfolding header
length-header version kind lanes count = refl

pub AreBytes-header : (version : ℕ) (kind : ListKind) (lanes count : ℕ) → version < 2 ^ 8 → lanes < 2 ^ 8 → AreBytes (header version kind lanes count)
unfolding header
AreBytes-header version kind lanes count small few =
    AreBytes-cons version (kind_byte kind ∷ lanes ∷ bytes_of_words (count ∷ [])) small
    (AreBytes-cons (kind_byte kind) (lanes ∷ bytes_of_words (count ∷ [])) (omega (arith, kind_byte-le kind))
    (AreBytes-cons lanes (bytes_of_words (count ∷ [])) few (AreBytes-word count)))

-- Bytes that were read are the header's.
pub header_from_bytes : (version lanes : ℕ) (kind : ListKind) (bytes : List ℕ) → AreBytes bytes → 7 ≤ length bytes
    → get_or bytes 0 0 ≡ version → get_or bytes 1 0 ≡ kind_byte kind → get_or bytes 2 0 ≡ lanes
    → count_of bytes ≤ 2 ^ 28 → BeginsWithHeader version lanes kind (count_of bytes) bytes
unfolding header
header_from_bytes version lanes kind [] small long one two three few = absurd (omega arith)
header_from_bytes version lanes kind (a ∷ []) small long one two three few = absurd (omega arith)
header_from_bytes version lanes kind (a ∷ b ∷ []) small long one two three few = absurd (omega arith)
header_from_bytes version lanes kind (a ∷ b ∷ c ∷ bytes) small long one two three few = record {
  few = few;
  front =
      let count : bytes_of_words (word bytes 0 ∷ []) ≡ take 4 bytes = bytes-word bytes (AreBytes-drop 3 (a ∷ b ∷ c ∷ bytes) small) (omega arith) in
      rw (count, ← one, ← two, ← three) refl;
}

-- The bytes of a header, read again.
pub record HeaderBytes (version lanes : ℕ) (kind : ListKind) (count : ℕ) (bytes : List ℕ) : Type 0 where
  pub long : 7 ≤ length bytes
  pub version_is : get_or bytes 0 0 ≡ version
  pub kind_is : get_or bytes 1 0 ≡ kind_byte kind
  pub lanes_is : get_or bytes 2 0 ≡ lanes
  pub count_is : count_of bytes ≡ count

pub header_bytes : (version lanes : ℕ) (kind : ListKind) (count : ℕ) (bytes : List ℕ) → BeginsWithHeader version lanes kind count bytes
    → HeaderBytes version lanes kind count bytes
unfolding header
header_bytes version lanes kind count bytes begins =
    let e = begins.front in
    let few = begins.few in
    let front : List ℕ = header version kind lanes count in
    let rest : List ℕ = drop 7 bytes in
    let length_of : length front ≡ 7 = length-header version kind lanes count in
    let seven : length (take 7 bytes) ≡ 7 = ap length e ∙ length_of in
    let whole : bytes ≡ front ++ rest = sym (take-append-drop 7 bytes) ∙ ap (λ zs. zs ++ rest) e in
    record {
      long = omega (arith, length-take 7 bytes);
      version_is = ap (λ zs. get_or zs 0 0) whole;
      kind_is = ap (λ zs. get_or zs 1 0) whole;
      lanes_is = ap (λ zs. get_or zs 2 0) whole;
      count_is = ap count_of whole ∙ word-bytes count rest (omega arith);
    }

pub header_fault-none : (version lanes : ℕ) (kind : ListKind) (count : ℕ) (bytes : List ℕ)
    → BeginsWithHeader version lanes kind count bytes → header_fault version lanes bytes ≡ None
unfolding header_fault
header_fault-none version lanes kind count bytes begins =
    let found = header_bytes version lanes kind count bytes begins in
    let few = begins.few in
    let few' : count_of bytes ≤ 2 ^ 28 = omega (arith, found.count_is) in
    let kind_few = kind_byte-le kind in
    rw (
      le-ltb (length bytes) 7 found.long,
      eq-eqb (get_or bytes 0 0) version found.version_is,
      le-ltb 2 (get_or bytes 1 0) (omega (arith, found.kind_is)),
      eq-eqb (get_or bytes 2 0) lanes found.lanes_is,
      le-ltb (2 ^ 28) (count_of bytes) few',
    ) refl

pub header_from_fault : (version lanes : ℕ) (bytes : List ℕ) → AreBytes bytes → header_fault version lanes bytes ≡ None
    → BeginsWithHeader version lanes (kind_of_byte (get_or bytes 1 0)) (count_of bytes) bytes
unfolding header_fault
header_from_fault version lanes bytes small none =
    let one = passed _ _ _ none in
    let two = passed _ _ _ one.1 in
    let three = passed _ _ _ two.1 in
    let four = passed _ _ _ three.1 in
    let five = passed _ _ _ four.1 in
    header_from_bytes version lanes (kind_of_byte (get_or bytes 1 0)) bytes small (ltb-false _ _ one.0) (eqb-true _ _ (not-false _ two.0))
    (sym (kind_byte-of (get_or bytes 1 0) (ltb-false _ _ three.0))) (eqb-true _ _ (not-false _ four.0)) (ltb-false _ _ five.0)
