-- A list in both versions: what its version 1 header says, how long it is in both, and the bytes that they share.
-- Serves v2.
use Rattle.std.proofs.Common.{◌≡◌, ℕ, zero, suc, ◌+◌, ◌-◌, ◌*◌, ◌<◌, ◌≤◌, List, ◌∷◌, ◌++◌, length, drop, get_or, refl, sym, ◌∙◌, ap, arith, add-one, append_assoc}
use Rattle.std.proofs.lemmas.List.{get_or-take, length-append, length-drop}
use Rattle.bitpacking.specs.declared.kind.Kind.{Kind}
use Rattle.bitpacking.specs.Bits.{AreBytes}
use Rattle.bitpacking.specs.Codes.{codes}
use Rattle.bitpacking.specs.Layout.{size}
use Rattle.bitpacking.specs.Words.{bytes_of_words}
use Rattle.bitpacking.proofs.ForCallers.{AreBytes-take, block_has_one_list, same_least_width}
use Rattle.bitpack_lists.specs.declared.list_kind.ListKind.{ListKind}
use Rattle.bitpack_lists.specs.Chains.{second_kind}
use Rattle.bitpack_lists.specs.Parts.{BeginsWithHeader, first_kind, whole_blocks}
use Rattle.bitpack_lists.specs.Version1.{Blocks1, List1}
use Rattle.bitpack_lists.specs.Version2.{IsRest2, List2, block_of, body_at, body_start, kind_at, last_at, parts_before, tail_start, width_at, widths_before}
use Rattle.bitpack_lists.specs.Laws.{SameBodies}
use Rattle.bitpack_lists.specs.inner.Opening.{AreEntries}
use Rattle.bitpack_lists.specs.inner.Upgrading.{IsRest1}
use Rattle.bitpack_lists.proofs.lemmas.blocks.BlockLemmas.{kind_at-next, values_after}
use Rattle.bitpack_lists.proofs.lemmas.blocks.HeaderLemmas.{header_bytes, kind_byte-same}
use Rattle.bitpack_lists.proofs.lemmas.blocks.PartLemmas.{AreBytes-drop, AreBytes-left, AreBytes-right}
use Rattle.bitpack_lists.proofs.lemmas.blocks.RestLemmas.{length-encoding2, length-tail}
use Rattle.bitpack_lists.proofs.lemmas.v1.OneEncoding1.{length-part}

-- The bytes encode the kind and the count that the header says.
pub listed : (lanes count : ℕ) (kind kind' : ListKind) (values bytes : List ℕ) → BeginsWithHeader 1 lanes kind count bytes → List1 lanes kind' values bytes
    → (kind' ≡ kind) × IsRest1 lanes kind count values (drop 7 bytes)
listed lanes count kind kind' values bytes begins list =
    let first = header_bytes 1 lanes kind count bytes begins in
    let second = header_bytes 1 lanes kind' (length values) bytes list.begins in
    let same : kind' ≡ kind = kind_byte-same kind' kind (sym second.kind_is ∙ first.kind_is) in
    let long : length values ≡ count = sym second.count_is ∙ first.count_is in (
      same,
      record { words = list.words; long = long; blocks = rw (← long, ← same) list.blocks },
    )

-- ---- both versions, block by block

module _ (lanes blocks : ℕ) (kind : ListKind) (values other : List ℕ) (some : 1 ≤ lanes) (entries : AreEntries lanes blocks kind values other) where
  -- The kind of the block after one is the same in both.
  pub kind_after : (i : ℕ) → i < blocks → second_kind lanes (kind_at kind other i) (drop (32 * lanes * i) values) ≡ kind_at kind other (i + 1)
  kind_after i lt =
      let n : ℕ = 32 * lanes in
      let last : get_or (drop (n * i) values) (n - 1) 0 ≡ last_at other i =
      sym (get_or-take n (drop (n * i) values) (n - 1) 0 (omega arith)) ∙ sym (entries i lt).last in
      kind_at-next kind other i (kind_at kind other i) (get_or (drop (n * i) values) (n - 1) 0) refl last

  pub length_left : (left i : ℕ) (rest : List ℕ) → i + left ≡ blocks → Blocks1 lanes left (kind_at kind other i) (drop (32 * lanes * i) values) rest
      → length rest + 4 * lanes * widths_before other i
      ≡ left + 4 * lanes * widths_before other blocks + length (bytes_of_words (drop (32 * lanes * blocks) values))
  length_left zero i rest e is =
      let end : i ≡ blocks = omega (arith, e) in
      rw end (omega (arith, ap length (rw end at is)))
  length_left (suc left) i rest e (part, after, parts, is, more) =
      let lt : i < blocks = omega (arith, e) in
      let long = length-part lanes (kind_at kind other i) (block_of lanes values i) part (width_at other i) is (entries i lt).least in
      let later : length after + 4 * lanes * (widths_before other i + width_at other i)
      ≡ left + 4 * lanes * widths_before other blocks + length (bytes_of_words (drop (32 * lanes * blocks) values)) =
      rw add-one at (length_left left (i + 1) after (omega (arith, e)) (rw (← kind_after i lt, ← values_after lanes i values) more)) in
      omega (arith, ap length parts, length-append part after, long, later)

-- In version 2 there are eight bytes more for each whole block.
pub length_upgraded : (lanes : ℕ) (kind : ListKind) (values encoding other : List ℕ) → 1 ≤ lanes → List1 lanes kind values encoding → List2 lanes kind values other
    → length other ≡ length encoding + 8 * whole_blocks lanes (length values)
length_upgraded lanes kind values encoding other some one two =
    let blocks : ℕ = whole_blocks lanes (length values) in
    let none : 32 * lanes * 0 ≡ 0 = omega arith in
    let given : Blocks1 lanes blocks (first_kind kind) (drop (32 * lanes * 0) values) (drop 7 encoding) = rw none one.blocks in
    let left = length_left lanes blocks kind values (drop 7 other) some two.rest.whole.entries blocks 0 (drop 7 encoding) (omega arith) given in
    let found = header_bytes 1 lanes kind (length values) encoding one.begins in
    omega (arith, left, found.long, length-drop 7 encoding, length-tail lanes values some, length-encoding2 lanes kind values other some two)

-- ---- the same bytes in both

module _ (lanes blocks : ℕ) (kind : ListKind) (values other : List ℕ) (some : 1 ≤ lanes) (small : AreBytes other)
    (is : IsRest2 lanes blocks kind values other) where
  parts_left : (left i : ℕ) (rest : List ℕ) → i + left ≡ blocks → AreBytes rest → Blocks1 lanes left (kind_at kind other i) (drop (32 * lanes * i) values) rest
      → parts_before lanes blocks other i ++ rest ≡ parts_before lanes blocks other blocks ++ drop (tail_start lanes blocks other) other
  parts_left zero i rest e bytes tail =
      let end : i ≡ blocks = omega (arith, e) in
      rw (tail, end, is.tail) refl
  parts_left (suc left) i rest e bytes (part, after, parts, one, more) =
      let lt : i < blocks = omega (arith, e) in
      let here : Kind = kind_at kind other i in
      let block : List ℕ = block_of lanes values i in
      let start : ℕ = body_start lanes blocks other i in
      let given : AreBytes (part ++ after) = rw parts at bytes in
      let part_bytes : AreBytes part = AreBytes-left part after given in
      let width : one.width ≡ width_at other i = same_least_width (codes here block) (width_at other i) one.width (is.whole.entries i lt).least one.least in
      let body_bytes : AreBytes one.body = λ k. rw one.parts at part_bytes (suc k) in
      let body : one.body ≡ body_at lanes blocks other i =
      block_has_one_list lanes (width_at other i) here block (body_at lanes blocks other i) one.body some
      (AreBytes-take (drop start other) (size lanes (width_at other i)) (AreBytes-drop start other small)) body_bytes (is.whole.bodies i lt) (rw width at one.holds) in
      let part_is : part ≡ width_at other i ∷ body_at lanes blocks other i = one.parts ∙ rw (width, body) refl in
      let later = parts_left left (i + 1) after (omega (arith, e)) (AreBytes-right part after given)
      (rw (← kind_after lanes blocks kind values other some is.whole.entries i lt, ← values_after lanes i values) more) in
      rw parts (rw part_is (sym (append_assoc (parts_before lanes blocks other i) (width_at other i ∷ body_at lanes blocks other i) after) ∙ rw add-one at later))

pub same_bodies : SameBodies
same_bodies lanes kind values encoding other some small small' one two =
    let blocks : ℕ = whole_blocks lanes (length values) in
    let none : 32 * lanes * 0 ≡ 0 = omega arith in
    let given : Blocks1 lanes blocks (first_kind kind) (drop (32 * lanes * 0) values) (drop 7 encoding) = rw none one.blocks in
    parts_left lanes blocks kind values (drop 7 other) some (AreBytes-drop 7 other small') two.rest blocks 0 (drop 7 encoding) (omega arith) (AreBytes-drop 7 encoding small) given
