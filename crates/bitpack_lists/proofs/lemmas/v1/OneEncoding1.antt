-- Version 1: parts and encoded lists are one for one block and one list, and each list has an encoded one.
-- Serves blocks, v1, v2.
use Rattle.std.proofs.Common.{◌≡◌, ℕ, zero, suc, ◌+◌, ◌*◌, ◌^◌, ◌<◌, ◌≤◌, List, ◌∷◌, ◌++◌, length, take, drop, get_or, refl, sym, ◌∙◌, ap, arith, mul-suc}
use Rattle.std.proofs.lemmas.List.{take_at, drop_at, length-take, length-drop, take-append-drop}
use Rattle.std.proofs.lemmas.List.Elements.{All-take, All-drop}
use Rattle.bitpacking.specs.declared.kind.Kind.{Kind}
use Rattle.bitpacking.specs.Bits.{AreBytes}
use Rattle.bitpacking.specs.Codes.{AreWords, codes}
use Rattle.bitpacking.specs.Width.{IsWidth}
use Rattle.bitpacking.specs.Layout.{size}
use Rattle.bitpacking.proofs.ForCallers.{as_many_codes, block_has_one_list, bytes_hold_one_block, codes_are_words, one_layout_bytes, one_least_width, same_least_width}
use Rattle.bitpack_lists.specs.Chains.{second_kind}
use Rattle.bitpacking.specs.Words.{bytes_of_words}
use Rattle.bitpack_lists.specs.Version1.{IsPart1, Blocks1}
use Rattle.bitpack_lists.proofs.lemmas.blocks.ChainLemmas.{next-same}
use Rattle.bitpack_lists.proofs.lemmas.blocks.PartLemmas.{AreBytes-append, AreBytes-cons, AreBytes-left, AreBytes-right, AreBytes-words, same_words}

-- ---- one block

same_width : (lanes : ℕ) (kind : Kind) (block one other : List ℕ) → (a : IsPart1 lanes kind block one) (b : IsPart1 lanes kind block other)
    → b.width ≡ a.width
same_width lanes kind block one other a b = same_least_width (codes kind block) a.width b.width a.least b.least

pub length-part : (lanes : ℕ) (kind : Kind) (block part : List ℕ) (width : ℕ) → IsPart1 lanes kind block part → IsWidth kind block width
    → length part ≡ 1 + size lanes width
length-part lanes kind block part width is least =
    let same : is.width ≡ width = same_least_width (codes kind block) width is.width least is.least in
    let long : length is.body ≡ size lanes is.width = is.holds.byte_count in
    let whole : length part ≡ suc (length is.body) = ap length is.parts in
    let size_of : size lanes is.width ≡ size lanes width = ap (size lanes) same in
    omega arith

-- A block has one part.
pub same_part : (lanes : ℕ) (kind : Kind) (block one other : List ℕ) → 0 < lanes → AreBytes one → AreBytes other
    → IsPart1 lanes kind block one → IsPart1 lanes kind block other → other ≡ one
same_part lanes kind block one other some small small' a b =
    let width : b.width ≡ a.width = same_width lanes kind block one other a b in
    let bytes : AreBytes a.body = λ k. rw a.parts at small (suc k) in
    let bytes' : AreBytes b.body = λ k. rw b.parts at small' (suc k) in
    let body : b.body ≡ a.body =
    block_has_one_list lanes a.width kind block a.body b.body some bytes bytes' a.holds (rw width at b.holds) in
    b.parts ∙ rw (width, body) (sym a.parts)

-- The least width of a block of words is at most 32.
pub narrow_least : (kind : Kind) (block : List ℕ) (width : ℕ) → AreWords block → IsWidth kind block width
    → width ≤ 32
narrow_least kind block width words least =
    let found = one_least_width (codes kind block) (codes_are_words kind block words) in
    let same : width ≡ found.0 = found.3 width least in
    let narrow : found.0 ≤ 32 = found.1 in
    omega arith

-- Bytes begin with the part of one block.
pub same_front : (lanes : ℕ) (kind : Kind) (one other part part' rest rest' : List ℕ) → AreWords one → AreWords other
    → IsPart1 lanes kind one part → IsPart1 lanes kind other part' → part ++ rest ≡ part' ++ rest'
    → (one ≡ other) × (part ≡ part') × (rest ≡ rest')
same_front lanes kind one other part part' rest rest' words words' a b e =
    let all : a.width ∷ a.body ++ rest ≡ b.width ∷ b.body ++ rest' =
    ap (λ zs. zs ++ rest) (sym a.parts) ∙ e ∙ ap (λ zs. zs ++ rest') b.parts in
    let width : a.width ≡ b.width = ap (λ zs. get_or zs 0 0) all in
    let n : ℕ = size lanes a.width in
    let long : length b.body ≡ n = b.holds.byte_count ∙ ap (size lanes) (sym width) in
    let later : a.body ++ rest ≡ b.body ++ rest' = ap (drop 1) all in
    let body : a.body ≡ b.body =
    sym (take_at a.body rest n a.holds.byte_count) ∙ ap (take n) later ∙ take_at b.body rest' n long in
    let after : rest ≡ rest' =
    sym (drop_at a.body rest n a.holds.byte_count) ∙ ap (drop n) later ∙ drop_at b.body rest' n long in (
      bytes_hold_one_block lanes a.width kind other one a.body words' words (rw (width, body) b.holds) a.holds,
      a.parts ∙ rw (width, body) (sym b.parts),
      after,
    )

-- Each block of words has a part.
pub part_of : (lanes : ℕ) (kind : Kind) (block : List ℕ) → 0 < lanes → AreWords block → length block ≡ 32 * lanes
    → (part : List ℕ) × AreBytes part × IsPart1 lanes kind block part
part_of lanes kind block some words long =
    let least = one_least_width (codes kind block) (codes_are_words kind block words) in
    let count : length (codes kind block) ≡ 32 * lanes = as_many_codes kind block ∙ long in
    let found = one_layout_bytes lanes least.0 (codes kind block) some count least.2.fits in
    let narrow : least.0 ≤ 32 = least.1 in (
      least.0 ∷ found.0,
      AreBytes-cons least.0 found.0 (omega arith) found.1,
      record { width = least.0; body = found.0; least = least.2; holds = found.2; parts = refl },
    )

-- ---- blocks and tail

-- Values have one encoded list.
pub same_blocks : (lanes count : ℕ) (kind : Kind) (values one other : List ℕ) → 0 < lanes → AreBytes one → AreBytes other
    → Blocks1 lanes count kind values one → Blocks1 lanes count kind values other → other ≡ one
same_blocks lanes zero kind values one other some small small' a b = b ∙ sym a
same_blocks lanes (suc count) kind values one other some small small' (part, rest, e, is, more) (part', rest', e', is', more') =
    let bytes : AreBytes (part ++ rest) = rw e at small in
    let bytes' : AreBytes (part' ++ rest') = rw e' at small' in
    let front : part' ≡ part =
    same_part lanes kind (take (32 * lanes) values) part part' some (AreBytes-left part rest bytes) (AreBytes-left part' rest' bytes') is is' in
    let back : rest' ≡ rest =
    same_blocks lanes count (second_kind lanes kind values) (drop (32 * lanes) values) rest rest' some
    (AreBytes-right part rest bytes) (AreBytes-right part' rest' bytes') more more' in
    e' ∙ rw (front, back) (sym e)

-- Bytes encode one list.
pub same_values : (lanes count : ℕ) (kind kind' : Kind) (values others bytes : List ℕ) → 1 ≤ lanes → kind' ≡ kind → AreWords values → AreWords others
    → Blocks1 lanes count kind values bytes → Blocks1 lanes count kind' others bytes → others ≡ values
same_values lanes zero kind kind' values others bytes some same words words' a b = same_words others values words' words (sym b ∙ a)
same_values lanes (suc count) kind kind' values others bytes some same words words' (part, rest, e, is, more) (part', rest', e', is', more') =
    let n : ℕ = 32 * lanes in
    let P : ℕ → Type 0 = λ v. v < 2 ^ 32 in
    let found = same_front lanes kind (take n others) (take n values) part' part rest' rest (All-take P n others words') (All-take P n values words)
    (rw same at is') is (sym e' ∙ e) in
    let next : second_kind lanes kind' others ≡ second_kind lanes kind values = rw same (next-same lanes kind others values some found.0) in
    let back : drop n others ≡ drop n values =
    same_values lanes count (second_kind lanes kind values) (second_kind lanes kind' others) (drop n values) (drop n others) rest some next
    (All-drop P n values words) (All-drop P n others words') more (rw found.2 at more') in
    sym (take-append-drop n others) ∙ rw (found.0, back) (take-append-drop n values)

-- Values of that many blocks and more have an encoded list.
pub blocks_of : (lanes count : ℕ) (kind : Kind) (values : List ℕ) → 1 ≤ lanes → AreWords values → 32 * lanes * count ≤ length values
    → (encoding : List ℕ) × AreBytes encoding × Blocks1 lanes count kind values encoding
blocks_of lanes zero kind values some words room = (bytes_of_words values, AreBytes-words values, refl)
blocks_of lanes (suc count) kind values some words room =
    let n : ℕ = 32 * lanes in
    let P : ℕ → Type 0 = λ v. v < 2 ^ 32 in
    let span : n * suc count ≡ n * count + n = mul-suc n count in
    let front : length (take n values) ≡ n = simp length-take (omega arith) in
    let back : n * count ≤ length (drop n values) = simp length-drop (omega arith) in
    let one = part_of lanes kind (take n values) some (All-take P n values words) front in
    let more = blocks_of lanes count (second_kind lanes kind values) (drop n values) some (All-drop P n values words) back in
    (one.0 ++ more.0, AreBytes-append one.0 more.0 one.1 more.1, (one.0, more.0, refl, one.2, more.2))
