-- Version 2: values in order have an encoded list.
-- Serves ForCallers.
use Rattle.std.proofs.Common.{◌≡◌, ℕ, zero, suc, ◌+◌, ◌-◌, ◌*◌, ◌^◌, ◌<◌, ◌≤◌, List, [], ◌∷◌, ◌++◌, length, drop, get_or, None, refl, ◌∙◌, arith, add-one}
use Rattle.bitpacking.specs.declared.kind.Kind.{Kind}
use Rattle.bitpacking.specs.Bits.{AreBytes}
use Rattle.bitpacking.specs.Codes.{AreWords, codes}
use Rattle.bitpacking.specs.Words.{bytes_of_words}
use Rattle.bitpacking.proofs.ForCallers.{as_many_codes, codes_are_words, one_layout_bytes, one_least_width}
use Rattle.bitpack_lists.specs.declared.list_kind.ListKind.{ListKind}
use Rattle.bitpack_lists.specs.Parts.{first_kind, header, whole_blocks}
use Rattle.bitpack_lists.specs.Version2.{List2, block_of, first_out, kind_at, width_at}
use Rattle.bitpack_lists.specs.inner.Opening.{HasBodies}
use Rattle.bitpack_lists.proofs.lemmas.blocks.BlockLemmas.{AreWords-block_of, block_end, length-block_of}
use Rattle.bitpack_lists.proofs.lemmas.blocks.EntryLemmas.{Entered, bodies_step, entered_step}
use Rattle.bitpack_lists.proofs.lemmas.blocks.HeaderLemmas.{AreBytes-header}
use Rattle.bitpack_lists.proofs.lemmas.blocks.PartLemmas.{AreBytes-append, AreBytes-cons, AreBytes-nil, AreBytes-words}
use Rattle.bitpack_lists.proofs.lemmas.blocks.RestLemmas.{List2-from_rest, rest_done}

module _ (lanes : ℕ) (kind : ListKind) (values : List ℕ) (some : 1 ≤ lanes) (words : AreWords values) (few : length values ≤ 2 ^ 28) where
  abbrev blocks : ℕ
  blocks = whole_blocks lanes (length values)

  entries_upto : (i : ℕ) → i ≤ blocks → (rest : List ℕ) × (block_kind : Kind) × (offset : ℕ) × AreBytes rest × Entered lanes kind values rest i block_kind offset
  entries_upto zero le = (
    [],
    first_kind kind,
    0,
    AreBytes-nil,
    record { kind_is = refl; offset_is = refl; few = omega arith; entries = λ block lt. absurd (omega arith); long = refl },
  )
  entries_upto (suc i) le =
      let (rest, block_kind, offset, small, entered) = entries_upto i (omega (arith, le)) in
      let block : List ℕ = block_of lanes values i in
      let end : 32 * lanes * (i + 1) ≤ length values = block_end (32 * lanes) i (length values) (omega (arith, le)) in
      let (width, narrow, least, one) = one_least_width (codes block_kind block) (codes_are_words block_kind block (AreWords-block_of lanes i values words)) in
      let tail : List ℕ = bytes_of_words (offset ∷ get_or block (32 * lanes - 1) 0 ∷ []) in
      let next = entered_step lanes (32 * lanes) width kind values block rest i block_kind offset entered some refl refl end few words least narrow in (
        rest ++ width ∷ tail,
        _,
        _,
        AreBytes-append rest (width ∷ tail) small (AreBytes-cons width tail (omega (arith, narrow)) (AreBytes-words (offset ∷ get_or block (32 * lanes - 1) 0 ∷ []))),
        rw add-one at next,
      )

  pub bodies_upto : (i : ℕ) → i ≤ blocks → (rest : List ℕ) × AreBytes rest × HasBodies lanes blocks kind values rest i
  bodies_upto zero le =
      let (rest, block_kind, offset, small, entered) = entries_upto blocks (omega arith) in (
        rest,
        small,
        record { entries = entered.entries; bodies = λ block lt. absurd (omega arith); long = omega (arith, entered.long) },
      )
  bodies_upto (suc i) le =
      let (rest, small, has) = bodies_upto i (omega (arith, le)) in
      let lt : i < blocks = omega (arith, le) in
      let here : Kind = kind_at kind rest i in
      let block : List ℕ = block_of lanes values i in
      let end : 32 * lanes * (i + 1) ≤ length values = block_end (32 * lanes) i (length values) lt in
      let (body, are, layout, one) = one_layout_bytes lanes (width_at rest i) (codes here block) some (as_many_codes here block ∙ length-block_of lanes i values end)
      (has.entries i lt).least.fits in
      (rest ++ body, AreBytes-append rest body small are, rw add-one at (bodies_step lanes blocks kind values rest body i lt has layout))

  pub encoding_of2 : lanes < 2 ^ 8 → first_out kind values ≡ None → (encoding : List ℕ) × AreBytes encoding × List2 lanes kind values encoding
  encoding_of2 small ordered =
      let (rest, are, has) = bodies_upto blocks (omega arith) in
      let tail : List ℕ = bytes_of_words (drop (32 * lanes * blocks) values) in
      let front : List ℕ = header 2 kind lanes (length values) in (
        front ++ (rest ++ tail),
        AreBytes-append front (rest ++ tail) (AreBytes-header 2 kind lanes (length values) (omega arith) small)
            (AreBytes-append rest tail are (AreBytes-words (drop (32 * lanes * blocks) values))),
        List2-from_rest lanes kind values (rest ++ tail) words ordered few (rest_done lanes blocks kind values rest has),
      )
