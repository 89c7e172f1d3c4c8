-- Version 2: values have one encoded list, and it belongs to one kind and one list.
-- Serves ForCallers, laws, opened.
use Rattle.std.proofs.Common.{◌≡◌, length, take, drop, sym, ◌∙◌, ap, arith}
use Rattle.std.proofs.lemmas.List.{ext_get_or, take-append-drop}
use Rattle.bitpack_lists.specs.Laws.{OneEncoding2, OneList2, NoFault2}
use Rattle.bitpack_lists.specs.Parts.{count_of, whole_blocks}
use Rattle.bitpack_lists.specs.Version2.{value_at}
use Rattle.bitpack_lists.proofs.lemmas.blocks.HeaderLemmas.{header_bytes, header_from_fault, kind_byte-same}
use Rattle.bitpack_lists.proofs.lemmas.blocks.PartLemmas.{AreBytes-drop}
use Rattle.bitpack_lists.proofs.lemmas.blocks.SameBlocks.{same_whole}
use Rattle.bitpack_lists.proofs.lemmas.v2.Soundness2.{header_right2, list_from_none2, none_from_list2, value_given}

-- ---- bytes encode one list

pub one_list2 : OneList2
one_list2 lanes kind kind' values others encoding some small one two =
    let first = header_bytes 2 lanes kind (length values) encoding one.begins in
    let second = header_bytes 2 lanes kind' (length others) encoding two.begins in
    let same : kind' ≡ kind = kind_byte-same kind' kind (sym second.kind_is ∙ first.kind_is) in
    let long : length others ≡ length values = sym second.count_is ∙ first.count_is in (
      same,
      ext_get_or 0 others values long (λ p lt.
          value_given lanes kind' others encoding some small two p lt
          ∙ ap (λ k. value_at lanes (whole_blocks lanes (length others)) k (drop 7 encoding) p) same
          ∙ ap (λ n. value_at lanes (whole_blocks lanes n) kind (drop 7 encoding) p) long
          ∙ sym (value_given lanes kind values encoding some small one p (omega (arith, lt, long)))),
    )

-- ---- a list has one encoding

pub one_encoding2 : OneEncoding2
one_encoding2 lanes kind values encoding other some small small' one two =
    let front : take 7 other ≡ take 7 encoding = two.begins.front ∙ sym one.begins.front in
    let later : drop 7 other ≡ drop 7 encoding =
    same_whole lanes (whole_blocks lanes (length values)) kind values (drop 7 encoding) (drop 7 other) some (AreBytes-drop 7 encoding small) (AreBytes-drop 7 other small')
    one.rest.whole two.rest.whole (two.rest.tail ∙ sym one.rest.tail) in
    sym (take-append-drop 7 other) ∙ rw (front, later) (take-append-drop 7 encoding)

-- ---- bytes without a fault

pub no_fault2 : NoFault2
no_fault2 lanes bytes some small = (
  λ none.
      let header = header_from_fault 2 lanes bytes small (header_right2 lanes bytes none) in
      let found = list_from_none2 lanes (count_of bytes) _ bytes some small header none in
      (_, found.0, found.2),
  λ found. none_from_list2 lanes found.0 found.1 bytes some small found.2,
)
