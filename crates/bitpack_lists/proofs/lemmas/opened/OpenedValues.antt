-- The kind and the values of an opened list are the ones that its bytes encode.
-- Serves ForCallers, opened.
use Rattle.std.proofs.Common.{◌≡◌, ℕ, ◌≤◌, List, length, drop, get_or, None, sym, subst, ◌∙◌, ap, arith}
use Rattle.bitpacking.specs.Bits.{AreBytes}
use Rattle.bitpacking.specs.declared.bit_packer.BitPacker.{Ghosts}
use Rattle.bitpack_lists.specs.declared.blocks.reads.PackedList.{PackedList}
use Rattle.bitpack_lists.specs.declared.list_kind.ListKind.{ListKind}
use Rattle.bitpack_lists.specs.Opened.{encoding, first_of, kind_of, values}
use Rattle.bitpack_lists.specs.Parts.{count_of, kind_of_byte, whole_blocks}
use Rattle.bitpack_lists.specs.Search.{first_at_least, first_reaching}
use Rattle.bitpack_lists.specs.Encodings.{EncodesNoOther, States}
use Rattle.bitpack_lists.specs.Version2.{List2, fault2, value_at}
use Rattle.bitpack_lists.specs.inner.Searching.{value_of}
use Rattle.bitpack_lists.specs.inner.Walks.{values_in}
use Rattle.bitpack_lists.proofs.lemmas.opened.Positions.{first_of-same, get_or-first_of, length-first_of}
use Rattle.bitpack_lists.proofs.lemmas.blocks.HeaderLemmas.{header_bytes}
use Rattle.bitpack_lists.proofs.lemmas.v2.OneEncoding2.{no_fault2}
use Rattle.bitpack_lists.proofs.lemmas.blocks.SearchLemmas.{first_same}
use Rattle.bitpack_lists.proofs.lemmas.v2.Soundness2.{kind_of_byte-is, value_given}
use Rattle.bitpack_lists.proofs.lemmas.opened.Sharing.{AreValues}

module _ {P : Type 0} {members : Ghosts P} (list : PackedList P members) where
  pub length-values : length (values list) ≡ list.count
  length-values = length-first_of (value_of list) list.count

  -- the values of an opened list are those at each position
  pub are_listed : AreValues (values_in list) (values list)
  are_listed = (sym length-values, λ k lt. sym (get_or-first_of (value_of list) list.count k lt))

  -- and the first that reaches a target is at the same position
  pub first_listed : (target : ℕ) → first_reaching (value_of list) list.count target ≡ first_at_least (values list) target
  first_listed target =
      first_same (value_of list) (λ p. get_or (values list) p 0) list.count target are_listed.1
      ∙ ap (λ count. first_reaching (λ p. get_or (values list) p 0) count target) are_listed.0

-- ---- bytes encode the kind and the values of their list, and of no other

-- the values of an encoded list, as its header and its bytes state them
stated_values : ℕ → List ℕ → List ℕ
stated_values lanes bytes = first_of (value_at lanes (whole_blocks lanes (count_of bytes)) (kind_of_byte (get_or bytes 1 0)) (drop 7 bytes)) (count_of bytes)

given_only : (lanes : ℕ) (bytes : List ℕ) → 1 ≤ lanes → AreBytes bytes
    → EncodesNoOther lanes (kind_of_byte (get_or bytes 1 0)) (stated_values lanes bytes) bytes
unfolding stated_values
given_only lanes bytes some small kind others is =
    let found = header_bytes 2 lanes kind (length others) bytes is.begins in
    let same : kind_of_byte (get_or bytes 1 0) ≡ kind = ap kind_of_byte found.kind_is ∙ kind_of_byte-is kind in (
      same,
      first_of-same (value_at lanes (whole_blocks lanes (count_of bytes)) (kind_of_byte (get_or bytes 1 0)) (drop 7 bytes)) (count_of bytes) others found.count_is (λ p lt.
          rw (found.count_is, same) (sym (value_given lanes kind others bytes some small is p (omega (arith, lt, found.count_is))))),
    )

given_list : (lanes : ℕ) (bytes : List ℕ) → 1 ≤ lanes → AreBytes bytes → fault2 lanes bytes ≡ None
    → List2 lanes (kind_of_byte (get_or bytes 1 0)) (stated_values lanes bytes) bytes
given_list lanes bytes some small none =
    let (kind, others, is) = (no_fault2 lanes bytes some small).0 none in
    let (same_kind, same) = given_only lanes bytes some small kind others is in
    subst (λ values. List2 lanes (kind_of_byte (get_or bytes 1 0)) values bytes) (sym same)
    (subst (λ k. List2 lanes k others bytes) (sym same_kind) is)

given_of : (lanes : ℕ) (bytes : List ℕ) (kind : ListKind) (count : ℕ) (rest : List ℕ) → 1 ≤ lanes → AreBytes bytes
    → States lanes bytes kind count rest
    → List2 lanes kind (first_of (value_at lanes (whole_blocks lanes count) kind rest) count) bytes
    × EncodesNoOther lanes kind (first_of (value_at lanes (whole_blocks lanes count) kind rest) count) bytes
unfolding stated_values
given_of lanes bytes kind count rest some small states =
    rw (states.count_is, states.kind_is, states.rest_is) (given_list lanes bytes some small states.none, given_only lanes bytes some small)

-- ---- an opened list

module _ {P : Type 0} {members : Ghosts P} (list : PackedList P members) (some : 1 ≤ members.lanes) where
  -- these are the kind and the values of its bytes
  pub opened_list2 : List2 members.lanes (kind_of list) (values list) (encoding list)
  opened_list2 = (given_of members.lanes list.bytes.now list.kind list.count list.rest.now some list.are_bytes list.states).0

  pub opened_only2 : EncodesNoOther members.lanes (kind_of list) (values list) (encoding list)
  opened_only2 = (given_of members.lanes list.bytes.now list.kind list.count list.rest.now some list.are_bytes list.states).1

  -- the kind and the values of each list whose bytes were opened are those of the opened list
  pub kind_is : (kind : ListKind) (others : List ℕ) → List2 members.lanes kind others (encoding list) → kind_of list ≡ kind
  kind_is kind others is = (opened_only2 kind others is).0

  pub values_are : (kind : ListKind) (others : List ℕ) → List2 members.lanes kind others (encoding list) → values list ≡ others
  values_are kind others is = (opened_only2 kind others is).1
