-- The kind and the values of an opened list are the ones that its bytes encode.
use Rattle.std.proofs.Common.{subst}
use Rattle.bitpack_lists.specs.Opened.{kind_of, values}
use Rattle.bitpack_lists.specs.Encodings.{EncodesNoOther}
use Rattle.bitpack_lists.specs.Version2.{List2}
use Rattle.bitpack_lists.proofs.lemmas.opened.OpenedValues.{opened_list2, opened_only2}
use Rattle.bitpack_lists.proofs.blocks.reads.PackedList.open.Goals as goal

pub returns-clause-list : goal.returns-clause-list
returns-clause-list g c =
    let list = c.of_encoding.result in
    subst (λ bytes. List2 g.P.BitPacker.lanes (kind_of list) (values list) bytes) c.of_encoding.ensures
    (opened_list2 list g.met.P.BitPacker.some_lanes)

pub returns-clause-only : goal.returns-clause-only
returns-clause-only g c =
    let list = c.of_encoding.result in
    subst (λ bytes. EncodesNoOther g.P.BitPacker.lanes (kind_of list) (values list) bytes) c.of_encoding.ensures
    (opened_only2 list g.met.P.BitPacker.some_lanes)
