-- Facts for callers: the laws of packed lists as lemmas; what a header says; and that values have an encoded list of version 1, and values
-- in order one of version 2.
pub use Rattle.bitpack_lists.proofs.lemmas.blocks.HeaderLemmas.{header_bytes}
pub use Rattle.bitpack_lists.proofs.lemmas.blocks.ListLemmas.{encoding_of}
pub use Rattle.bitpack_lists.proofs.lemmas.v1.Soundness1.{encoding_from_none, one_encoding1, one_list1}
pub use Rattle.bitpack_lists.proofs.lemmas.v2.OneEncoding2.{no_fault2, one_encoding2, one_list2}
pub use Rattle.bitpack_lists.proofs.lemmas.opened.OpenedValues.{kind_is, opened_list2, opened_only2, values_are}
pub use Rattle.bitpack_lists.proofs.lemmas.blocks.PartLemmas.{AreBytes-nil}
pub use Rattle.bitpack_lists.proofs.lemmas.laws.Existence2.{encoding_of2}
