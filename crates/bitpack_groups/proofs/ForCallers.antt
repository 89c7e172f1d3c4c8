-- What the proofs of other crates may cite: the laws as lemmas, how numbers and groups are read and written part by part, and a few facts
-- on bytes, on faults, on widths and on slices.
pub use Rattle.bitpack_groups.proofs.ByteLemmas.{AreBytes-append, AreBytes-cons, AreBytes-drop, AreBytes-nil}
pub use Rattle.bitpack_groups.proofs.FaultLemmas.{front-is, none_first, passed}
pub use Rattle.bitpack_groups.proofs.FillLaws.{IsFilled, fill_done, fill_left, fill_more, fill_one, fill_part, fill_room, fill_start}
pub use Rattle.bitpack_groups.proofs.GroupLaws.{Decides-are_loose, group_reads_back, one_group, one_group_of_codes}
pub use Rattle.bitpack_groups.proofs.GroupLemmas.{Least-bits, group_fits, length-group, loose_by_bits}
pub use Rattle.bitpack_groups.proofs.GroupSteps.{after-next, codes-next, codes_step, fault-here, fault-next, group_right, later_right, no_groups-after, no_groups-codes, no_groups-fault}
pub use Rattle.bitpack_groups.proofs.GroupsLaws.{groups_are_read, groups_exist, groups_read_back, groups_same, one_run_of_codes, same_group}
pub use Rattle.bitpack_groups.proofs.IntegerLaws.{flat_more, flat_none, le_more, le_none, lent_len, little_len, product_more}
pub use Rattle.bitpack_groups.proofs.IntegerReads.{cut_byte, joined_same, short_four, short_one, short_three, short_two, within_all}
pub use Rattle.bitpack_groups.proofs.IntegerEncodings.{count_fits, count_some, front_encoding, front_is, front_value, little_bytes, low_first}
pub use Rattle.bitpack_groups.proofs.Lengths.{AreBytes-number_in, longest_group, longest_groups, longest_number}
pub use Rattle.bitpack_groups.proofs.NumberLaws.{number_reads_back, one_number}
pub use Rattle.bitpack_groups.proofs.NumberLemmas.{length-number_in, number-large, number-small, number_in-large, number_in-small}
pub use Rattle.bitpack_groups.proofs.PackedLaws.{groups_are, groups_run, least_width_is}
pub use Rattle.bitpack_groups.proofs.SliceLemmas.{length-written, lent_after, put_end, take-put_end}
pub use Rattle.bitpack_groups.proofs.WidthLemmas.{Decides-fits, fit_by_bits}
