-- What the proofs of other crates may cite.
pub use Rattle.bitpack_sets.proofs.lemmas.encodings.ByteLaws.{each_append, each_flat}
pub use Rattle.bitpack_sets.proofs.lemmas.encodings.ChunkEncodings.{Few, concat_part, count_bytes, get_map, get_size, sum_get, total_all, total_more}
pub use Rattle.bitpack_sets.proofs.lemmas.encodings.EncodeLaws.{accepted, appended}
pub use Rattle.bitpack_sets.proofs.lemmas.encodings.EncodingLaws.{encoding_is_read, ids_are_read}
pub use Rattle.bitpack_sets.proofs.lemmas.encodings.LongLaws.{EachSome, concat_len, counts_len, rising_below, some_each, sums_below, sums_len}
pub use Rattle.bitpack_sets.proofs.lemmas.encodings.RoomLaws.{longest_encoding}
pub use Rattle.bitpack_sets.proofs.lemmas.encodings.ShortLaws.{Grows, before_next, map_map, map_same, short_is, short_written, shorts_back, step_of, steps_summed, steps_taken, steps_total}
pub use Rattle.bitpack_sets.proofs.lemmas.faults.ArrayLaws.{quads_back, quads_of_little}
pub use Rattle.bitpack_sets.proofs.lemmas.faults.ChunkLaws.{bytes_cut, shorts_all}
pub use Rattle.bitpack_sets.proofs.lemmas.faults.EntryLaws.{all_false, first_found, first_more, first_none, first_start, grown_to, not_and, not_eq, not_most, not_not, not_zero, second_not}
pub use Rattle.bitpack_sets.proofs.lemmas.faults.GapLaws.{below_words}
pub use Rattle.bitpack_sets.proofs.lemmas.faults.FaultLaws.{if_none, map_none, none_map, none_or, not_below, or_none, some_not}
pub use Rattle.bitpack_sets.proofs.lemmas.faults.RefusalLaws.{each_below, set_not_refused, too_long}
pub use Rattle.bitpack_sets.proofs.lemmas.reads.CountLaws.{rank_whole}
pub use Rattle.bitpack_sets.proofs.lemmas.reads.HalfLaws.{rank_here}
pub use Rattle.bitpack_sets.proofs.lemmas.reads.IdsLaws.{rising_taken}
pub use Rattle.bitpack_sets.proofs.lemmas.reads.JoinReads.{has_join, has_join_not}
pub use Rattle.bitpack_sets.proofs.lemmas.reads.KeyLaws.{lows_raised, none_there}
pub use Rattle.bitpack_sets.proofs.lemmas.reads.PositionLaws.{between_array, between_chunk, from_array, from_chunks, positions_array, positions_chunks}
pub use Rattle.bitpack_sets.proofs.lemmas.reads.RangeLaws.{quads_range}
pub use Rattle.bitpack_sets.proofs.lemmas.written.CombinedLaws.{raised_chunk, written_small}
pub use Rattle.bitpack_sets.proofs.lemmas.written.FallLaws.{Counted, counted_done, counted_other, counted_same, counted_start}
pub use Rattle.bitpack_sets.proofs.lemmas.written.FrontEncodings.{parts_most}
pub use Rattle.bitpack_sets.proofs.lemmas.written.ToldLaws.{IsTold, told_chunks, told_counts, told_encoding, told_len, told_sizes, told_small}
pub use Rattle.bitpack_sets.proofs.lemmas.encodings.EncodeLaws.{on_err, written_over}
pub use Rattle.bitpack_sets.proofs.lemmas.encodings.FewLaws.{all_of}
pub use Rattle.bitpack_sets.proofs.lemmas.faults.MoreLaws.{both_below, first_falls, first_follows}
pub use Rattle.bitpack_sets.proofs.lemmas.faults.RefusalLaws.{RisesTo, fall_none, found_at}
pub use Rattle.bitpack_sets.proofs.lemmas.written.BodyFilled.{one_set}
pub use Rattle.bitpack_sets.proofs.lemmas.written.CountedRuns.{RunEnds, counted_next, run_found, step_few}
pub use Rattle.bitpack_sets.proofs.lemmas.written.DirectoryFilled.{DirectoryLeft, PartsLeft, directory_end, directory_more, directory_start, next_body_room, next_end_room, next_key_room, next_sum_room, parts_end, parts_more}
pub use Rattle.bitpack_sets.proofs.lemmas.written.RunLaws.{get_drop, rising_front, run_part}
