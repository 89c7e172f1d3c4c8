-- What the proofs of other crates may cite.
pub use Rattle.bitpack_slices.proofs.lemmas.numbers.AnswerLaws.{each, none_left, none_pass, none_right, those_part, those_same}
pub use Rattle.bitpack_slices.proofs.lemmas.bytes.ArrayLaws.{no_fall, quads_len, rises_from}
pub use Rattle.bitpack_slices.proofs.lemmas.bits.BitmapLaws.{has_more, has_part, range_cat, those_few, those_raised, those_split, word_bit}
pub use Rattle.bitpack_slices.proofs.lemmas.bodies.JoinLaws.{AreParts, below_top, build_are, build_highs, join, numbers_built}
unfoldable pub use Rattle.bitpack_slices.proofs.lemmas.bodies.JoinLaws.{build}
pub use Rattle.bitpack_slices.proofs.lemmas.bodies.BodyFaults.{fault_of_blocks, fault_of_numbers, fault_of_runs, of_numbers}
pub use Rattle.bitpack_slices.proofs.lemmas.bits.ByteLaws.{bytes_cat}
pub use Rattle.bitpack_slices.proofs.lemmas.bytes.Bytes.{EachByte, byte_of}
pub use Rattle.bitpack_slices.proofs.lemmas.bodies.ChangeLaws.{IsWordOf, before, bounds_those, changes, changes_carry, changes_word}
pub use Rattle.bitpack_slices.proofs.lemmas.bits.CombineLaws.{apply_none}
pub use Rattle.bitpack_slices.proofs.lemmas.bits.CountLaws.{bytes_are, few_numbers, full_rise, some_numbers}
pub use Rattle.bitpack_slices.proofs.lemmas.bodies.CutLaws.{counts_len}
pub use Rattle.bitpack_slices.proofs.lemmas.bytes.DecodeLaws.{bytes_dropped, get_take, number_bits, ring, rising_top}
pub use Rattle.bitpack_slices.proofs.lemmas.numbers.RetainedLaws.{byte_small, known, neither, rising_filter}
pub use Rattle.bitpack_slices.proofs.lemmas.bytes.EqualLaws.{tail_whole}
pub use Rattle.bitpack_slices.proofs.lemmas.numbers.FallLaws.{fall_here, fall_later, fall_none, fall_start, two_more}
pub use Rattle.bitpack_slices.proofs.lemmas.numbers.HalfLaws.{has_at_rank, has_not, if_none', is_below, pairs_len, rank_above, rank_under, rising_at}
pub use Rattle.bitpack_slices.proofs.lemmas.bytes.FollowLaws.{IsLeft, follow_as, left_as, left_first, left_more, left_none}
pub use Rattle.bitpack_slices.proofs.lemmas.numbers.JoinReads.{keys_rise, none, rank_join, rank_join_not}
pub use Rattle.bitpack_slices.proofs.lemmas.numbers.KeyLaws.{AreOf, lows_in}
pub use Rattle.bitpack_slices.proofs.lemmas.bodies.LoadLaws.{has_those, those_are, those_rise}
pub use Rattle.bitpack_slices.proofs.lemmas.bodies.LongLaws.{Below, counts, flat_len, keys, total}
pub use Rattle.bitpack_slices.proofs.lemmas.numbers.MergeLaws.{answer_ended, answer_ended', answer_left, answer_right, answer_step}
pub use Rattle.bitpack_slices.proofs.lemmas.bits.OnesLaws.{number_little, ones_all, ones_rise, rising_lower}
pub use Rattle.bitpack_slices.proofs.lemmas.numbers.QueryIds.{all_from, head_left_out, head_retained, none_from}
pub use Rattle.bitpack_slices.proofs.lemmas.bits.RaisedLaws.{map_raised, rising_append}
pub use Rattle.bitpack_slices.proofs.lemmas.numbers.RangeLaws.{join_range, min_less, part_written, rising_drop}
pub use Rattle.bitpack_slices.proofs.lemmas.bodies.ReadLaws.{bit_le, bit_of_bytes, byte_is, eqb_same, has_all, has_append, has_below, has_done, has_here, has_next, le_self, rank_below, rank_done, rank_drop, rank_le}
pub use Rattle.bitpack_slices.proofs.lemmas.numbers.SelectLaws.{join_at}
pub use Rattle.bitpack_slices.proofs.lemmas.slices.SelectionLaws.{and_false, map_zero, retained}
pub use Rattle.bitpack_slices.proofs.lemmas.slices.SliceLaws.{bits_one, bits_room, rising_room, slice_few, slice_many, slice_some}
pub use Rattle.bitpack_slices.proofs.lemmas.bodies.TestLaws.{blocks_tested, both_true, bytes_taken, counted, counts_of, slice_size, true_both}
pub use Rattle.bitpack_slices.proofs.lemmas.bodies.BlockReads.{numbers_counted}
pub use Rattle.bitpack_slices.proofs.lemmas.bodies.BlockTests.{blocks_are_blocks, blocks_known}
pub use Rattle.bitpack_slices.proofs.lemmas.bodies.PartsJoin.{blocks_read, join_parts, join_rises, parts_are, parts_join}
pub use Rattle.bitpack_slices.proofs.lemmas.slices.BackLaws.{little_number, one_le_bytes, one_slice, slice_back}
pub use Rattle.bitpack_slices.proofs.lemmas.bodies.OneBlocks.{append_same, blocks_back, both_blocks, slice_len_same}
pub use Rattle.bitpack_slices.proofs.lemmas.bodies.RunBodies.{blocks_begin, few_small, runs_begun, runs_len, runs_pass, runs_read}
pub use Rattle.bitpack_slices.proofs.lemmas.bodies.RunBounds.{bounds_back, bounds_rise, range_bounds, runs_back, some_bounds}
pub use Rattle.bitpack_slices.proofs.lemmas.bodies.RunLaws.{drop_range, has_run, or_moved, pairs_rise, range_rise, runs_most, runs_rise, take_range}
pub use Rattle.bitpack_slices.proofs.lemmas.bytes.PairLaws.{numbers_back, pairs_back, pairs_below}
