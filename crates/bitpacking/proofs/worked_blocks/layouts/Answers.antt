-- The worked layouts, by computing.
use Rattle.bitpacking.proofs.WorkedProofs.{three_bits, three_bits_sorted, four_bits, wrapped_fives, four_lanes, across_words, eight_lanes}
use Rattle.bitpacking.proofs.worked_blocks.layouts.Goals as goal

pub returns-clause-three_bits : goal.returns-clause-three_bits
returns-clause-three_bits c = three_bits

pub returns-clause-three_bits_sorted : goal.returns-clause-three_bits_sorted
returns-clause-three_bits_sorted c = three_bits_sorted

pub returns-clause-four_bits : goal.returns-clause-four_bits
returns-clause-four_bits c = four_bits

pub returns-clause-wrapped_fives : goal.returns-clause-wrapped_fives
returns-clause-wrapped_fives c = wrapped_fives

pub returns-clause-four_lanes : goal.returns-clause-four_lanes
returns-clause-four_lanes c = four_lanes

pub returns-clause-across_words : goal.returns-clause-across_words
returns-clause-across_words c = across_words

pub returns-clause-eight_lanes : goal.returns-clause-eight_lanes
returns-clause-eight_lanes c = eight_lanes
