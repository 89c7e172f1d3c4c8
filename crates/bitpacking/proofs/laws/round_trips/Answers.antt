-- The clauses of the law are lemmas.
use Rattle.bitpacking.proofs.ForCallers.{bytes_hold_one_block, block_has_one_list, blocks_share_no_bytes}
use Rattle.bitpacking.proofs.laws.round_trips.Goals as goal

pub returns-clause-block : goal.returns-clause-block
returns-clause-block c = bytes_hold_one_block

pub returns-clause-bytes : goal.returns-clause-bytes
returns-clause-bytes c = block_has_one_list

pub returns-clause-shared : goal.returns-clause-shared
returns-clause-shared c = blocks_share_no_bytes
