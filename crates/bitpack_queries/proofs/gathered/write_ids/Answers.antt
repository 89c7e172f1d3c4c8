-- The ids of a set are not refused.
use Rattle.bitpack_queries.proofs.lemmas.two.GatherLaws.{accepted_back, not_refused}
use Rattle.bitpack_queries.proofs.gathered.write_ids.Goals as goal

pub unwrap-len-requires : goal.unwrap-len-requires
unwrap-len-requires c = accepted_back c.args.ids.now _ _ (not_refused c.args.ids.now c.requires.set) c.encoded_len.ensures.fault
