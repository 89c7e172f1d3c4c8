-- What the first bytes of a column without a fault say.
use Rattle.bitpack_columns.proofs.SoundLaws.{count_number, first_number, parts_right}
use Rattle.bitpack_columns.proofs.opening.read_parts.Goals as goal

pub bounds-bytes-0 : goal.bounds-bytes-0
bounds-bytes-0 c = let header = (parts_right c.args.bytes.now c.requires).0 in header.some

pub read_count-count-requires-clause-some : goal.read_count-count-requires-clause-some
read_count-count-requires-clause-some c = (parts_right c.args.bytes.now c.requires).0.some

pub read_count-count-requires-clause-sound : goal.read_count-count-requires-clause-sound
read_count-count-requires-clause-sound c = λ many. (count_number c.args.bytes.now (parts_right c.args.bytes.now c.requires).0 many).0

pub read_first-first-requires : goal.read_first-first-requires
read_first-first-requires c =
    rw (c.kind_of-kind.ensures, c.read_count-count.ensures.count, c.read_count-count.ensures.rest)
    (first_number c.args.bytes.now (parts_right c.args.bytes.now c.requires).0)
