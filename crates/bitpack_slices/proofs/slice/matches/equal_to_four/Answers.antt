-- Lane by lane, two others and two more.
use Rattle.std.proofs.Common.{get_or}
use Rattle.bitpack_slices.proofs.lemmas.bytes.EqualLaws.{chosen_at, chosen_long}
use Rattle.bitpack_slices.proofs.slice.matches.equal_to_four.Goals as goal

pub returns-clause-length : goal.returns-clause-length
returns-clause-length c =
    let others = c.args.others.now in
    chosen_long c.args.bytes c.requires.length (get_or others 0 0) (get_or others 1 0) (get_or others 2 0) (get_or others 3 0)

pub returns-clause-bytes : goal.returns-clause-bytes
returns-clause-bytes c i lt = chosen_at c.args.bytes c.requires.length c.args.others.now i c.requires.four lt
