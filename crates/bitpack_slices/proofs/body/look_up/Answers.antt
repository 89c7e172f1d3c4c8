-- The blocks have the numbers of the body.
use Rattle.std.proofs.Common.{List, ℕ, ap}
use Rattle.std.specs.List.{filter}
use Rattle.bitpack_slices.proofs.lemmas.bytes.FollowLaws.{follow_as}
use Rattle.bitpack_slices.proofs.body.look_up.Goals as goal
use Rattle.bitpack_slices.specs.Lists.{listed_ids, retains}

pub returns : goal.returns
returns c = follow_as _ _ _ _ _ _ (ap (λ (numbers : List ℕ). filter (retains c.args.there numbers) (listed_ids c.args.list.now)) c.new.ensures) c.filter.ensures
