-- The vector was empty, so that it holds what was appended.
use Rattle.std.proofs.Common.{◌≡◌}
use Rattle.bitpack_uses.proofs.shared_values.find.Goals as goal

pub returns-clause-found : goal.returns-clause-found
returns-clause-found g c = λ value in_one in_other.
    let (shared, common, appended) = c.in_ok-intersect.ensures.ok in
    let same : c.intersect.new.out.items ≡ shared = rw c.new-shared.ensures.items at appended in
    rw same ((common.members value).1 (in_one, in_other))

pub returns-clause-other : goal.returns-clause-other
returns-clause-other g c = λ value found.
    let (shared, common, appended) = c.in_ok-intersect.ensures.ok in
    let same : c.intersect.new.out.items ≡ shared = rw c.new-shared.ensures.items at appended in
    (common.members value).0 (rw same at found)
