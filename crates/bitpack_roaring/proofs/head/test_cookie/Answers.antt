-- The number of containers less one has two bytes.
use Rattle.std.proofs.Common.{arith}
use Rattle.bitpack_roaring.proofs.HeadLaws.{two_small}
use Rattle.bitpack_roaring.proofs.head.test_cookie.Goals as goal

pub returns-then-runs-clause-few : goal.returns-then-runs-clause-few
returns-then-runs-clause-few c = let small = two_small 0 1 c.args.bytes.now (λ k. (c.type_inv.bytes k).fits) in omega (arith, c.read_integer.ensures)
