-- A string that is not pairs of digits spells no bytes.
use Rattle.std.proofs.Common.{◌≢◌, codes, rules, tests}
use Rattle.std.specs.Prelude.{IsTrue}
use Rattle.bitpack.proofs.Finding.{no_bytes}
use Rattle.bitpack.proofs.line.bytes.parse_bytes.Goals as goal

pub returns-then-not-is_pairs : goal.returns-then-not-is_pairs
returns-then-not-is_pairs c =
    let other : c.args.string.now ≢ codes "-" = search (rules, tests) in
    no_bytes c.args.string.now other (λ pairs.
    let yes : IsTrue c.is_pairs.result = c.is_pairs.ensures.1 pairs in
    search (rules, tests))
