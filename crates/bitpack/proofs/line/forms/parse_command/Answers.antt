-- No request has no arguments or more than three.
use Rattle.std.proofs.Common.{◌≤◌, ◌<◌, arith, length, rules, tests}
use Rattle.std.proofs.lemmas.List.{length-map}
use Rattle.bitpack.proofs.LineFields.{strings_of}
use Rattle.bitpack.proofs.VisibleFields.{are_spelled}
use Rattle.bitpack.proofs.line.forms.parse_command.Goals as goal
use Rattle.bitpack.proofs.line.forms.parse_command.Goals.{in_default-via-then-arguments-lt1, in_default-via-else-arguments-lt1+else-arguments-lt2+else-arguments-lt3+else-arguments-lt4}

pub returns-in_default : goal.returns-in_default
returns-in_default c request asks =
    let fields = c.args.arguments.now in
    let long = length-map fields (λ field. field.now) in
    let are = are_spelled c.args.verb.now (strings_of fields) request asks in
    elim c.in_default.branch [
      | in_default-via-then-arguments-lt1 w ↦
          let count : length fields < 1 = search (rules, tests) in
          omega (arith, count, long, are.some)
      | in_default-via-else-arguments-lt1+else-arguments-lt2+else-arguments-lt3+else-arguments-lt4 w ↦
          let count : 4 ≤ length fields = search (rules, tests) in
          omega (arith, count, long, are.few)
    ]
