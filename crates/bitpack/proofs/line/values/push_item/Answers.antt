-- An item with too many values is refused.
use Rattle.std.proofs.Common.{◌≡◌, ap, arith, length, length-append, refl}
use Rattle.std.proofs.lemmas.List.{length-replicate}
use Rattle.bitpack.specs.Grammar.{item_values}
use Rattle.bitpack.proofs.Items.{same_item}
use Rattle.bitpack.proofs.line.values.push_item.Goals as goal
use Rattle.bitpack.proofs.line.values.push_item.Goals.{in-Once, in-Times}

pub returns-then-count-len : goal.returns-then-count-len
returns-then-count-len c new adds =
    let spelled = rw c.in_ok-value.ensures.ok_part at c.parse_item.ensures in
    let same = same_item c.args.string.now adds.item _ adds.spelled spelled in
    let size : length (item_values adds.item) ≡ c.match-branch-2.value.1 =
    elim c.match-branch-2.branch [
      | in-Once w ↦ rw (same, w.in-Once.is, w.value-is) refl
      | in-Times w ↦ rw (same, w.in-Times.is, w.value-is) (length-replicate w.in-Times.count w.in-Times.value)
    ] in
    omega (arith, adds.few, ap length adds.added, length-append c.args.values.now.items (item_values adds.item), c.args.values.now.ok.0)
