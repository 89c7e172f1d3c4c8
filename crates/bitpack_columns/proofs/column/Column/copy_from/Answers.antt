-- The values of one block more are written.
use Rattle.std.proofs.Common.{◌≡◌, ◌-◌, ◌≤◌, ℕ, List, length, drop, ◌∙◌, arith}
use Rattle.std.proofs.lemmas.List.{length-drop, length-take}
use Rattle.bitpack_groups.proofs.ForCallers.{length-written}
use Rattle.std.proofs.lemmas.Slice.{drop-put_mid}
use Rattle.bitpack_columns.specs.Opened.{values}
use Rattle.bitpack_columns.proofs.CopyLaws.{part_written}
use Rattle.bitpack_columns.proofs.OpenedLaws.{count_is}
use Rattle.bitpack_columns.proofs.column.Column.copy_from.Goals as goal

pub returns-then-from-self-clause-len : goal.returns-then-from-self-clause-len
returns-then-from-self-clause-len c = omega (arith, count_is c.args.self.now)

pub copy_part-done-requires-clause-within : goal.copy_part-done-requires-clause-within
copy_part-done-requires-clause-within c =
    let done : ℕ = c.loop-done.done in
    let out : List ℕ = c.loop-done.out in
    omega (
      arith,
      c.min-count.ensures,
      c.loop-done.invariant.within,
      count_is c.args.self.now,
      length-drop done out,
      length-take (c.min-count.result - done) (drop done out),
    )

pub loop-done-preserved : goal.loop-done-preserved
loop-done-preserved c =
    let self = c.args.self.now in
    let done : ℕ = c.loop-done.done in
    let count : ℕ = c.min-count.result in
    let more : ℕ = c.copy_part-done.result in
    let out : List ℕ = c.loop-done.out in
    let new : List ℕ = c.copy_part-done.new.out in
    let before = c.loop-done.invariant in
    let room : count ≤ length out = omega (arith, before.long, c.min-count.ensures) in
    let long : length new ≡ count - done =
    omega (arith, c.copy_part-done.auto.out, length-drop done out, length-take (count - done) (drop done out), before.within) in
    let fits : more ≤ count - done =
    omega (arith, c.copy_part-done.ensures.within, length-drop done out, length-take (count - done) (drop done out)) in
    record {
      within = omega (arith, fits, before.within);
      long = length-written done (count - done) out new (omega (arith, room, before.within)) long (omega (arith, room, before.within)) ∙ before.long;
      written = part_written (values self) out new done (count - done) more c.args.from (omega (arith, room, before.within)) long fits before.written
          c.copy_part-done.ensures.values;
      rest = drop-put_mid done (count - done) out new count (omega (arith, before.within)) (omega (arith, room, before.within)) long ∙ before.rest;
    }

pub returns-clause-len : goal.returns-clause-len
returns-clause-len c = omega (arith, c.min-count.ensures, count_is c.args.self.now)
