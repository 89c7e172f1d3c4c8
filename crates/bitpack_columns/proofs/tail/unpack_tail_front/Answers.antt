-- The codes of the first groups are the first codes.
use Rattle.std.proofs.Common.{◌-◌, ℕ, List, length, ◌∙◌, arith}
use Rattle.bitpacking.proofs.ForCallers.{AreBytes-from_slice}
use Rattle.bitpack_columns.specs.Columns.{left_out}
use Rattle.bitpack_columns.specs.Numbers.{groups_codes, groups_of}
use Rattle.bitpack_columns.specs.Reads.{coded}
use Rattle.bitpack_columns.proofs.FrontGroups.{front_groups_codes, front_groups_right, front_values}
use Rattle.bitpack_columns.proofs.tail.unpack_tail_front.Goals as goal

pub unpack_after-requires-clause-zeros : goal.unpack_after-requires-clause-zeros
unpack_after-requires-clause-zeros c = omega (arith, c.left_out.ensures.out, c.requires.ends.front)

pub unpack_after-requires-clause-sound : goal.unpack_after-requires-clause-sound
unpack_after-requires-clause-sound c =
    let zeros : ℕ = left_out c.args.kind c.args.blocks c.args.count in
    let len : ℕ = length c.args.out.now in
    let ends = c.requires.ends in
    let within = ends.within in
    let front = ends.front in
    let (block, none) = c.requires.sound in (
      block,
      rw c.left_out.ensures.out
          (front_groups_right block (c.args.count - zeros) (len - zeros) c.args.groups.now (omega arith) (λ lt. ends.groups (omega arith)) none),
    )

pub returns : goal.returns
returns c =
    let zeros : ℕ = left_out c.args.kind c.args.blocks c.args.count in
    let len : ℕ = length c.args.out.now in
    let groups : List ℕ = c.args.groups.now in
    let ends = c.requires.ends in
    let within = ends.within in
    let front = ends.front in
    let (block, none) = c.requires.sound in
    let codes = front_groups_codes block (c.args.count - zeros) (len - zeros) groups (omega arith) (λ lt. ends.groups (omega arith)) none
    (AreBytes-from_slice groups c.type_inv.groups) in
    let is = rw c.left_out.ensures.out at c.unpack_after.ensures in
    is ∙ front_values c.args.kind c.args.base zeros len front (groups_codes (groups_of (len - zeros)) (len - zeros) groups)
    (groups_codes (groups_of (coded c.args.kind c.args.blocks c.args.count)) (coded c.args.kind c.args.blocks c.args.count) groups) codes
