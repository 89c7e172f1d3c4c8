-- An integer is a part of an id.
use Rattle.std.proofs.Common.{◌^◌, arith}
use Rattle.bitpack_slices.proofs.lemmas.bytes.DecodeLaws.{rising_top}
use Rattle.bitpack_slices.proofs.lemmas.numbers.ListLaws.{at_short, at_wide, listed_short, listed_wide}
use Rattle.bitpack_slices.proofs.listed.Listed.at.Goals as goal
use Rattle.bitpack_slices.specs.Lists.{listed_ids}

pub id_at-requires : goal.id_at-requires
id_at-requires c =
    let list = c.args.self.now in
    let size = listed_wide list.wide list.base list.bytes.now c.if-self.true in
    omega (arith, c.requires)

pub overflow_add-result : goal.overflow_add-result
overflow_add-result c =
    let list = c.args.self.now in
    let top = rising_top 0 (2 ^ 32) c.args.position (listed_ids list) list.rising c.requires in
    let at = at_wide list.wide list.base c.args.position list.bytes.now c.if-self.true c.requires in
    omega (arith, c.id_at.ensures)

pub returns-then-self : goal.returns-then-self
returns-then-self c =
    let list = c.args.self.now in
    let at = at_wide list.wide list.base c.args.position list.bytes.now c.if-self.true c.requires in
    omega (arith, c.id_at.ensures)

pub number_at-requires : goal.number_at-requires
number_at-requires c =
    let list = c.args.self.now in
    let size = listed_short list.wide list.base list.bytes.now c.if-self.false in
    omega (arith, c.requires)

pub overflow_add-result-else-self : goal.overflow_add-result-else-self
overflow_add-result-else-self c =
    let list = c.args.self.now in
    let top = rising_top 0 (2 ^ 32) c.args.position (listed_ids list) list.rising c.requires in
    let at = at_short list.wide list.base c.args.position list.bytes.now c.if-self.false c.requires in
    omega (arith, c.number_at.ensures)

pub returns-else-self : goal.returns-else-self
returns-else-self c =
    let list = c.args.self.now in
    let at = at_short list.wide list.base c.args.position list.bytes.now c.if-self.false c.requires in
    omega (arith, c.number_at.ensures)
