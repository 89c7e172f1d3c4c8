-- The ids in front are the first ones that were there, and the set's.
use Rattle.std.proofs.Common.{arith, refl, rules, subst}
use Rattle.bitpacking_c.specs.SetArrays.{UnitesIds}
use Rattle.bitpacking_c.proofs.set_in_place.bitpacking_set_add.Goals as goal

pub returns-then-count-ids : goal.returns-then-count-ids
returns-then-count-ids c = record { beyond = λ less. (refl, refl); adds = λ le. absurd (omega arith) }

pub returns : goal.returns
returns c =
    let added = c.add_to.ensures in
    let is : UnitesIds _ c.args.count c.args.ids.now c.add_to.new.values c.add_to.result =
    record { fault = added.fault; count_is = added.len; front = added.ok; rest = added.rest; room = added.room; unchanged = added.unchanged } in
    record {
      beyond = λ less. absurd (omega arith);
      adds = λ le. (c.add_to.result, search rules, subst (λ xs. UnitesIds xs c.args.count c.args.ids.now c.add_to.new.values c.add_to.result) c.as_set.ensures is);
    }
