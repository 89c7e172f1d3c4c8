-- The position is that of the id that is found, if it is not before the one at hand.
use Rattle.std.proofs.Common.{ℕ, List, arith, length, subst, sym}
use Rattle.std.proofs.Math.Nat.{max-eq_left, max-eq_right}
use Rattle.std.proofs.lemmas.Option.{slice_get_past}
use Rattle.bitpack_sets.proofs.lemmas.reads.SoughtLaws.{found_within}
use Rattle.bitpack_sets.specs.Opened.{ids}
use Rattle.bitpack_sets.specs.Places.{Holds}
use Rattle.bitpack_slices.proofs.ForCallers.{rank_le}
use Rattle.bitpack_slices.specs.Reads.{rank}
use Rattle.bitpack_sets.proofs.id_set.IdSet.seek_from.Goals as goal

-- after the last id

pub returns-then-from-len-clause-position : goal.returns-then-from-len-clause-position
returns-then-from-len-clause-position c =
    let most = rank_le c.args.target (ids c.args.self.now) in
    sym (max-eq_left {n = c.args.from} {m = rank c.args.target (ids c.args.self.now)} (omega (arith, c.len.ensures, c.if-from-len.true)))

pub returns-then-from-len-clause-id : goal.returns-then-from-len-clause-id
returns-then-from-len-clause-id c = sym (slice_get_past (ids c.args.self.now) c.args.from (omega (arith, c.len.ensures, c.if-from-len.true)))

-- at the id that was found

pub returns-clause-within : goal.returns-clause-within
returns-clause-within c =
    let xs : List ℕ = ids c.args.self.now in
    let most = c.find-position.ensures.most c.args.from (λ five. (c.requires.holds five).after) in
    found_within c.args.from c.find-position.result.1 (rank c.args.target xs) (length xs) most c.requires.within (rank_le c.args.target xs)

pub returns-clause-holds : goal.returns-clause-holds
returns-clause-holds c = λ five.
    let set = c.args.self.now in
    subst (Holds set.chunks set.rest.now c.find-position.result.0) (max-eq_right {n = c.args.from} {m = c.find-position.result.1} (omega (arith, c.if-position-from.false)))
    (c.find-position.ensures.holds c.args.from five (c.requires.holds five).after)
