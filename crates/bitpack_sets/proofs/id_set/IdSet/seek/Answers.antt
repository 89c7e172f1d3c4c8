-- The id at the rank of the target is not below it.
use Rattle.std.proofs.Common.{◌<◌, ◌^◌, ◌≤◌, ◌∙◌, List, arith, get_or, inl, inr, length, sym, ℕ, ◌≡◌}
use Rattle.std.proofs.lemmas.Bool.{cases_lt}
use Rattle.std.proofs.lemmas.Option.{get_or_from_slice_get, slice_get_within}
use Rattle.bitpack_sets.specs.Opened.{ids}
use Rattle.bitpack_slices.specs.Reads.{rank}
use Rattle.bitpack_slices.specs.Bodies.{IsRising}
use Rattle.bitpack_slices.proofs.ForCallers.{rank_above, rank_le}
use Rattle.bitpack_sets.proofs.lemmas.encodings.EncodingLaws.{ids_are_read}
use Rattle.bitpack_sets.proofs.lemmas.reads.KeyLaws.{none_there}
use Rattle.bitpack_sets.proofs.id_set.IdSet.seek.Goals as goal

pub returns-in-None-clause-found : goal.returns-in-None-clause-found
returns-in-None-clause-found c =
    let most = rank_le c.args.target (ids c.args.self.now) in
    let all = none_there (ids c.args.self.now) c.place_of-position.result.0 (sym c.place_of-position.ensures.first ∙ c.in-None.is) in
    omega (arith, c.place_of-position.ensures.rank)

pub returns-in-Some-clause-found : goal.returns-in-Some-clause-found
returns-in-Some-clause-found c = (c.place_of-position.ensures.rank, sym c.place_of-position.ensures.first ∙ c.in-Some.is)

least : (target position : ℕ) (xs : List ℕ) → IsRising 0 (2 ^ 32) xs → position ≡ rank target xs → position < length xs → target ≤ get_or xs position 0
least target position xs r e lt = elim (cases_lt (get_or xs position 0) target) [
  | inl below ↦ (let more = rank_above target 0 (2 ^ 32) position xs r lt below in absurd (omega arith))
  | inr above ↦ above
]

pub returns-in-Some-clause-least : goal.returns-in-Some-clause-least
returns-in-Some-clause-least c =
    let set = c.args.self.now in
    let position : ℕ = c.place_of-position.result.0 in
    let found = sym c.place_of-position.ensures.first ∙ c.in-Some.is in
    let above = least c.args.target position (ids set) (ids_are_read set.bytes.now set.are_bytes set.states.none).0.rising c.place_of-position.ensures.rank (slice_get_within (ids set) position c.in-Some.id found) in
    omega (arith, get_or_from_slice_get (ids set) position c.in-Some.id 0 found)
