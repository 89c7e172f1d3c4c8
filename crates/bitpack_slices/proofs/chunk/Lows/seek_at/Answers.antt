-- Numbers and runs have no slice before a place.
use Rattle.std.proofs.Common.{◌≡◌, ◌∙◌, ℕ, List, [], ap, arith, max, refl, subst, sym, take}
use Rattle.std.proofs.Math.Nat.{max-eq_right}
use Rattle.bitpack_slices.proofs.lemmas.bodies.ReadLaws.{rank_le}
use Rattle.bitpack_slices.proofs.lemmas.numbers.SelectLaws.{numbers_none}
use Rattle.bitpack_slices.specs.Lows.{lows}
use Rattle.bitpack_slices.specs.Places.{IsPlace, before_of, counts_of}
use Rattle.bitpack_slices.specs.Reads.{rank}
use Rattle.bitpack_slices.specs.Slices.{numbers_in}
use Rattle.bitpack_slices.specs.declared.chunk.Lows.{Lows}
use Rattle.bitpack_slices.specs.declared.chunk.place.Place.{Place}
use Rattle.bitpack_slices.proofs.chunk.Lows.seek_at.Goals as goal

none_before : (place : Place) → IsPlace [] place → place.before ≡ 0
none_before place is =
    let within = is.within in
    let first : place.index ≡ 0 = omega arith in
    is.before_is ∙ ap (λ (n : ℕ). numbers_in (take n [])) first ∙ numbers_none []

-- the rank among the numbers of such a body
rank_is : (number position : ℕ) (self body : Lows) (place : Place) → self ≡ body → counts_of body ≡ [] → IsPlace (counts_of self) place → position ≡ rank number (lows body)
    → position ≡ max (before_of place) (rank number (lows self))
rank_is number position self body place e none is r =
    let before = none_before place (subst (λ (l : List ℕ). IsPlace l place) none (subst (λ (l : Lows). IsPlace (counts_of l) place) e is)) in
    r ∙ ap (λ (l : Lows). rank number (lows l)) (sym e) ∙ sym (max-eq_right {n = before_of place} {m = rank number (lows self)} (omega arith))

pub returns-in-Numbers-clause-after : goal.returns-in-Numbers-clause-after
returns-in-Numbers-clause-after c =
    let none = none_before c.args.place (subst (λ (l : Lows). IsPlace (counts_of l) c.args.place) c.in-Numbers.is c.requires.place) in
    omega arith

pub returns-in-Runs-clause-after : goal.returns-in-Runs-clause-after
returns-in-Runs-clause-after c =
    let none = none_before c.args.place (subst (λ (l : Lows). IsPlace (counts_of l) c.args.place) c.in-Runs.is c.requires.place) in
    omega arith

pub returns-in-Numbers-clause-within : goal.returns-in-Numbers-clause-within
returns-in-Numbers-clause-within c =
    let same = c.seek_in_numbers-position.ensures.rank ∙ ap (λ (l : Lows). rank c.args.number (lows l)) (sym c.in-Numbers.is) in
    omega (arith, rank_le c.args.number (lows c.args.self))

pub returns-in-Runs-clause-within : goal.returns-in-Runs-clause-within
returns-in-Runs-clause-within c =
    let same = c.seek-position.ensures.rank ∙ ap (λ (l : Lows). rank c.args.number (lows l)) (sym c.in-Runs.is) in
    omega (arith, rank_le c.args.number (lows c.args.self))

pub returns-in-Numbers-clause-rank : goal.returns-in-Numbers-clause-rank
returns-in-Numbers-clause-rank c = rank_is c.args.number _ c.args.self _ c.args.place c.in-Numbers.is refl c.requires.place c.seek_in_numbers-position.ensures.rank

pub returns-in-Runs-clause-rank : goal.returns-in-Runs-clause-rank
returns-in-Runs-clause-rank c = rank_is c.args.number _ c.args.self _ c.args.place c.in-Runs.is refl c.requires.place c.seek-position.ensures.rank
