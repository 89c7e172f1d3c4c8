-- The position is in the slice at hand, or in one after it.
use Rattle.std.proofs.Common.{◌≡◌, ◌+◌, ◌-◌, ◌≤◌, ℕ, List, ap, arith, drop, get_or, get_or-drop, length, length-drop, sym, take, ◌∙◌}
use Rattle.std.proofs.lemmas.List.{take_all}
use Rattle.bitpack_slices.proofs.lemmas.numbers.SelectLaws.{numbers_step}
use Rattle.bitpack_slices.proofs.lemmas.slices.PlaceLaws.{numbers_left}
use Rattle.bitpack_slices.proofs.chunk.parts.Parts.place_at.Goals as goal
use Rattle.bitpack_slices.specs.Slices.{numbers_in}

pub slice_of-more-requires : goal.slice_of-more-requires
slice_of-more-requires c =
    let counts : List ℕ = c.args.self.counts.now in
    let i : ℕ = c.args.place.index in
    let rest = numbers_left counts i c.requires.place.within in
    let all : numbers_in (take (length counts - i) (drop i counts)) ≡ numbers_in (drop i counts) = ap numbers_in (take_all (length counts - i) (drop i counts) (omega (arith, length-drop i counts))) in
    omega (arith, c.requires.place.before_is, c.requires.after, c.requires.within)

-- the slices before the one that has the position
position_is : (counts : List ℕ) (i more left position here from : ℕ) → i ≤ length counts → from ≡ numbers_in (take i counts) → here ≡ numbers_in (take (i + more) counts) → from ≤ position
    → numbers_in (take more (take (length counts - i) (drop i counts))) + left ≡ position - from → here + left ≡ position
position_is counts i more left position here from within f b le e =
    let all : take (length counts - i) (drop i counts) ≡ drop i counts = take_all (length counts - i) (drop i counts) (omega (arith, length-drop i counts)) in
    let same = ap (λ (l : List ℕ). numbers_in (take more l)) all in
    let step = numbers_step counts i more in
    omega arith

pub returns-clause-after : goal.returns-clause-after
returns-clause-after c =
    let more : ℕ = c.slice_of-more.result.0 in
    let i : ℕ = c.args.place.index in
    let own = c.place_of.ensures.place.before_is ∙ ap (λ (n : ℕ). numbers_in (take n c.args.self.counts.now)) c.place_of.ensures.index in
    let at = position_is c.args.self.counts.now i more c.slice_of-more.result.1 c.args.position c.place_of.result.before c.args.place.before c.requires.place.within c.requires.place.before_is own c.requires.after c.slice_of-more.ensures.position in
    omega arith

pub returns-clause-own : goal.returns-clause-own
returns-clause-own c =
    let counts : List ℕ = c.args.self.counts.now in
    let more : ℕ = c.slice_of-more.result.0 in
    let i : ℕ = c.args.place.index in
    let own = c.place_of.ensures.place.before_is ∙ ap (λ (n : ℕ). numbers_in (take n counts)) c.place_of.ensures.index in
    let at = position_is counts i more c.slice_of-more.result.1 c.args.position c.place_of.result.before c.args.place.before c.requires.place.within c.requires.place.before_is own c.requires.after c.slice_of-more.ensures.position in
    let all : take (length counts - i) (drop i counts) ≡ drop i counts = take_all (length counts - i) (drop i counts) (omega (arith, length-drop i counts)) in
    let there = ap (λ (l : List ℕ). get_or l more 0) all ∙ get_or-drop i counts more 0 ∙ ap (λ (n : ℕ). get_or counts n 0) (sym c.place_of.ensures.index) in
    omega (arith, c.slice_of-more.ensures.own)
