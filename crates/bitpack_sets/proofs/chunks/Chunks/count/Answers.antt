-- A chunk says how many ids it has, and an array has one for each position.
use Rattle.std.proofs.Common.{◌≡◌, ◌+◌, ◌-◌, ◌%◌, ◌∙◌, ap, arith, drop, length, length-drop, take, ℕ}
use Rattle.std.proofs.lemmas.List.{length-map, length-take-le}
use Rattle.bitpack_sets.proofs.lemmas.reads.PositionLaws.{between_array, positions_array}
use Rattle.bitpack_sets.proofs.chunks.Chunks.count.Goals as goal
use Rattle.bitpack_sets.specs.Chunks.{lows_between}
use Rattle.bitpack_slices.proofs.ForCallers.{quads_len}
use Rattle.bitpack_slices.specs.Slices.{quads_of}

pub coded-requires : goal.coded-requires
coded-requires c = omega (arith, c.requires.later, c.requires.within)

pub returns-in-Some : goal.returns-in-Some
returns-in-Some c =
    let last : c.args.position + 1 ≡ c.args.end = omega (arith, c.requires.one c.in-Some.ensures.chunks, c.requires.later) in
    c.in-Some.ensures.count ∙ ap (λ (n : ℕ). length (lows_between c.args.self.now c.args.position n)) last

pub returns-in-None : goal.returns-in-None
returns-in-None c =
    let set = c.args.self.now in
    let p = c.args.position in
    let end = c.args.end in
    let none : set.count ≡ 0 = c.coded.ensures.none c.in-None.is in
    let all = positions_array set none in
    let size = quads_len set.rest.now in
    let left = length-drop p (quads_of set.rest.now) in
    let later = c.requires.later in
    let within = c.requires.within in
    let long = length-take-le (end - p) (drop p (quads_of set.rest.now)) (omega arith) in
    let low = length-map (take (end - p) (drop p (quads_of set.rest.now))) (λ x. x % 65536) in
    let own = ap length (between_array set p end none) in
    omega arith
