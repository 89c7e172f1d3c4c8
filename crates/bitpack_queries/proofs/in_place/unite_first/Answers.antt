use Rattle.std.proofs.Common.{◌≡◌, ◌-◌, ◌^◌, ◌||◌, ℕ, List, length, take, drop, refl, subst, ap, arith}
use Rattle.std.specs.List.{filter}
use Rattle.std.proofs.lemmas.List.{length-take-le}
use Rattle.bitpack_sets.proofs.ForCallers.{ids_are_read}
use Rattle.bitpack_sets.specs.Opened.{ids}
use Rattle.bitpack_slices.specs.Operations.{those}
use Rattle.bitpack_slices.specs.Reads.{has}
use Rattle.bitpack_queries.proofs.lemmas.two.UnitedLaws.{at_end, union_count}
use Rattle.bitpack_queries.proofs.in_place.unite_first.Goals as goal

pub unite-requires-clause-room : goal.unite-requires-clause-room
unite-requires-clause-room c =
    let set = c.args.set.now in
    let own : List ℕ = take c.args.count c.args.values.now in
    let rising = (ids_are_read set.bytes.now set.are_bytes set.states.none).0.rising in
    let all = union_count (2 ^ 32) own (ids set) c.requires.increasing rising in
    let size : length own ≡ c.args.count = length-take-le c.args.count c.args.values.now c.requires.within in
    let room = c.requires.room in
    let within = c.requires.within in
    let same : length (filter (λ x. has x (ids set)) (drop (length c.args.values.now - c.args.count) c.copy_within.new.self)) ≡ length (filter (λ x. has x (ids set)) own) =
    ap (λ (xs : List ℕ). length (filter (λ x. has x (ids set)) xs))
    (at_end c.args.values.now c.copy_within.new.self c.args.count (length c.args.values.now - c.args.count) c.requires.within refl c.copy_within.ensures.after) in
    omega arith

pub returns : goal.returns
returns c =
    let values : List ℕ = c.args.values.now in
    let moved = at_end values c.copy_within.new.self c.args.count (length values - c.args.count) c.requires.within refl c.copy_within.ensures.after in
    subst (λ (xs : List ℕ). c.unite.new.values ≡ those (2 ^ 32) (λ x. has x xs || has x (ids c.args.set.now))) moved c.unite.ensures
