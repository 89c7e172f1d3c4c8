-- All ids that are unpacked are passed, and the one that is found is held, or more are unpacked from there on.
use Rattle.std.proofs.Common.{◌≡◌, ◌+◌, ◌-◌, ◌∙◌, ◌^◌, ◌<◌, ℕ, arith, get_or, max, sym}
use Rattle.std.proofs.lemmas.Option.{slice_get_within}
use Rattle.bitpack_sets.specs.Opened.{ids}
use Rattle.bitpack_sets.specs.inner.Windows.{IsWindow}
use Rattle.bitpack_sets.specs.declared.id_set.IdSet.{IdSet}
use Rattle.bitpack_sets.specs.declared.window.Window.{Window}
use Rattle.bitpack_slices.specs.Bodies.{IsRising}
use Rattle.bitpack_slices.specs.Reads.{rank}
use Rattle.bitpack_sets.proofs.lemmas.encodings.EncodingLaws.{ids_are_read}
use Rattle.bitpack_sets.proofs.lemmas.reads.IdsLaws.{held_one, passed_all}
use Rattle.bitpack_sets.proofs.lemmas.reads.WindowLaws.{held_after}
use Rattle.bitpack_sets.proofs.window.Window.seek_after.Goals as goal

rises : (set : IdSet) → IsRising 0 (2 ^ 32) (ids set)
rises set = (ids_are_read set.bytes.now set.are_bytes set.states.none).0.rising

-- the position by the ids of the window
is : (it : Window) (set : IdSet) (target position : ℕ) → IsWindow set.bytes.now it → it.next < it.end → get_or it.unpacked (it.end - it.begin - 1) 0 < target
    → position ≡ max it.end (rank target (ids set)) → position ≡ max it.next (rank target (ids set))
is it set target position window some below e = e ∙ passed_all it.next it.begin it.end target it.unpacked (ids set) it.after some window.within window.values (rises set) below

pub overflow_add-self : goal.overflow_add-self
overflow_add-self c =
    let set = c.args.set.now in
    let found = sym c.seek_from-position.ensures.id ∙ c.in-Some.is in
    let there = slice_get_within (ids set) c.seek_from-position.result.1 c.in-Some.id found in
    let few = (ids_are_read set.bytes.now set.are_bytes set.states.none).0.few in
    omega arith

pub returns-clause-window : goal.returns-clause-window
returns-clause-window c =
    let it = c.args.self.now in
    let set = c.args.set.now in
    let window = c.requires.window in
    let position : ℕ = c.seek_from-position.result.1 in
    let at = c.seek_from-position.result.0 in
    let after = it.after in
    let before = c.requires.some in
    let found = sym c.seek_from-position.ensures.id ∙ c.in-Some.is in
    let there = slice_get_within (ids set) position c.in-Some.id found in
    record {
      some = λ more. omega arith;
      within = omega arith;
      values = held_one position c.in-Some.id it.begin it.end it.unpacked (ids set) (omega arith) window.within window.values found;
      ready = λ past. absurd (omega arith);
      holds = held_after set.bytes.now set.rest.now set.count set.chunks at position (position + 1) set.states c.seek_from-position.ensures.holds (omega arith);
    }

pub returns-clause-next : goal.returns-clause-next
returns-clause-next c = is c.args.self.now c.args.set.now c.args.target c.seek_from-position.result.1 c.requires.window c.requires.some c.requires.last c.seek_from-position.ensures.position

pub returns-2-clause-next : goal.returns-2-clause-next
returns-2-clause-next c =
    is c.args.self.now c.args.set.now c.args.target c.unpack_from.new.self.next c.requires.window c.requires.some c.requires.last
    (c.unpack_from.ensures.next ∙ c.from_place.ensures.position ∙ c.seek_from-position.ensures.position)
