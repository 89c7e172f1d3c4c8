-- The ids from the next one on are searched, which the set has from its position on.
use Rattle.std.proofs.Common.{subst, sym, ap, ◌∙◌, ◌-◌, ◌^◌, ◌<◌, ◌≡◌, ◌≤◌, ◌+◌, ℕ, Some, arith, drop, get_or, take}
use Rattle.bitpack_sets.specs.Opened.{ids}
use Rattle.bitpack_sets.specs.declared.id_set.IdSet.{IdSet}
use Rattle.bitpack_sets.specs.declared.window.Window.{Window}
use Rattle.bitpack_sets.specs.inner.Windows.{IsWindow}
use Rattle.bitpack_slices.specs.Bodies.{IsRising}
use Rattle.bitpack_slices.specs.Reads.{rank}
use Rattle.bitpack_slices.proofs.ForCallers.{rising_drop}
use Rattle.bitpack_sets.proofs.lemmas.encodings.EncodingLaws.{ids_are_read}
use Rattle.bitpack_sets.proofs.lemmas.reads.IdsLaws.{moved_by, rising_taken, sought, unpacked_from, unpacked_get}
use Rattle.bitpack_sets.proofs.window.Window.seek_unpacked.Goals as goal

rises : (set : IdSet) → IsRising 0 (2 ^ 32) (ids set)
rises set = (ids_are_read set.bytes.now set.are_bytes set.states.none).0.rising

part : (it : Window) (set : IdSet) → IsWindow set.bytes.now it → it.next < it.end
    → take (it.end - it.begin - (it.next - it.begin)) (drop (it.next - it.begin) it.unpacked) ≡ take (it.end - it.next) (drop it.next (ids set))
part it set window some =
    let after = it.after in
    let size : it.end - it.begin - (it.next - it.begin) ≡ it.end - it.next = omega arith in
    ap (λ (n : ℕ). take n (drop (it.next - it.begin) it.unpacked)) size ∙ unpacked_from it.next it.begin it.end it.unpacked (ids set) it.after (omega arith) window.values

found : (it : Window) (set : IdSet) (target passed : ℕ) → IsWindow set.bytes.now it → it.next < it.end → target ≤ get_or it.unpacked (it.end - it.begin - 1) 0
    → passed ≡ rank target (take (it.end - it.begin - (it.next - it.begin)) (drop (it.next - it.begin) it.unpacked)) → (rank target (ids set) < it.end) × (passed ≡ rank target (ids set) - it.next)
found it set target passed window some last e =
    let is = sought it.next it.begin it.end target it.unpacked (ids set) it.after some window.within window.values (rises set) last in
    (is.0, e ∙ ap (rank target) (part it set window some) ∙ is.1)

pub rank_in_ids-passed-requires : goal.rank_in_ids-passed-requires
rank_in_ids-passed-requires c =
    let it = c.args.self.now in
    let set = c.args.set.now in
    subst (IsRising 0 (2 ^ 32)) (sym (part it set c.requires.window c.requires.some)) (rising_taken 0 (2 ^ 32) (it.end - it.next) (drop it.next (ids set)) (rising_drop 0 (2 ^ 32) it.next (ids set) (rises set)))

-- the id is before the end
before : (it : Window) (set : IdSet) (target passed : ℕ) → IsWindow set.bytes.now it → it.next < it.end → target ≤ get_or it.unpacked (it.end - it.begin - 1) 0
    → passed ≡ rank target (take (it.end - it.begin - (it.next - it.begin)) (drop (it.next - it.begin) it.unpacked)) → it.next + passed < it.end
before it set target passed window some last e = let is = found it set target passed window some last e in let less = is.0 in let same = is.1 in omega arith

pub overflow_add-self : goal.overflow_add-self
overflow_add-self c =
    let set = c.args.set.now in
    let less = before c.args.self.now c.args.set.now c.args.target c.rank_in_ids-passed.result c.requires.window c.requires.some c.requires.last c.rank_in_ids-passed.ensures in
    let few = (ids_are_read set.bytes.now set.are_bytes set.states.none).0.few in
    let most = c.requires.window.within in
    omega arith

pub invariant_of-self : goal.invariant_of-self
invariant_of-self c =
    let it = c.args.self.now in
    let less = before c.args.self.now c.args.set.now c.args.target c.rank_in_ids-passed.result c.requires.window c.requires.some c.requires.last c.rank_in_ids-passed.ensures in
    let after = it.after in
    record { after = omega arith; before = omega arith; room = it.room; few = it.few }

pub bounds-self-from : goal.bounds-self-from
bounds-self-from c =
    let it = c.args.self.now in
    let less = before c.args.self.now c.args.set.now c.args.target c.rank_in_ids-passed.result c.requires.window c.requires.some c.requires.last c.rank_in_ids-passed.ensures in
    let after = it.after in
    let room = it.room in
    omega arith

pub returns-clause-window : goal.returns-clause-window
returns-clause-window c =
    let window = c.requires.window in
    let less = before c.args.self.now c.args.set.now c.args.target c.rank_in_ids-passed.result c.requires.window c.requires.some c.requires.last c.rank_in_ids-passed.ensures in
    record { some = window.some; within = window.within; values = window.values; ready = λ past. absurd (omega arith); holds = window.holds }

pub returns-clause-next : goal.returns-clause-next
returns-clause-next c =
    let it = c.args.self.now in
    let set = c.args.set.now in
    let is = found it set c.args.target c.rank_in_ids-passed.result c.requires.window c.requires.some c.requires.last c.rank_in_ids-passed.ensures in
    moved_by it.next c.rank_in_ids-passed.result (rank c.args.target (ids set)) is.1

pub returns-clause-id : goal.returns-clause-id
returns-clause-id c =
    let it = c.args.self.now in
    let window = c.requires.window in
    let passed : ℕ = c.rank_in_ids-passed.result in
    let less = before c.args.self.now c.args.set.now c.args.target c.rank_in_ids-passed.result c.requires.window c.requires.some c.requires.last c.rank_in_ids-passed.ensures in
    let after = it.after in
    let index : it.next + passed - it.begin ≡ it.next - it.begin + passed = omega arith in
    sym (unpacked_get (it.next + passed) it.begin it.end it.unpacked (ids c.args.set.now) (omega arith) less window.within window.values) ∙ ap (λ (n : ℕ). Some (get_or it.unpacked n 0)) index
