-- What byte 0 and the counts state.
use Rattle.std.proofs.Common.{◌≡◌, ◌≢◌, ◌*◌, ◌^◌, ◌∙◌, ℕ, ap, arith, drop, get_or, length, refl, rules, subst, sym}
use Rattle.bitpack_groups.proofs.ForCallers.{AreBytes-drop}
use Rattle.bitpacking.specs.Bits.{AreBytes}
use Rattle.bitpack_slices.specs.Bodies.{IsRising}
use Rattle.bitpack_sets.specs.Opened.{ids}
use Rattle.bitpack_sets.specs.Stated.{after_count}
use Rattle.bitpack_sets.specs.Varints.{number_end}
use Rattle.bitpack_sets.specs.declared.id_set.IdSet.{IdSet}
use Rattle.bitpack_sets.proofs.lemmas.faults.FormLaws.{some_bytes, stated_array, stated_chunks, stated_few}
use Rattle.bitpack_sets.proofs.lemmas.encodings.EncodingLaws.{count_stated, ids_are_read}
use Rattle.bitpack_sets.proofs.id_set.IdSet.form.Goals as goal

count_is : (set : IdSet) → set.count ≡ length (ids set)
count_is set = set.states.count_is ∙ count_stated set.bytes.now set.are_bytes set.states.none

pub bounds-self-0 : goal.bounds-self-0
bounds-self-0 c = let set = c.args.self.now in some_bytes set.bytes.now set.states.none

pub invariant_of-result-clause-few : goal.invariant_of-result-clause-few
invariant_of-result-clause-few c = let set = c.args.self.now in (stated_chunks set.bytes.now set.rest.now set.count set.chunks set.are_bytes set.states c.in-5.is).few

pub invariant_of-result-clause-most : goal.invariant_of-result-clause-most
invariant_of-result-clause-most c =
    let set = c.args.self.now in
    let few = (ids_are_read set.bytes.now set.are_bytes set.states.none).0.few in
    let e = count_is set in
    omega arith

pub invariant_of-result-clause-are_bytes : goal.invariant_of-result-clause-are_bytes
invariant_of-result-clause-are_bytes c =
    let set = c.args.self.now in
    let after = after_count set.bytes.now in
    subst AreBytes (sym (set.states.in_chunks c.in-5.is)) (AreBytes-drop (number_end after) after (AreBytes-drop (number_end (drop 1 set.bytes.now)) (drop 1 set.bytes.now) (AreBytes-drop 1 set.bytes.now set.are_bytes)))

pub invariant_of-result-clause-sound : goal.invariant_of-result-clause-sound
invariant_of-result-clause-sound c = let set = c.args.self.now in (stated_chunks set.bytes.now set.rest.now set.count set.chunks set.are_bytes set.states c.in-5.is).is

pub invariant_of-result-in_default-clause-few : goal.invariant_of-result-in_default-clause-few
invariant_of-result-in_default-clause-few c =
    let set = c.args.self.now in
    let not5 : get_or set.bytes.now 0 0 ≢ 5 = search rules in
    let not6 : get_or set.bytes.now 0 0 ≢ 6 = search rules in
    (stated_few set.bytes.now set.rest.now set.count set.chunks set.are_bytes set.states not5 not6).few

pub invariant_of-result-in_default-clause-sound : goal.invariant_of-result-in_default-clause-sound
invariant_of-result-in_default-clause-sound c =
    let set = c.args.self.now in
    let not5 : get_or set.bytes.now 0 0 ≢ 5 = search rules in
    let not6 : get_or set.bytes.now 0 0 ≢ 6 = search rules in
    (stated_few set.bytes.now set.rest.now set.count set.chunks set.are_bytes set.states not5 not6).sound

pub returns-in-5 : goal.returns-in-5
returns-in-5 c =
    let set = c.args.self.now in
    let is = stated_chunks set.bytes.now set.rest.now set.count set.chunks set.are_bytes set.states c.in-5.is in
    record { chunks = c.in-5.is; chunks_are = refl; rest_is = refl; ids_are = sym is.ids_are; count_is = count_is set }

pub returns-in-6 : goal.returns-in-6
returns-in-6 c =
    let set = c.args.self.now in
    let is = stated_array set.bytes.now set.rest.now set.count set.chunks set.are_bytes set.states c.in-6.is in
    record {
      array = c.in-6.is;
      ids_are = sym is.ids_are;
      rising = subst (IsRising 0 (2 ^ 32)) is.ids_are (ids_are_read set.bytes.now set.are_bytes set.states.none).0.rising;
      long = is.long ∙ ap (λ (n : ℕ). 4 * n) (count_is set);
    }

pub returns-in_default : goal.returns-in_default
returns-in_default c =
    let set = c.args.self.now in
    let not5 : get_or set.bytes.now 0 0 ≢ 5 = search rules in
    let not6 : get_or set.bytes.now 0 0 ≢ 6 = search rules in
    let is = stated_few set.bytes.now set.rest.now set.count set.chunks set.are_bytes set.states not5 not6 in
    record { not_chunks = not5; not_array = not6; ids_are = sym is.ids_are; count_is = count_is set }
