-- The ids after the copied chunks are a set, and all of them are the ids.
use Rattle.std.proofs.Common.{rules, ◌≡◌, ◌++◌, [], ℕ, List, arith, ap, drop, length, subst, sym, ◌∙◌, length-append}
use Rattle.bitpack_sets.proofs.lemmas.encodings.EncodeLaws.{accepted, all_if_array, appended, chunks_is, least_unpacked}
use Rattle.bitpack_sets.proofs.lemmas.written.FrontLaws.{all_ids, later_set}
use Rattle.bitpack_sets.proofs.lemmas.faults.RefusalLaws.{set_not_refused}
use Rattle.bitpack_sets.proofs.appending.append_after.Goals as goal
use Rattle.bitpack_sets.specs.Fronts.{front_ids}
use Rattle.bitpack_sets.specs.Opened.{ids}
use Rattle.bitpack_slices.specs.Bodies.{parts}
use Rattle.bitpack_sets.specs.Sets.{IsSet, encoding, in_chunks}

later : (room items part ids more : List ℕ) (from from' : ℕ) → part ≡ items → items ≡ room ++ (drop from ids ++ more) → room ≡ [] → from ≡ from' → part ≡ drop from' ids ++ more
later room items part ids more from from' e f g h = e ∙ f ∙ ap (λ (l : List ℕ). l ++ (drop from ids ++ more)) g ∙ ap (λ (n : ℕ). drop n ids ++ more) h

pub measure-chunks-requires-clause-set : goal.measure-chunks-requires-clause-set
measure-chunks-requires-clause-set c =
    subst IsSet (sym (later _ _ _ (ids c.args.set.now) c.args.more.now _ _ c.as_slice.ensures.value c.in_ok-unpack_with.ensures.ok c.requires.room c.len.ensures.len))
    (later_set (front_ids c.args.front.now) (ids c.args.set.now) c.args.more.now c.requires.front c.requires.set)

pub append_copied-requires-clause-set : goal.append_copied-requires-clause-set
append_copied-requires-clause-set c =
    subst IsSet (sym (later _ _ _ (ids c.args.set.now) c.args.more.now _ _ c.as_slice-2.ensures.value c.in_ok-unpack_with.ensures.ok c.requires.room c.len.ensures.len))
    (later_set (front_ids c.args.front.now) (ids c.args.set.now) c.args.more.now c.requires.front c.requires.set)

-- without memory for the ids that are unpacked
pub returns-in_err-unpack_with : goal.returns-in_err-unpack_with
returns-in_err-unpack_with c = record {
  set = search rules;
  ok = search rules;
  fault = accepted _ _ (set_not_refused _ c.requires.set.few c.requires.set.rising) (search rules);
  room = λ none few. let least = least_unpacked (front_ids c.args.front.now) (ids c.args.set.now) c.args.more.now c.requires.front in
      absurd (omega (arith, few, least, c.in_err-unpack_with.ensures.room, c.len.ensures.len, ap length c.requires.room, c.args.room.now.ok));
  unchanged = search rules;
  capacity = search rules;
}

-- all ids are unpacked if they become an array
pub returns-then-len-more : goal.returns-then-len-more
returns-then-len-more c =
    let all : List ℕ = ids c.args.set.now ++ c.args.more.now in
    let same : front_ids c.args.front.now ++ c.as_slice.result.now ≡ all =
    ap (λ (l : List ℕ). front_ids c.args.front.now ++ l)
    (later _ _ _ (ids c.args.set.now) c.args.more.now _ _ c.as_slice.ensures.value c.in_ok-unpack_with.ensures.ok c.requires.room c.len.ensures.len)
    ∙ all_ids (front_ids c.args.front.now) (ids c.args.set.now) c.args.more.now c.requires.front in
    let count : c.measure-chunks.result.0 ≡ length (parts 65536 all) = c.measure-chunks.ensures.chunks ∙ ap (λ (l : List ℕ). length (parts 65536 l)) same in
    let many = c.requires.front.many in
    let long = length-append (ids c.args.set.now) c.args.more.now in
    let size = c.len-2.ensures in
    let whole = all_if_array (ids c.args.set.now) c.args.more.now c.measure-chunks.result.0 (omega arith) count (let less = c.if-len-more.true in omega arith) in
    let is = c.append_unpacked.ensures in
    record {
      set = is.set;
      ok = is.ok;
      fault = is.fault;
      room = λ none few. is.room none (omega (arith, few, whole, c.clear.ensures.capacity, c.unpack_with.ensures.grown));
      unchanged = is.unchanged;
      capacity = is.capacity;
    }

pub returns : goal.returns
returns c =
    let first : List ℕ = front_ids c.args.front.now in
    let all : List ℕ = ids c.args.set.now ++ c.args.more.now in
    let same : first ++ c.as_slice-2.result.now ≡ all =
    ap (λ (l : List ℕ). first ++ l)
    (later _ _ _ (ids c.args.set.now) c.args.more.now _ _ c.as_slice-2.ensures.value c.in_ok-unpack_with.ensures.ok c.requires.room c.len.ensures.len)
    ∙ all_ids first (ids c.args.set.now) c.args.more.now c.requires.front in
    let same' : first ++ c.as_slice.result.now ≡ all =
    ap (λ (l : List ℕ). first ++ l)
    (later _ _ _ (ids c.args.set.now) c.args.more.now _ _ c.as_slice.ensures.value c.in_ok-unpack_with.ensures.ok c.requires.room c.len.ensures.len)
    ∙ all_ids first (ids c.args.set.now) c.args.more.now c.requires.front in
    let count : c.measure-chunks.result.0 ≡ length (parts 65536 all) = c.measure-chunks.ensures.chunks ∙ ap (λ (l : List ℕ). length (parts 65536 l)) same' in
    let many = c.requires.front.many in
    let long = length-append (ids c.args.set.now) c.args.more.now in
    let size = c.len-2.ensures in
    let apart = c.if-len-more.false in
    let bytes : in_chunks (first ++ c.as_slice-2.result.now) ≡ encoding all = ap in_chunks same ∙ sym (chunks_is all c.measure-chunks.result.0 (omega arith) count (omega arith)) in
    appended _ _ _ all c.append_copied.result c.args.out.now c.append_copied.new.out bytes c.requires.set c.append_copied.ensures
