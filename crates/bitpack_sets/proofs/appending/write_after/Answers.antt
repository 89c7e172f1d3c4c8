-- The ids after the copied chunks are a set, and all of them are the ids.
use Rattle.std.proofs.Common.{◌≡◌, ◌++◌, ℕ, List, arith, rules, ap, drop, length, take, subst, sym, ◌∙◌, length-append}
use Rattle.bitpack_sets.proofs.lemmas.encodings.EncodeLaws.{accepted, all_if_array, any_ok, chunks_is, least_unpacked}
use Rattle.bitpack_sets.proofs.lemmas.written.FrontLaws.{all_ids, later_set}
use Rattle.bitpack_sets.proofs.lemmas.faults.RefusalLaws.{set_not_refused}
use Rattle.bitpack_sets.proofs.appending.write_after.Goals as goal
use Rattle.bitpack_sets.specs.Fronts.{front_ids}
use Rattle.bitpack_sets.specs.Opened.{ids}
use Rattle.bitpack_slices.specs.Bodies.{parts}
use Rattle.bitpack_sets.specs.Sets.{IsSet, encoding, in_chunks}
use Rattle.bitpack_sets.specs.Written.{WritesBytes}

later : (part ids more : List ℕ) (from from' : ℕ) → part ≡ drop from ids ++ more → from ≡ from' → part ≡ drop from' ids ++ more
later part ids more from from' e f = e ∙ ap (λ (n : ℕ). drop n ids ++ more) f

pub returns-in_err-count : goal.returns-in_err-count
returns-in_err-count c = record {
  set = search rules;
  len = search rules;
  ok = search rules;
  fault = accepted _ _ (set_not_refused _ c.requires.set.few c.requires.set.rising) (search rules);
  room = λ none few. let least = least_unpacked (front_ids c.args.front.now) (ids c.args.set.now) c.args.more.now c.requires.front in
      absurd (omega (arith, few, least, c.in_err-count.ensures.room, c.len.ensures.len));
  unchanged = search rules;
}

pub measure-chunks-requires-clause-set : goal.measure-chunks-requires-clause-set
measure-chunks-requires-clause-set c =
    subst IsSet (sym (later _ (ids c.args.set.now) c.args.more.now _ _ c.in_ok-count.ensures.ok c.len.ensures.len))
    (later_set (front_ids c.args.front.now) (ids c.args.set.now) c.args.more.now c.requires.front c.requires.set)

pub write_copied-requires-clause-set : goal.write_copied-requires-clause-set
write_copied-requires-clause-set c =
    subst IsSet (sym (later _ (ids c.args.set.now) c.args.more.now _ _ c.in_ok-count.ensures.ok c.len.ensures.len))
    (later_set (front_ids c.args.front.now) (ids c.args.set.now) c.args.more.now c.requires.front c.requires.set)

-- all ids are unpacked if they become an array
pub returns-then-len-more : goal.returns-then-len-more
returns-then-len-more c =
    let first : List ℕ = front_ids c.args.front.now in
    let all : List ℕ = ids c.args.set.now ++ c.args.more.now in
    let same : first ++ take c.in_ok-count.count c.unpack_to.new.room ≡ all =
    ap (λ (l : List ℕ). first ++ l) (later _ (ids c.args.set.now) c.args.more.now _ _ c.in_ok-count.ensures.ok c.len.ensures.len)
    ∙ all_ids first (ids c.args.set.now) c.args.more.now c.requires.front in
    let chunks : c.measure-chunks.result.0 ≡ length (parts 65536 all) = c.measure-chunks.ensures.chunks ∙ ap (λ (l : List ℕ). length (parts 65536 l)) same in
    let many = c.requires.front.many in
    let long = length-append (ids c.args.set.now) c.args.more.now in
    let size = c.len-2.ensures in
    let whole = all_if_array (ids c.args.set.now) c.args.more.now c.measure-chunks.result.0 (omega arith) chunks (let less = c.if-len-more.true in omega arith) in
    let is = c.write_unpacked.ensures in
    record {
      set = is.set;
      len = is.len;
      ok = is.ok;
      fault = is.fault;
      room = λ none few. is.room none (omega (arith, few, whole, c.unpack_to.ensures.len));
      unchanged = is.unchanged;
    }

pub returns : goal.returns
returns c =
    let first : List ℕ = front_ids c.args.front.now in
    let all : List ℕ = ids c.args.set.now ++ c.args.more.now in
    let part : List ℕ = take c.in_ok-count.count c.unpack_to.new.room in
    let same : first ++ part ≡ all =
    ap (λ (l : List ℕ). first ++ l) (later part (ids c.args.set.now) c.args.more.now _ _ c.in_ok-count.ensures.ok c.len.ensures.len)
    ∙ all_ids first (ids c.args.set.now) c.args.more.now c.requires.front in
    let chunks : c.measure-chunks.result.0 ≡ length (parts 65536 all) = c.measure-chunks.ensures.chunks ∙ ap (λ (l : List ℕ). length (parts 65536 l)) same in
    let many = c.requires.front.many in
    let long = length-append (ids c.args.set.now) c.args.more.now in
    let size = c.len-2.ensures in
    let apart = c.if-len-more.false in
    let bytes : in_chunks (first ++ part) ≡ encoding all = ap in_chunks same ∙ sym (chunks_is all c.measure-chunks.result.0 (omega arith) chunks (omega arith)) in
    let w = subst (λ (l : List ℕ). WritesBytes l c.write_copied.result c.args.out.now c.write_copied.new.out) bytes c.write_copied.ensures in
    record {
      set = any_ok c.write_copied.result c.requires.set;
      len = w.len;
      ok = w.ok;
      fault = accepted all _ (set_not_refused all c.requires.set.few c.requires.set.rising) w.short;
      room = λ none few. w.room;
      unchanged = w.unchanged;
    }
