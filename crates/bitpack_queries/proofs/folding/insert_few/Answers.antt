-- One id more is set, if it has one of the keys.
use Rattle.std.proofs.Common.{◌≡◌, ◌+◌, ◌*◌, ◌/◌, ◌^◌, ◌<◌, ◌≤◌, ◌||◌, ℕ, Bool, List, get_or, length, take, ap, sym, ◌∙◌, arith}
use Rattle.std.proofs.lemmas.List.{get_or-take, length-set, length-take-le, take-take}
use Rattle.std.proofs.lemmas.List.Elements.{All-more}
use Rattle.bitpack_queries.specs.Folds.{found}
use Rattle.bitpack_sets.specs.Opened.{ids}
use Rattle.bitpack_slices.specs.Reads.{has}
use Rattle.bitpack_slices.specs.Bodies.{IsRising}
use Rattle.bitpack_queries.proofs.lemmas.many.KeysLaws.{before_it, few_inserted, few_more, none_of_lower, not_matched}
use Rattle.bitpack_sets.proofs.ForCallers.{ids_are_read}
use Rattle.bitpack_queries.proofs.folding.insert_few.Goals as goal
use Rattle.bitpack_queries.proofs.folding.insert_few.Goals.{then-key-base-2, else-key-base-2}

-- ids below one that is not reached are before it
unreached : (all xs : List ℕ) (count i x : ℕ) → take count xs ≡ all → IsRising 0 (2 ^ 32) all → i < count → count ≤ length xs → x < get_or xs i 0 → has x all ≡ has x (take i xs)
unreached all xs count i x are rise h room less =
    let long : length all ≡ count = sym (ap length are) ∙ length-take-le count xs room in
    let at : get_or all i 0 ≡ get_or xs i 0 = sym (ap (λ (ys : List ℕ). get_or ys i 0) are) ∙ get_or-take count xs i 0 h in
    before_it x 0 (2 ^ 32) i all rise (omega arith) (omega arith)
    ∙ ap (λ (ys : List ℕ). has x (take i ys)) (sym are) ∙ ap (has x) (take-take i count xs (omega arith))

pub returns-then-key-base-clause-own : goal.returns-then-key-base-clause-own
returns-then-key-base-clause-own c i small =
    let set = c.args.set.now in
    let over = c.if-key-base.true in
    let few = c.copy_to-count.ensures.len in
    let most = c.requires.few in
    let inside = c.loop-i-test.true in
    c.loop-i.invariant.done i small
    ∙ ap (λ (b : Bool). found c.args.highs.now c.args.words.now i || b)
    (sym (unreached (ids set) c.copy_to-count.new.out c.copy_to-count.result c.loop-i.i (c.args.base * 65536 + i) c.copy_to-count.ensures.ids
    (ids_are_read set.bytes.now set.are_bytes set.states.none).0.rising inside (omega arith) (omega arith)))

pub returns-then-key-base-clause-none : goal.returns-then-key-base-clause-none
returns-then-key-base-clause-none c x least below =
    let set = c.args.set.now in
    let few = c.copy_to-count.ensures.len in
    let most = c.requires.few in
    unreached (ids set) c.copy_to-count.new.out c.copy_to-count.result c.loop-i.i x c.copy_to-count.ensures.ids
    (ids_are_read set.bytes.now set.are_bytes set.states.none).0.rising c.loop-i-test.true (omega arith) (omega arith)
    ∙ none_of_lower x (c.args.base + 8) (take c.loop-i.i c.copy_to-count.new.out) c.loop-i.invariant.before least

pub loop-i-preserved : goal.loop-i-preserved
loop-i-preserved c =
    let inv = c.loop-i.invariant in
    let few = c.copy_to-count.ensures.len in
    let most = c.requires.few in
    let inside = c.loop-i-test.true in
    let under = c.if-key-base.false in
    let xs : List ℕ = c.copy_to-count.new.out in
    let highs_long = inv.highs_long in
    let words_long = inv.words_long in
    let room : c.loop-i.i < length xs = omega arith in
    let before = All-more (λ (y : ℕ). y / 65536 < c.args.base + 8) xs c.loop-i.i 0 room inv.before under in
    elim c.if-key-base-2.branch [
      | then-key-base-2 w ↦ (
          let from = w.if-key-base-2.true in
          rw (w.highs-is, w.words-is) (record {
            highs_long = length-set c.loop-i.highs _ _ ∙ inv.highs_long;
            words_long = length-set c.loop-i.words _ _ ∙ inv.words_long;
            done = λ i small. few_more _ _ (c.args.base * 65536 + i) c.loop-i.i xs _ (inv.done i small) room
                (few_inserted c.loop-i.highs c.loop-i.words w.insert.new.highs w.insert.new.words c.args.base (get_or xs c.loop-i.i 0) _ i (omega arith) (omega arith) (omega arith) w.insert.ensures);
            before = before;
          }))
      | else-key-base-2 w ↦ (
          let less = w.if-key-base-2.false in
          rw (w.highs-is, w.words-is) (record {
            highs_long = inv.highs_long;
            words_long = inv.words_long;
            done = λ i small. few_more _ _ (c.args.base * 65536 + i) c.loop-i.i xs _ (inv.done i small) room
                (not_matched c.loop-i.highs c.loop-i.words c.args.base (get_or xs c.loop-i.i 0) i (omega arith));
            before = before;
          }))
    ]

pub returns-clause-none : goal.returns-clause-none
returns-clause-none c x least small =
    let past = c.loop-i-test.false in
    let end = c.loop-i.auto.i-end in
    let all : c.loop-i.i ≡ c.copy_to-count.result = omega arith in
    ap (has x) (sym c.copy_to-count.ensures.ids ∙ ap (λ (n : ℕ). take n c.copy_to-count.new.out) (sym all))
    ∙ none_of_lower x (c.args.base + 8) (take c.loop-i.i c.copy_to-count.new.out) c.loop-i.invariant.before least
