-- One set more is combined, or has no id of the keys.
use Rattle.std.proofs.Common.{◌≡◌, ◌+◌, ◌*◌, ◌/◌, ◌<◌, ◌≤◌, ℕ, Bool, List, [], false, get_or, length, map, take, inl, inr, refl, ap, sym, ◌∙◌, arith}
use Rattle.std.proofs.lemmas.Bool.{cases_eq}
use Rattle.std.proofs.lemmas.List.{length-map}
use Rattle.bitpack_queries.specs.Folds.{swapped}
use Rattle.bitpack_sets.specs.Opened.{ids}
use Rattle.bitpack_slices.specs.Operations.{apply}
use Rattle.bitpack_queries.specs.Operations.{folded}
use Rattle.bitpack_slices.specs.Reads.{has}
use Rattle.bitpack_queries.proofs.lemmas.many.FoldLaws.{all_taken, first_taken, next_taken, set_ids, swapped_other, swapped_same}
use Rattle.bitpack_queries.proofs.lemmas.many.HeldLaws.{later_held}
use Rattle.bitpack_queries.proofs.lemmas.two.LoneLaws.{first_kept}
use Rattle.bitpack_queries.proofs.folding.combine_keys.Goals as goal
use Rattle.bitpack_queries.proofs.folding.combine_keys.Goals.{then-i-first, else-i-first, then-stay, else-stay}

pub loop-i-init : goal.loop-i-init
loop-i-init g c =
    let f = g.S.AsSet.its_ids in
    let all = map f c.args.sets.now in
    let long = length-map c.args.sets.now f in
    let first = c.requires.first in
    let own = c.as_set.ensures ∙ sym (set_ids f c.args.sets.now c.args.first c.index-sets-first.result first c.index-sets-first.is) in
    record {
      later = c.add_chunks-next.ensures.later;
      most = c.add_chunks-next.ensures.most;
      held = later_held c.args.held.now c.args.base (c.args.base + 8) (swapped c.args.first all) (omega arith) c.requires.held;
      rest = λ j h. refl;
      own = λ i small. c.add_chunks-next.ensures.own i small ∙ ap (has (c.args.base * 65536 + i)) own ∙ sym (first_taken c.args.operation (c.args.base * 65536 + i) c.args.first all (omega arith));
      none = λ x least below. first_taken c.args.operation x c.args.first all (omega arith) ∙ sym (ap (has x) own) ∙ c.add_chunks-next.ensures.none x least below;
    }

pub loop-i-preserved : goal.loop-i-preserved
loop-i-preserved g c =
    let inv = c.loop-i.invariant in
    let f = g.S.AsSet.its_ids in
    let all : List (List ℕ) = map f c.args.sets.now in
    let long = length-map c.args.sets.now f in
    let first = c.requires.first in
    let inside = c.loop-i-test.true in
    let some = c.loop-i.auto.i in
    let i : ℕ = c.loop-i.i in
    let base : ℕ = c.args.base in
    let its : List ℕ = get_or (swapped c.args.first all) i [] in
    let next = c.lowest_key-next.ensures in
    elim c.if-stay.branch [
      | then-stay w ↦ (
          let later = c.stay.ensures.later w.if-stay.true in
          let left = c.stay.ensures.left w.if-stay.true in
          let known = c.held_key-known.ensures.held in
          let most = c.held_key-known.ensures.most in
          let same = inv.rest i (omega arith) in
          let none : (x : ℕ) → base ≤ x / 65536 → x / 65536 < c.held_key-known.result → has x its ≡ false = λ x least below. c.requires.held i x least (omega arith) in
          let is : c.if-stay.own ≡ c.held_key-known.result = w.own-is in
          rw (w.highs-is, w.words-is, w.held-is)
          (record {
            later = elim next.either [ inl e ↦ (let least = inv.later in omega arith) | inr e ↦ omega arith ];
            most = elim next.either [ inl e ↦ (let most' = inv.most in omega arith) | inr e ↦ omega arith ];
            held = inv.held;
            rest = λ j h. inv.rest j (omega arith);
            own = λ k small.
                inv.own k small ∙ sym (next_taken c.args.operation (base * 65536 + k) c.args.first i all its (omega arith) (omega arith) refl
                ∙ ap (apply c.args.operation (folded c.args.operation (take i (map (has (base * 65536 + k)) (swapped c.args.first all))))) (none (base * 65536 + k) (omega arith) (omega arith))
                ∙ first_kept c.args.operation _ left);
            none = λ x least below.
                next_taken c.args.operation x c.args.first i all its (omega arith) (omega arith) refl
                ∙ next.none (x / 65536) (folded c.args.operation (take i (map (has x) (swapped c.args.first all)))) (has x its) below
                (inv.none x least) (λ less. none x (omega arith) (omega arith));
          }))
      | else-stay w ↦ (
          let within : w.if-i-first.index < length c.args.sets.now = elim w.if-i-first.branch [
            | then-i-first v ↦ (let e = v.index-is in omega arith)
            | else-i-first v ↦ (let e = v.index-is in omega arith)
          ] in
          let at : its ≡ get_or all w.if-i-first.index [] = elim w.if-i-first.branch [
            | then-i-first v ↦
                ap (λ (k : ℕ). get_or (swapped c.args.first all) k []) v.if-i-first.true ∙ swapped_same c.args.first all (omega arith) ∙ sym (ap (λ (k : ℕ). get_or all k []) v.index-is)
            | else-i-first v ↦ swapped_other c.args.first i all (omega arith) v.if-i-first.false ∙ sym (ap (λ (k : ℕ). get_or all k []) v.index-is)
          ] in
          let own : its ≡ ids w.as_set-else-stay.result =
          at ∙ set_ids f c.args.sets.now w.if-i-first.index w.index-sets-index.result within w.index-sets-index.is ∙ sym w.as_set-else-stay.ensures in
          let added = w.add-own.ensures in
          let kept = w.hold.ensures in
          let is : c.if-stay.own ≡ w.add-own.result = w.own-is in
          rw (w.highs-is, w.words-is, w.held-is)
          (record {
            later = elim next.either [ inl e ↦ (let least = inv.later in omega arith) | inr e ↦ (let least = added.later in omega arith) ];
            most = elim next.either [ inl e ↦ (let most = inv.most in omega arith) | inr e ↦ (let most = added.most in omega arith) ];
            held = λ k x least below. elim (cases_eq k i) [
              | inl e ↦ (
                  let new = ap (λ (n : ℕ). get_or w.hold.new.held n 0) e in
                  let room = kept.own in
                  ap (λ (n : ℕ). has x (get_or (swapped c.args.first all) n [])) e ∙ ap (has x) own ∙ added.none x least (omega arith))
              | inr e ↦ (let old = kept.others k e in inv.held k x least (omega arith))
            ];
            rest = λ j h. kept.others j (λ e. omega arith) ∙ inv.rest j (omega arith);
            own = λ k small.
                added.own k small
                ∙ ap (λ (b : Bool). apply c.args.operation b (has (base * 65536 + k) (ids w.as_set-else-stay.result))) (inv.own k small)
                ∙ sym (next_taken c.args.operation (base * 65536 + k) c.args.first i all (ids w.as_set-else-stay.result) (omega arith) (omega arith) own);
            none = λ x least below.
                next_taken c.args.operation x c.args.first i all (ids w.as_set-else-stay.result) (omega arith) (omega arith) own
                ∙ next.none (x / 65536) (folded c.args.operation (take i (map (has x) (swapped c.args.first all)))) (has x (ids w.as_set-else-stay.result)) below
                (inv.none x least) (λ less. added.none x least (omega arith));
          }))
    ]

pub returns-clause-own : goal.returns-clause-own
returns-clause-own g c i small =
    let long = length-map c.args.sets.now g.S.AsSet.its_ids in
    let past = c.loop-i-test.false in
    c.loop-i.invariant.own i small ∙ all_taken c.args.operation (c.args.base * 65536 + i) c.args.first c.loop-i.i (map g.S.AsSet.its_ids c.args.sets.now) (omega arith)

pub returns-clause-none : goal.returns-clause-none
returns-clause-none g c x least below =
    let long = length-map c.args.sets.now g.S.AsSet.its_ids in
    let past = c.loop-i-test.false in
    sym (all_taken c.args.operation x c.args.first c.loop-i.i (map g.S.AsSet.its_ids c.args.sets.now) (omega arith)) ∙ c.loop-i.invariant.none x least below
