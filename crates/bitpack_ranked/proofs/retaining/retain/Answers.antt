-- One document more.
use Rattle.std.proofs.Common.{◌≡◌, ◌<◌, get_or, subst, ◌∙◌, arith}
use Rattle.std.proofs.lemmas.List.{get_or-set_other}
use Rattle.bitpack_ranked.specs.inner.Candidates.{AreMarked, AreRetained}
use Rattle.bitpack_ranked.proofs.RetainSteps.{marked_more, retained_more}
use Rattle.bitpack_ranked.proofs.retaining.retain.Goals as goal

pub loop-index-preserved : goal.loop-index-preserved
loop-index-preserved c =
    let ids = c.loop-index.ids in
    let scores = c.loop-index.scores in
    let i = c.loop-index.index in
    let n = c.loop-index.count in
    let mark = get_or c.args.marks.now i 0 in
    let lt : i < c.args.len = omega (arith, c.loop-index-test.true) in
    let few = c.requires.one i lt in
    let (le, done, marked, rest) = c.loop-index.invariant in
    let (id, score) = rest i (omega arith) in (
      omega (arith, le, few),
      retained_more (λ k. get_or c.args.marks.now k 0 ≡ 0) c.args.ids.now c.args.scores.now i ids scores n le
          (omega (arith, lt, c.requires.room.0, c.loop-index.auto.ids)) (omega (arith, lt, c.requires.room.1, c.loop-index.auto.scores)) id score done mark few (λ none. none),
      marked_more (λ k. get_or c.args.marks.now k 0 ≡ 0) c.args.ids.now c.args.scores.now i ids scores n le
          (omega (arith, lt, c.requires.room.0, c.loop-index.auto.ids)) (omega (arith, lt, c.requires.room.1, c.loop-index.auto.scores)) id score done
          (λ k. get_or c.args.marks.now k 0 ≡ 1) mark few (λ one. one) marked,
      λ k above. let (its, has) = rest k (omega (arith, above)) in (
        get_or-set_other ids n k (get_or ids i 0) 0 (λ e. omega (arith, e, above, le)) ∙ its,
        get_or-set_other scores n k (get_or scores i 0) 0 (λ e. omega (arith, e, above, le)) ∙ has,
      ),
    )

pub returns-clause-retained : goal.returns-clause-retained
returns-clause-retained c =
    let (le, done, marked, rest) = c.loop-index.invariant in
    let end : c.loop-index.index ≡ c.args.len = omega (arith, c.loop-index-test.false, c.loop-index.auto.index-end) in
    subst (λ i. AreRetained (λ k. get_or c.args.marks.now k 0 ≡ 0) c.args.ids.now c.args.scores.now i c.loop-index.ids c.loop-index.scores c.loop-index.count) end done

pub returns-clause-marked : goal.returns-clause-marked
returns-clause-marked c =
    let (le, done, marked, rest) = c.loop-index.invariant in
    let end : c.loop-index.index ≡ c.args.len = omega (arith, c.loop-index-test.false, c.loop-index.auto.index-end) in
    subst (λ i. AreMarked (λ k. get_or c.args.marks.now k 0 ≡ 1) c.args.ids.now i c.loop-index.ids c.loop-index.count) end marked
