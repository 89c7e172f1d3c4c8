-- The bound of one more document.
use Rattle.std.proofs.Common.{◌+◌, ◌-◌, ◌/◌, ◌<◌, ◌≤◌, get_or, length, ap, sym, ◌∙◌, inl, inr, arith}
use Rattle.std.proofs.lemmas.Bool.{cases_eq}
use Rattle.std.proofs.lemmas.List.{get_or-set_other, get_or-set_same}
use Rattle.std.proofs.lemmas.Option.{IfSome_then}
use Rattle.bitpack_slices.specs.Reads.{rank}
use Rattle.bitpack_ranked.specs.Ranked.{part_in}
use Rattle.bitpack_ranked.proofs.AddSteps.{between, part_within}
use Rattle.bitpack_ranked.proofs.RankLaws.{rank-le}
use Rattle.bitpack_ranked.proofs.bounds.bound_word.Goals as goal

pub most_between-most-requires : goal.most_between-most-requires
most_between-most-requires g c =
    let ids = (g.T.AsTerm.its_word c.args.term.now).ids in
    let last = get_or c.args.ids.now (length c.args.ids.now - 1) 0 in
    omega (arith, c.rank.ensures, ap (λ xs. rank last xs) c.ids-2.ensures, rank-le last ids)

pub overflow_add-bounds : goal.overflow_add-bounds
overflow_add-bounds g c =
    let (done, rest) = c.loop-index.invariant in
    let i = c.loop-index.index in
    omega (arith, rest i (omega arith), c.requires.small i (omega (arith, c.loop-index-test.true)), c.most_part.type_inv)

pub loop-index-preserved : goal.loop-index-preserved
loop-index-preserved g c =
    let word = g.T.AsTerm.its_word c.args.term.now in
    let classes = c.args.classes.now in
    let ids = c.args.ids.now in
    let i = c.loop-index.index in
    let bounds = c.loop-index.bounds in
    let id = get_or ids i 0 in
    let most = c.most_between-most.result in
    let value = get_or bounds i 0 + c.most_part.result in
    let lt : i < length ids = omega (arith, c.loop-index-test.true) in
    let room : i < length bounds = omega (arith, lt, c.loop-index.auto.bounds, c.requires.room) in
    let spans = between ids word.ids c.requires.increasing i lt in
    let low = c.rank-first.ensures ∙ ap (λ xs. rank (get_or ids 0 0) xs) c.ids.ensures in
    let high = c.rank.ensures ∙ ap (λ xs. rank (get_or ids (length ids - 1) 0) xs) c.ids-2.ensures in
    let le : part_in classes id word ≤ c.most_part.result =
    part_within word (g.met.T.AsTerm.is_word c.args.term.now) classes id c.most_part.result (c.rank-first.result / 128) (c.rank.result / 128 + 1)
    (λ r from upto within. rw (sym c.class_of.ensures) (c.most_part.ensures (get_or word.counts r 0)
    (IfSome_then most c.most_between-most.ensures (λ m each. each r from upto within)))) (omega (arith, spans.0, low)) (omega (arith, spans.1, high)) in
    let (done, rest) = c.loop-index.invariant in (
      λ k upto. elim (cases_eq k i) [
        | inl at ↦ rw (at, get_or-set_same bounds i value 0 room) (omega (arith, le, rest i (omega arith)), omega (arith, c.most_part.type_inv, rest i (omega arith)))
        | inr other ↦ rw (get_or-set_other bounds i k value 0 other) (done k (omega (arith, other, upto)))
      ],
      λ k above. rw (get_or-set_other bounds i k value 0 (λ at. omega (arith, at, above))) (rest k (omega (arith, above))),
    )
