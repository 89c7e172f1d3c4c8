-- Block after block, to the end.
use Rattle.std.proofs.Common.{◌≡◌, ◌+◌, ◌-◌, ◌*◌, ◌<◌, ◌≤◌, length, map, min, take, drop, refl, subst, sym, inl, inr, arith}
use Rattle.std.specs.Prelude.{◌||◌}
use Rattle.std.proofs.lemmas.Bool.{cases_lt}
use Rattle.std.proofs.lemmas.List.{take_all}
use Rattle.bitpack_slices.specs.Reads.{has}
use Rattle.bitpack_ranked.specs.Ranked.{AreBest, IsScored}
use Rattle.bitpack_ranked.proofs.AddSteps.{lesser}
use Rattle.bitpack_ranked.proofs.ManySteps.{no_fall-increasing, none_of_all, some_fresh, some_increasing, some_more}
use Rattle.bitpack_ranked.proofs.among.pass_all.Goals as goal

pub loop-block-init : goal.loop-block-init
loop-block-init g c = (
  omega arith,
  none_of_all (map g.T.AsTerm.its_word c.args.terms.now) c.args.classes.now (length c.args.found.now) (take 0 c.args.found.now) refl,
)

pub pass_some-len-requires-clause-increasing : goal.pass_some-len-requires-clause-increasing
pass_some-len-requires-clause-increasing g c =
    let documents = c.args.documents.now in
    let from = 128 * c.loop-block.block in
    let lt : from < length documents = omega (arith, c.loop-block-test.true, c.loop-block.auto.block-end, c.div_ceil-block-end.ensures) in
    some_increasing documents (no_fall-increasing 0 documents c.requires.rises) from (from + c.min-count.result - from)
    (omega (arith, c.min-count.ensures, lesser 128 (length documents - from), lt))

pub loop-block-preserved : goal.loop-block-preserved
loop-block-preserved g c =
    let words = map g.T.AsTerm.its_word c.args.terms.now in
    let classes = c.args.classes.now in
    let documents = c.args.documents.now in
    let from = 128 * c.loop-block.block in
    let next = 128 * (c.loop-block.block + 1) in
    let count = from + c.min-count.result - from in
    let passed = c.pass_some-len in
    let increasing = no_fall-increasing 0 documents c.requires.rises in
    let size : count ≡ min 128 (length documents - from) = omega (arith, c.min-count.ensures, lesser 128 (length documents - from)) in
    let lt : from < length documents = omega (arith, c.loop-block-test.true, c.loop-block.auto.block-end, c.div_ceil-block-end.ensures) in
    let fits : from + count ≤ length documents = omega (arith, size, lt) in
    let (few, best) = c.loop-block.invariant in (
      omega (arith, passed.ensures.len, passed.auto.found),
      some_more documents increasing from count fits words classes (length passed.new.found) next (take passed.result passed.new.found)
          (elim (cases_lt (length documents) (from + 128)) [
            | inl end ↦ inr (omega (arith, end, size, lt), omega (arith, end))
            | inr whole ↦ inl (omega (arith, whole, size))
          ])
          (subst
          (λ k. AreBest (IsScored (λ id. has id (take from documents) || has id (take count (drop from documents))) words classes) k (take passed.result passed.new.found))
          (sym passed.auto.found) (passed.ensures.best (λ id. has id (take from documents)) (some_fresh documents increasing from count fits) best)),
    )

pub returns-clause-best : goal.returns-clause-best
returns-clause-best g c =
    let words = map g.T.AsTerm.its_word c.args.terms.now in
    let documents = c.args.documents.now in
    let (few, best) = c.loop-block.invariant in
    let all : length documents ≤ 128 * c.loop-block.block = omega (arith, c.loop-block-test.false, c.div_ceil-block-end.ensures) in
    subst (λ ids. AreBest (IsScored (λ id. has id ids) words c.args.classes.now) (length c.args.found.now) (take c.loop-block.len c.loop-block.found))
    (take_all (128 * c.loop-block.block) documents all) (rw c.loop-block.auto.found at best)
