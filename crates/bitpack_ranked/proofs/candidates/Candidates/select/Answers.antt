-- One candidate more is put among the best, or skipped.
use Rattle.std.proofs.Common.{rules, ◌≡◌, ◌+◌, ◌<◌, ◌≤◌, [], get_or, length, map, take, true, refl, subst, sym, ◌∙◌, inl, inr, arith}
use Rattle.std.specs.List.{count_by, sum_by}
use Rattle.std.proofs.lemmas.Bool.{le-ltb, lt-ltb, ltb-true}
use Rattle.std.proofs.lemmas.List.{get_or-take}
use Rattle.bitpack_ranked.specs.Ranked.{AreBest, IsScored, has_word, part_in}
use Rattle.bitpack_ranked.proofs.CandidateSteps.{count_first, has_first, rise_first}
use Rattle.bitpack_ranked.proofs.ManySteps.{all_passed, none_passed, one_passed, passed}
use Rattle.bitpack_ranked.proofs.WordSteps.{no_parts}
use Rattle.bitpack_ranked.proofs.candidates.Candidates.select.Goals as goal

pub loop-index-init : goal.loop-index-init
loop-index-init g c =
    let len = c.args.self.now.len in
    let ids = c.args.self.now.ids in
    let room : length ids ≡ 128 = search rules in (
      omega (arith, c.requires.len),
      λ words classes test old are fresh best.
          none_passed words classes (length c.args.found.now) (take len ids) old test (take c.args.len c.args.found.now) (λ id passes. elim (are.others id passes) [
            | inl there ↦ inl (has_first ids len (omega (arith, room, c.requires.short)) id there)
            | inr beaten ↦ inr beaten
          ]) best,
    )

pub loop-index-preserved : goal.loop-index-preserved
loop-index-preserved g c =
    let len = c.args.self.now.len in
    let ids = c.args.self.now.ids in
    let room : length ids ≡ 128 = search rules in
    let i = c.loop-index.index in
    let id = get_or ids i 0 in
    let score = get_or c.args.self.now.scores i 0 in
    let before = map g.T.AsTerm.its_word c.args.before.now in
    let count = count_by (has_word id) before in
    let lt : i < len = omega (arith, c.loop-index-test.true, c.loop-index.auto.index-end) in
    let fits : len ≤ length ids = omega (arith, room, c.requires.short) in
    let selected = c.select_new-len in
    let (few, done) = c.loop-index.invariant in (
      omega (arith, selected.ensures.len, selected.auto.found),
      λ words classes test old are fresh best.
          let none : test id ≡ true → count ≡ 0 = λ passes. let less = ltb-true count 1 (sym (are.passes i lt) ∙ passes) in omega (arith, less) in
          let zero : sum_by (part_in classes id) [] ≡ 0 = refl in
          subst (λ k. AreBest (IsScored (passed old test (take len ids) (i + 1)) words classes) k (take selected.result selected.new.found)) (sym selected.auto.found)
          (one_passed words classes (length c.loop-index.found) (take len ids) old test (rise_first ids len fits c.requires.rise) fresh i
          (omega (arith, lt, count_first ids len fits)) id (get_or-take len ids i 0 lt) score
          (λ passes. omega (arith, are.adds_up i lt, no_parts classes id before (none passes), zero))
          (take c.loop-index.len c.loop-index.found) (take selected.result selected.new.found) (elim selected.ensures.selected [
            | inl new ↦ inl (are.passes i lt ∙ lt-ltb count 1 (omega (arith, new.0)), new.1)
            | inr same ↦ inr (
              same.0,
              elim same.1 [
                | inl some ↦ inl (are.passes i lt ∙ le-ltb count 1 (omega (arith, some)))
                | inr full ↦ inr full
              ],
            )
          ]) (done words classes test old are fresh best)),
    )

pub returns-clause-best : goal.returns-clause-best
returns-clause-best g c = λ words classes test old are fresh best.
    let len = c.args.self.now.len in
    let ids = c.args.self.now.ids in
    let room : length ids ≡ 128 = search rules in
    let (few, done) = c.loop-index.invariant in
    all_passed words classes (length c.args.found.now) (take len ids) old test (take c.loop-index.len c.loop-index.found) c.loop-index.index
    (omega (arith, c.loop-index-test.false, c.loop-index.auto.index-end, count_first ids len (omega (arith, room, c.requires.short))))
    (rw c.loop-index.auto.found at done words classes test old are fresh best)
