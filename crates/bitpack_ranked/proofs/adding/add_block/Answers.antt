-- One more document is looked for in the block.
use Rattle.std.proofs.Common.{rules, ◌≡◌, ℕ, ◌+◌, ◌-◌, ◌<◌, ◌≤◌, get_or, length, sym, ap, ◌∙◌, inl, inr, arith}
use Rattle.std.proofs.lemmas.Bool.{cases_eq, cases_lt}
use Rattle.std.proofs.lemmas.List.{get_or-set_other, get_or-set_same, get_or-take}
use Rattle.bitpack_ranked.specs.Ranked.{part_in}
use Rattle.bitpack_ranked.specs.Scores.{part_at}
use Rattle.bitpack_ranked.proofs.AddSteps.{after_next, count_its, found_here, missed}
use Rattle.bitpack_ranked.proofs.PositionLemmas.{rises}
use Rattle.bitpack_ranked.proofs.adding.add_block.Goals as goal

pub returns-then-id-last-clause-later : goal.returns-then-id-last-clause-later
returns-then-id-last-clause-later g c = λ k le lt.
    let word = g.T.AsTerm.its_word c.args.term.now in
    let is = g.met.T.AsTerm.is_word c.args.term.now in
    let walk = c.args.walk.now in
    let ids = c.args.ids.now in
    let i = c.loop-index.index in
    let its = c.ids-its.result.now in
    let block = c.requires.block in
    let ids_room : length walk.ids ≡ 128 = search rules in
    let fits : walk.len ≤ length walk.ids = omega (arith, ids_room, block.len) in
    let count = count_its word is c.args.classes.now c.args.block walk block c.requires.within fits its c.ids-its.ensures in
    let above : get_or ids i 0 ≤ get_or ids k 0 = elim (cases_lt i k) [
      | inl less ↦ omega (arith, rises ids c.requires.increasing i k less lt)
      | inr same ↦ omega (arith, ap (λ n. get_or ids n 0) (let e : k ≡ i = omega (arith, same, le) in e))
    ] in
    after_next word is c.args.classes.now c.args.block walk block c.requires.within fits its c.ids-its.ensures (get_or ids k 0)
    (c.requires.from k (omega (arith, le, c.loop-index.invariant.0)) lt)
    (omega (arith, above, c.if-id-last.true, ap (λ n. get_or its (n - 1) 0) count))

pub loop-index-preserved : goal.loop-index-preserved
loop-index-preserved g c =
    let word = g.T.AsTerm.its_word c.args.term.now in
    let is = g.met.T.AsTerm.is_word c.args.term.now in
    let walk = c.args.walk.now in
    let classes = c.args.classes.now in
    let ids = c.args.ids.now in
    let i = c.loop-index.index in
    let id = get_or ids i 0 in
    let scores = c.loop-index.scores in
    let its = c.ids-its.result.now in
    let at = c.first_from-at.result in
    let part = c.part_of.result in
    let value = get_or scores i 0 + part in
    let block = c.requires.block in
    let lt : i < length ids = omega (arith, c.loop-index-test.true) in
    let room : i < length scores = omega (arith, lt, c.loop-index.auto.scores, c.requires.room) in
    let (from, few, below, done, rest) = c.loop-index.invariant in
    let ids_room : length walk.ids ≡ 128 = search rules in
    let fits : walk.len ≤ length walk.ids = omega (arith, ids_room, block.len) in
    let count = count_its word is classes c.args.block walk block c.requires.within fits its c.ids-its.ensures in
    let ahead = c.first_from-at.ensures in
    let last : id ≤ get_or its (walk.len - 1) 0 = omega (arith, c.if-id-last.false, ap (λ n. get_or its (n - 1) 0) count) in
    let within : at < walk.len = elim (cases_lt at walk.len) [
      | inl inside ↦ inside
      | inr beyond ↦ elim (cases_lt (walk.len - 1) c.loop-index.at) [
        | inl past ↦ absurd (omega (arith, last, below (walk.len - 1) i past (omega arith) lt))
        | inr ahead_of ↦ absurd (omega (arith, last, ahead.below (walk.len - 1) ahead_of (omega (arith, beyond, block.len, c.requires.within))))
      ]
    ] in
    let under : (j : ℕ) → j < at → get_or its j 0 < id = λ j less. elim (cases_lt j c.loop-index.at) [
      | inl past ↦ below j i past (omega arith) lt
      | inr new' ↦ ahead.below j new' less
    ] in
    let its_at : get_or its at 0 ≡ get_or walk.ids at 0 = ap (λ xs. get_or xs at 0) c.ids-its.ensures ∙ get_or-take walk.len walk.ids at 0 within in
    let after = c.requires.from i from lt in
    let is_part : part ≡ part_in classes id word = elim (cases_eq (get_or its at 0) id) [
      | inl same ↦ c.part_of.ensures.here (sym its_at ∙ same) ∙ ap (λ n. part_at word.table (get_or walk.counts at 0) n) c.class_of.ensures
          ∙ sym (found_here word is classes c.args.block walk block c.requires.within fits its c.ids-its.ensures id after at within same)
      | inr other ↦ c.part_of.ensures.lacking (λ e. other (its_at ∙ e))
          ∙ sym (missed word is classes c.args.block walk block c.requires.within fits its c.ids-its.ensures id after at within under (ahead.here (omega (arith, within, count))) other)
    ] in (
      omega (arith, from),
      omega (arith, ahead.within.1),
      λ j k less le upto. omega (arith, under j less, rises ids c.requires.increasing i k (omega (arith, le)) upto),
      λ k low upto. elim (cases_eq k i) [
        | inl here ↦ rw (here, get_or-set_same scores i value 0 room) (omega (arith, is_part, rest i (inr (omega arith))), omega (arith, c.part_of.type_inv, rest i (inr (omega arith))))
        | inr other ↦ rw (get_or-set_other scores i k value 0 other) (done k low (omega (arith, other, upto)))
      ],
      λ k out. elim out [
        | inl low ↦ rw (get_or-set_other scores i k value 0 (λ here. omega (arith, here, low, from))) (rest k (inl low))
        | inr high ↦ rw (get_or-set_other scores i k value 0 (λ here. omega (arith, here, high))) (rest k (inr (omega (arith, high))))
      ],
    )
