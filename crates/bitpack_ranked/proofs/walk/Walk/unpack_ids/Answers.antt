-- The ids of the block were copied.
use Rattle.std.proofs.Common.{rules, ◌≡◌, ◌-◌, ◌*◌, ◌^◌, length, min, subst, ap, arith}
use Rattle.bitpack_sets.specs.Opened.{ids}
use Rattle.bitpack_ranked.specs.inner.Walks.{AreOfBlock}
use Rattle.bitpack_ranked.proofs.PositionLemmas.{copied_part, low_after}
use Rattle.bitpack_ranked.proofs.RankLaws.{rising-increasing}
use Rattle.bitpack_ranked.proofs.walk.Walk.unpack_ids.Goals as goal

pub returns-clause-low : goal.returns-clause-low
returns-clause-low g c =
    let word = g.T.AsTerm.its_word c.args.term.now in
    let copied = c.copy_range-self in
    let room : length c.args.self.now.ids ≡ 128 = search rules in
    let len : copied.result ≡ min 128 (length word.ids - 128 * c.args.block) = omega (arith, room, copied.ensures.len, ap length c.ids.ensures) in
    let are : AreOfBlock word.ids c.args.block copied.result copied.new.out =
    subst (λ xs. AreOfBlock xs c.args.block copied.result copied.new.out) c.ids.ensures
    (copied_part (ids c.ids.result) copied.new.out c.args.block copied.result copied.ensures.ids) in
    low_after word.ids (rising-increasing 0 (2 ^ 32) word.ids (g.met.T.AsTerm.is_word c.args.term.now).set.rising) c.args.block copied.result
    c.saturating_add-self.result copied.new.out len are (omega (arith, c.saturating_add-self.ensures))

pub returns-clause-block : goal.returns-clause-block
returns-clause-block g c =
    let word = g.T.AsTerm.its_word c.args.term.now in
    let copied = c.copy_range-self in
    let room : length c.args.self.now.ids ≡ 128 = search rules in
    let len : copied.result ≡ min 128 (length word.ids - 128 * c.args.block) = omega (arith, room, copied.ensures.len, ap length c.ids.ensures) in
    let are : AreOfBlock word.ids c.args.block copied.result copied.new.out =
    subst (λ xs. AreOfBlock xs c.args.block copied.result copied.new.out) c.ids.ensures
    (copied_part (ids c.ids.result) copied.new.out c.args.block copied.result copied.ensures.ids) in
    record { len = len; ids = are; counts = λ k lt. c.requires.counts k (omega (arith, lt, len, c.requires.len)) }
