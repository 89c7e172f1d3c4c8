-- The counts of the block were copied, and none is above the greatest.
use Rattle.std.proofs.Common.{rules, ◌≡◌, ◌+◌, ◌-◌, ◌*◌, ◌<◌, ◌≤◌, get_or, length, subst, take, ap, arith}
use Rattle.std.proofs.lemmas.List.{get_or-take, length-take}
use Rattle.bitpack_columns.specs.Opened.{values}
use Rattle.bitpack_ranked.specs.inner.Walks.{AreOfBlock}
use Rattle.bitpack_ranked.proofs.PositionLemmas.{copied_part}
use Rattle.bitpack_ranked.proofs.walk.Walk.unpack_counts.Goals as goal

pub returns-clause-counts : goal.returns-clause-counts
returns-clause-counts g c =
    let copied = c.copy_range-self in
    subst (λ xs. AreOfBlock xs c.args.block copied.result copied.new.out) c.counts.ensures
    (copied_part (values c.counts.result) copied.new.out c.args.block copied.result copied.ensures.values)

pub returns-clause-most : goal.returns-clause-most
returns-clause-most g c = λ k class from upto within.
    let word = g.T.AsTerm.its_word c.args.term.now in
    let copied = c.copy_range-self in
    let out = copied.new.out in
    let j = k - 128 * c.args.block in
    let at : 128 * c.args.block + j ≡ k = omega arith in
    let room : length c.args.self.now.counts ≡ 128 = search rules in
    let pairs = (g.met.T.AsTerm.is_word c.args.term.now).pairs in
    let lt : j < copied.result = omega (arith, room, copied.ensures.len, ap length c.counts.ensures, pairs, from, upto, within) in
    let are : AreOfBlock word.counts c.args.block copied.result out =
    subst (λ xs. AreOfBlock xs c.args.block copied.result out) c.counts.ensures (copied_part (values c.counts.result) out c.args.block copied.result copied.ensures.values) in
    let short : j < length (take copied.result out) = omega (arith, lt, length-take copied.result out, room, copied.auto.out, copied.ensures.len) in
    let great : get_or word.counts k 0 ≤ c.greatest.result =
    omega (arith, c.greatest.ensures j short, get_or-take copied.result out j 0 lt, are j lt, ap (λ m. get_or word.counts m 0) at) in
    rw c.parts.ensures at c.most.ensures (get_or word.counts k 0) class great
