-- The greatest count of a block is within its bounds, or it is looked for.
use Rattle.std.proofs.Common.{◌≡◌, ℕ, ◌+◌, ◌-◌, ◌*◌, ◌<◌, get_or, length, subst, take, ap, arith}
use Rattle.std.proofs.lemmas.List.{get_or-take, length-replicate, length-take}
use Rattle.bitpack_columns.specs.Opened.{values}
use Rattle.bitpack_ranked.specs.inner.Walks.{AreOfBlock}
use Rattle.bitpack_ranked.proofs.PositionLemmas.{copied_part}
use Rattle.bitpack_ranked.proofs.bounds.most_count.Goals as goal

pub returns-then-block-blocks : goal.returns-then-block-blocks
returns-then-block-blocks g c = λ k from before within.
    let b = c.args.block in
    let at : 128 * b + (k - 128 * b) ≡ k = omega arith in
    let high = c.bounds.ensures.high (k - 128 * b) (omega arith) in
    omega (arith, high, ap (λ m. get_or (values c.counts-counts.result) m 0) at, ap (λ xs. get_or xs k 0) c.counts-counts.ensures)

pub overflow_mul-block : goal.overflow_mul-block
overflow_mul-block g c = omega (arith, c.requires, ap length c.counts-counts.ensures, (g.met.T.AsTerm.is_word c.args.term.now).pairs, (g.met.T.AsTerm.is_word c.args.term.now).set.few)

pub returns : goal.returns
returns g c = λ k from upto within.
    let word = g.T.AsTerm.its_word c.args.term.now in
    let copied = c.copy_range-len in
    let out = copied.new.out in
    let b = c.args.block in
    let j = k - 128 * b in
    let at : 128 * b + j ≡ k = omega arith in
    let room = length-replicate {A = ℕ} 128 0 in
    let pairs = (g.met.T.AsTerm.is_word c.args.term.now).pairs in
    let lt : j < copied.result = omega (arith, room, copied.ensures.len, ap length c.counts-counts.ensures, pairs, from, upto, within) in
    let are : AreOfBlock word.counts b copied.result out =
    subst (λ xs. AreOfBlock xs b copied.result out) c.counts-counts.ensures (copied_part (values c.counts-counts.result) out b copied.result copied.ensures.values) in
    let short : j < length (take copied.result out) = omega (arith, lt, length-take copied.result out, room, copied.auto.out, copied.ensures.len) in
    omega (arith, c.greatest.ensures j short, get_or-take copied.result out j 0 lt, are j lt, ap (λ m. get_or word.counts m 0) at)
