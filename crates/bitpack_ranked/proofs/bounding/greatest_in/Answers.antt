-- The block is unpacked, or there is none.
use Rattle.std.proofs.Common.{◌≡◌, ℕ, ◌+◌, ◌-◌, ◌*◌, ◌<◌, get_or, sym, ap, ◌∙◌, arith}
use Rattle.bitpack_ranked.specs.Scores.{part_at}
use Rattle.bitpack_ranked.proofs.bounding.greatest_in.Goals as goal

pub returns : goal.returns
returns g c = λ k from upto within.
    let word = g.T.AsTerm.its_word c.args.term.now in
    let classes = c.args.classes.now in
    let walk = c.unpack_ids.new.self in
    let b = c.args.block in
    let j : ℕ = k - 128 * b in
    let at : 128 * b + j ≡ k = omega (arith, from) in
    let lt : j < walk.len = omega (arith, from, upto, within, c.unpack_ids.ensures.block.len) in
    let count = c.unpack_ids.ensures.block.counts j lt ∙ ap (λ m. get_or word.counts m 0) at in
    let id = c.unpack_ids.ensures.block.ids j lt ∙ ap (λ m. get_or word.ids m 0) at in
    let same : part_at word.table (get_or word.counts k 0) (get_or classes (get_or word.ids k 0) 0)
    ≡ part_at word.table (get_or walk.counts j 0) (get_or classes (get_or walk.ids j 0) 0) =
    ap (λ n. part_at word.table n (get_or classes (get_or word.ids k 0) 0)) (sym count)
    ∙ ap (λ x. part_at word.table (get_or walk.counts j 0) (get_or classes x 0)) (sym id) in
    omega (arith, same, c.greatest_part.ensures j lt)
