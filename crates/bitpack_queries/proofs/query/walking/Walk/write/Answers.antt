use Rattle.std.proofs.Common.{[], get_or, ◌+◌, ◌-◌, ◌*◌, ◌%◌, ◌<◌, ◌++◌, take, ap, ◌∙◌, arith}
use Rattle.bitpack_queries.proofs.lemmas.trees.QueryIds.{high_written, none_before, own_of_high, part_same, passed_over}
use Rattle.bitpack_queries.proofs.query.walking.Walk.write.Goals as goal

pub returns-then-high-eq256-clause-ids : goal.returns-then-high-eq256-clause-ids
returns-then-high-eq256-clause-ids c = λ found loaded.
    let walk = c.args.self.now in
    let high = c.first_bit-high in
    ap (λ xs. take c.args.at c.args.out.now ++ xs)
    (passed_over _ walk.next _ found (omega (arith, c.if-high-eq256.true))
    (λ x small a b. none_before found walk.key walk.next walk.highs c.args.bitmaps.now high.result x loaded c.requires.key small a b high.ensures.within high.ensures.none))

pub returns-clause-ids : goal.returns-clause-ids
returns-clause-ids c = λ found loaded.
    let walk = c.args.self.now in
    let bitmaps = c.args.bitmaps.now in
    let high = c.first_bit-high in
    let wrote = c.unpack_bits_from-end in
    let few : high.result < 256 = omega (arith, high.ensures.within, c.if-high-eq256.false) in
    high_written found _ (walk.next - walk.next % 65536 + 256 * high.result) walk.next c.max-next.result wrote.result.1 _ _
    (omega (arith, few, c.requires.more)) (omega (arith, c.max-next.ensures)) (omega (arith, c.max-next.ensures, high.ensures.later)) (omega (arith, c.max-next.ensures, wrote.ensures.later)) wrote.ensures.within (omega (arith, c.max-next.ensures))
    (λ x small a b. none_before found walk.key walk.next walk.highs bitmaps high.result x loaded c.requires.key small a (omega (arith, c.max-next.ensures, a, b)) high.ensures.within high.ensures.none)
    (λ i small. own_of_high found walk.key walk.next walk.highs bitmaps high.result i loaded c.requires.key c.requires.more few small (high.ensures.one few) ∙ part_same (get_or bitmaps 0 []) (4 * high.result) i)
    wrote.ensures.ids
