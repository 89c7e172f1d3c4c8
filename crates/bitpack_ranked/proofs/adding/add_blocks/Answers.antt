-- The documents of one more block are added, and at the end no document is left that has the word.
use Rattle.std.proofs.Common.{◌^◌, get_or, length, refl, ap, inl, inr, arith}
use Rattle.std.proofs.lemmas.Bool.{cases_lt}
use Rattle.bitpack_ranked.proofs.AddSteps.{after_all, lesser}
use Rattle.bitpack_ranked.proofs.RankLaws.{before_rank}
use Rattle.bitpack_ranked.proofs.adding.add_blocks.Goals as goal

pub loop-block-init : goal.loop-block-init
loop-block-init g c =
    let word = g.T.AsTerm.its_word c.args.term.now in
    let rising = (g.met.T.AsTerm.is_word c.args.term.now).set.rising in (
      omega arith,
      λ k lt. absurd (omega (arith, lt)),
      λ k le. refl,
      λ k le lt j before within. before_rank 0 (2 ^ 32) (get_or c.args.ids.now k 0) word.ids rising j (omega (arith, before, c.requires.from k lt)),
    )

pub loop-block-preserved : goal.loop-block-preserved
loop-block-preserved g c =
    let (few, done, rest, after) = c.loop-block.invariant in
    let added = c.add_block-next.ensures in (
      omega (arith, added.within.1),
      λ k lt. elim (cases_lt k c.loop-block.next) [
        | inl before ↦
            let same = added.others k (inl before) in
            let (is, small) = done k before in
            (omega (arith, same, is), omega (arith, same, small))
        | inr here ↦
            let same = rest k here in
            let (is, small) = added.added k here lt in
            (omega (arith, same, is), omega (arith, same, small))
      ],
      λ k le. omega (arith, added.others k (inr le), rest k (omega (arith, le, added.within.0))),
      added.later,
    )

pub returns : goal.returns
returns g c = λ k lt.
    let word = g.T.AsTerm.its_word c.args.term.now in
    let is = g.met.T.AsTerm.is_word c.args.term.now in
    let id = get_or c.args.ids.now k 0 in
    let (few, done, rest, after) = c.loop-block.invariant in
    elim (cases_lt k c.loop-block.next) [
      | inl before ↦ done k before
      | inr le ↦
          let none = after_all word is c.args.classes.now id c.args.end c.loop-block.block c.div_ceil-blocks.result (omega (arith, c.loop-block-test.false, c.loop-block.auto.block-end, c.min-block-end.ensures, lesser c.args.end c.div_ceil-blocks.result))
          (omega (arith, c.div_ceil-blocks.ensures, c.len.ensures, ap length c.ids.ensures)) (after k le lt) (c.requires.upto k lt) in
          (omega (arith, none, rest k le), omega (arith, rest k le))
    ]
