-- One id more is written.
use Rattle.std.proofs.Common.{◌^◌, ◌∙◌, ◌+◌, ◌∷◌, [], ap, arith, drop, length-drop, refl, sym}
use Rattle.std.proofs.lemmas.List.{drop_all, drop_more}
use Rattle.bitpack_slices.proofs.lemmas.bytes.FollowLaws.{left_as, left_first, left_more, left_none}
use Rattle.bitpack_slices.proofs.lemmas.slices.SliceLaws.{rising_room}
use Rattle.bitpack_slices.proofs.listed.merging.copy_from.Goals as goal
use Rattle.bitpack_slices.specs.Lists.{listed_ids}

pub loop-position-init : goal.loop-position-init
loop-position-init c = record { size = refl; left = left_first (drop c.args.from (listed_ids c.args.list.now)) c.args.out.now c.args.at }

pub put-next-requires : goal.put-next-requires
put-next-requires c =
    let ids = listed_ids c.args.list.now in
    let few = rising_room 0 (2 ^ 32) ids c.args.list.now.rising in
    let count = c.loop-position.invariant.left.count in
    let all = length-drop c.args.from ids in
    let rest = length-drop c.loop-position.position ids in
    omega arith

pub loop-position-preserved : goal.loop-position-preserved
loop-position-preserved c =
    let ids = listed_ids c.args.list.now in
    let i = c.loop-position.position in
    let all = drop c.args.from ids in
    let size = c.loop-position.invariant.size in
    let step = drop_more ids i 0 (omega (arith, c.loop-position-test.true, c.len-position-end.ensures)) in
    record {
      size = omega arith;
      left = left_more all c.args.out.now c.loop-position.out c.put-next.new.out c.args.at c.loop-position.next c.put-next.result (c.at.result ∷ []) (drop (i + 1) ids) (omega arith)
          (left_as all c.args.out.now c.loop-position.out c.args.at c.loop-position.next (drop i ids) (c.at.result ∷ drop (i + 1) ids) (step ∙ ap (λ n. n ∷ drop (i + 1) ids) (sym c.at.ensures))
          c.loop-position.invariant.left) c.put-next.ensures;
    }

pub returns : goal.returns
returns c =
    let ids = listed_ids c.args.list.now in
    left_none (drop c.args.from ids) c.args.out.now c.loop-position.out c.args.at c.loop-position.next (drop c.loop-position.position ids)
    (drop_all c.loop-position.position ids (omega (arith, c.loop-position-test.false, c.len-position-end.ensures))) c.loop-position.invariant.left
