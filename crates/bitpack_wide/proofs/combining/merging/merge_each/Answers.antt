-- The lowest id that is left of both is written if it is in the answer.
use mir.Val.{bool_byte}
use Rattle.std.proofs.Common.{ℕ, ◌≡◌, ◌^◌, ◌+◌, ◌<◌, ◌∙◌, ◌++◌, [], ◌∷◌, Bool, ap, arith, cond, drop, get_or, length, min, leb}
use Rattle.bitpack_slices.proofs.ForCallers.{answer_step, byte_small, follow_as, left_as, left_more}
use Rattle.bitpack_wide.proofs.FrontLaws.{front_at, front_within, one_step}
use Rattle.bitpack_wide.proofs.combining.merging.merge_each.Goals as goal
use Rattle.bitpack_wide.specs.Combined.{answer}
use Rattle.bitpack_slices.specs.Operations.{apply}

pub put-next-requires : goal.put-next-requires
put-next-requires c =
    let few = c.loop-i.invariant.few in
    omega (arith, c.requires.few, c.requires.start, c.loop-i-test.true, c.if-j-ys.true)

pub loop-i-preserved : goal.loop-i-preserved
loop-i-preserved c =
    let operation = c.args.operation in
    let xs = c.args.xs.now in
    let ys = c.args.ys.now in
    let i = c.loop-i.i in
    let j = c.loop-i.j in
    let x = get_or xs i 0 in
    let y = get_or ys j 0 in
    let here : i < length xs = omega (arith, c.loop-i-test.true) in
    let there : j < length ys = omega (arith, c.if-j-ys.true) in
    let front : _ = cond (apply operation (leb x y) (leb y x)) (min x y ∷ []) [] in
    let own : cond c.has.result (c.min.result ∷ []) [] ≡ front =
    ap (λ (b : Bool). cond b (c.min.result ∷ []) []) c.has.ensures ∙ ap (λ (n : ℕ). cond (apply operation (leb x y) (leb y x)) (n ∷ []) []) c.min.ensures in
    let size = c.loop-i.invariant.size in
    let few = c.loop-i.invariant.few in
    let end = c.put-next.ensures.end_is in
    let step = one_step c.has.result c.min.result x y in
    let one = byte_small (leb x y) in
    let other = byte_small (leb y x) in
    record {
      first = omega arith;
      second = omega arith;
      later = omega arith;
      few = omega arith;
      size = omega arith;
      left = λ all others is is'.
          left_more (answer operation all others) c.args.out.now c.loop-i.out c.put-next.new.out c.args.at c.loop-i.next c.put-next.result front
          (answer operation (drop (i + bool_byte (leb x y)) all) (drop (j + bool_byte (leb y x)) others)) (omega arith)
          (left_as (answer operation all others) c.args.out.now c.loop-i.out c.args.at c.loop-i.next (answer operation (drop i all) (drop j others)) (front ++ answer operation (drop (i + bool_byte (leb x y)) all) (drop (j + bool_byte (leb y x)) others))
          (answer_step (2 ^ 64) operation i j all others is.rising is'.rising (front_within xs all i is here) (front_within ys others j is' there) x y (front_at xs all i is here) (front_at ys others j is' there))
          (c.loop-i.invariant.left all others is is'))
          (follow_as _ _ c.loop-i.out c.put-next.new.out c.loop-i.next c.put-next.result own c.put-next.ensures);
    }
