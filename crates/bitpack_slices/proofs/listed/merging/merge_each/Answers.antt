-- The lowest id that is left of both is written if it is in the answer.
use mir.Val.{bool_byte}
use Rattle.std.proofs.Common.{ℕ, ◌≡◌, ◌^◌, ◌+◌, ◌<◌, ◌∙◌, ◌++◌, [], ◌∷◌, Bool, ap, arith, cond, drop, length, length-drop, min, refl, leb}
use Rattle.bitpack_slices.proofs.lemmas.numbers.AnswerLaws.{answer_few}
use Rattle.bitpack_slices.proofs.lemmas.bytes.FollowLaws.{follow_as, left_as, left_first, left_last, left_more}
use Rattle.bitpack_slices.proofs.lemmas.numbers.MergeLaws.{answer_ended, answer_ended', answer_step, cond_few}
use Rattle.bitpack_slices.proofs.lemmas.numbers.RetainedLaws.{byte_small}
use Rattle.bitpack_slices.proofs.lemmas.slices.SliceLaws.{rising_room}
use Rattle.bitpack_slices.proofs.listed.merging.merge_each.Goals as goal
use Rattle.bitpack_slices.proofs.listed.merging.merge_each.Goals.{then-loop-i-test+else-j-len, else-loop-i-test}
use Rattle.bitpack_slices.specs.Lists.{listed_ids}
use Rattle.bitpack_slices.specs.Operations.{answer, apply}

pub loop-i-init : goal.loop-i-init
loop-i-init c = record {
  first = omega arith;
  second = omega arith;
  size = refl;
  left = left_first (answer c.args.operation (listed_ids c.args.a.now) (listed_ids c.args.b.now)) c.args.out.now c.args.at;
}

pub put-next-requires : goal.put-next-requires
put-next-requires c =
    let few = answer_few c.args.operation (listed_ids c.args.a.now) (listed_ids c.args.b.now) in
    let count = c.loop-i.invariant.left.count in
    omega (arith, c.requires)

pub loop-i-preserved : goal.loop-i-preserved
loop-i-preserved c =
    let operation = c.args.operation in
    let xs = listed_ids c.args.a.now in
    let ys = listed_ids c.args.b.now in
    let all = answer operation xs ys in
    let i = c.loop-i.i in
    let j = c.loop-i.j in
    let x = c.at-x.result in
    let y = c.at-y.result in
    let here : i < length xs = omega (arith, c.loop-i-test.true, c.len.ensures) in
    let there : j < length ys = omega (arith, c.if-j-len.true, c.len-in-loop-i.ensures) in
    let rest = answer operation (drop (i + bool_byte (leb x y)) xs) (drop (j + bool_byte (leb y x)) ys) in
    let own : cond c.has-there.result (c.min.result ∷ []) [] ≡ cond (apply operation (leb x y) (leb y x)) (min x y ∷ []) [] =
    ap (λ (b : Bool). cond b (c.min.result ∷ []) []) c.has-there.ensures ∙ ap (λ (n : ℕ). cond (apply operation (leb x y) (leb y x)) (n ∷ []) []) c.min.ensures in
    let size = c.loop-i.invariant.size in
    let one = byte_small (leb x y) in
    let other = byte_small (leb y x) in
    record {
      first = omega arith;
      second = omega arith;
      size = omega arith;
      left = left_more all c.args.out.now c.loop-i.out c.put-next.new.out c.args.at c.loop-i.next c.put-next.result (cond (apply operation (leb x y) (leb y x)) (min x y ∷ []) []) rest (omega arith)
          (left_as all c.args.out.now c.loop-i.out c.args.at c.loop-i.next (answer operation (drop i xs) (drop j ys)) (cond (apply operation (leb x y) (leb y x)) (min x y ∷ []) [] ++ rest)
          (answer_step (2 ^ 32) operation i j xs ys c.args.a.now.rising c.args.b.now.rising here there x y c.at-x.ensures c.at-y.ensures) c.loop-i.invariant.left)
          (follow_as _ _ c.loop-i.out c.put-next.new.out c.loop-i.next c.put-next.result own c.put-next.ensures);
    }

pub copy_if-end-requires : goal.copy_if-end-requires
copy_if-end-requires c =
    let few = answer_few c.args.operation (listed_ids c.args.a.now) (listed_ids c.args.b.now) in
    let count = c.loop-i.invariant.left.count in
    omega (arith, c.requires)

pub copy_if-requires : goal.copy_if-requires
copy_if-requires c =
    let few = answer_few c.args.operation (listed_ids c.args.a.now) (listed_ids c.args.b.now) in
    let count = c.loop-i.invariant.left.count in
    let many = rising_room 0 (2 ^ 32) (listed_ids c.args.a.now) c.args.a.now.rising in
    let rest = length-drop c.loop-i.i (listed_ids c.args.a.now) in
    let some = cond_few c.retains_left.result (drop c.loop-i.i (listed_ids c.args.a.now)) in
    let end = c.copy_if-end.ensures.end_is in
    omega (arith, c.requires)

pub returns : goal.returns
returns c =
    let operation = c.args.operation in
    let xs = listed_ids c.args.a.now in
    let ys = listed_ids c.args.b.now in
    let all = answer operation xs ys in
    let i = c.loop-i.i in
    let j = c.loop-i.j in
    let front = cond c.retains_left.result (drop i xs) [] in
    let back = cond c.retains_right.result (drop j ys) [] in
    let ended : answer operation (drop i xs) (drop j ys) ≡ front ++ back = elim c.loop-i-test.branch [
      | then-loop-i-test+else-j-len w ↦
          answer_ended' (2 ^ 32) operation _ _ i j xs ys c.args.a.now.rising c.args.b.now.rising (omega (arith, w.if-j-len.false, w.len-in-loop-i.ensures)) c.retains_left.ensures c.retains_right.ensures
      | else-loop-i-test w ↦
          answer_ended (2 ^ 32) operation _ _ i j xs ys c.args.a.now.rising c.args.b.now.rising (omega (arith, w.loop-i-test.false, c.len.ensures)) c.retains_left.ensures c.retains_right.ensures
    ] in
    let size = c.loop-i.invariant.size in
    left_last all c.args.out.now c.copy_if-end.new.out c.copy_if.new.out c.args.at c.copy_if-end.result c.copy_if.result back (omega arith)
    (left_more all c.args.out.now c.loop-i.out c.copy_if-end.new.out c.args.at c.loop-i.next c.copy_if-end.result front back (omega arith)
    (left_as all c.args.out.now c.loop-i.out c.args.at c.loop-i.next (answer operation (drop i xs) (drop j ys)) (front ++ back) ended c.loop-i.invariant.left) c.copy_if-end.ensures)
    c.copy_if.ensures
