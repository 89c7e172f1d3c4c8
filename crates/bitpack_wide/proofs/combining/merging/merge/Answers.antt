-- Ids that the answer has not are passed, parts are merged, and then the rest of one set is written.
use Rattle.std.proofs.Common.{◌≡◌, ◌^◌, ◌<◌, ◌++◌, [], arith, cond, drop, get_or, length, length-drop, not}
use Rattle.bitpack_slices.proofs.ForCallers.{answer_ended, answer_ended', left_as, rising_drop}
use Rattle.bitpack_wide.proofs.CombineLaws.{ended_left, merged_left, passed_few, passed_later, wide_is}
use Rattle.bitpack_wide.proofs.FrontLaws.{front_len, front_of}
use Rattle.bitpack_wide.proofs.combining.merging.merge.Goals.{then-loop-i-test+else-j-len, else-loop-i-test}
use Rattle.bitpack_slices.specs.Reads.{rank}
use Rattle.bitpack_wide.specs.Combined.{answer}
use Rattle.bitpack_wide.specs.Opened.{ids}
use Rattle.bitpack_wide.proofs.combining.merging.merge.Goals as goal

pub merge_part-merged-requires-clause-start : goal.merge_part-merged-requires-clause-start
merge_part-merged-requires-clause-start c =
    let few = (wide_is c.args.a.now).few in
    let few' = (wide_is c.args.b.now).few in
    omega (arith, c.loop-i.invariant.few, c.loop-i.invariant.first, c.loop-i.invariant.second)

pub copy_rest-end-requires-clause-start : goal.copy_rest-end-requires-clause-start
copy_rest-end-requires-clause-start c =
    let few = (wide_is c.args.a.now).few in
    let few' = (wide_is c.args.b.now).few in
    omega (arith, c.loop-i.invariant.few, c.loop-i.invariant.first, c.loop-i.invariant.second)

pub copy_rest-all-requires-clause-start : goal.copy_rest-all-requires-clause-start
copy_rest-all-requires-clause-start c =
    let few = (wide_is c.args.a.now).few in
    let few' = (wide_is c.args.b.now).few in
    omega (arith, c.loop-i.invariant.few, c.loop-i.invariant.first, c.loop-i.invariant.second, c.copy_rest-end.ensures.few)

pub loop-i-preserved : goal.loop-i-preserved
loop-i-preserved c =
    let a = ids c.args.a.now in
    let b = ids c.args.b.now in
    let rising = (wide_is c.args.a.now).rising in
    let rising' = (wide_is c.args.b.now).rising in
    let here : c.loop-i.i < length a = omega (arith, c.loop-i-test.true, c.len-in-loop-i.ensures) in
    let there : c.loop-i.j < length b = omega (arith, c.if-j-len.true, c.len-in-loop-i-2.ensures) in
    let size = c.copy_range-m.ensures.len in
    let size' = c.copy_range-n.ensures.len in
    let room = length-drop c.passed-first.result a in
    let room' = length-drop c.passed-second.result b in
    let front = front_of c.copy_range-m.result c.copy_range-m.new.out (drop c.part_len-part.result c.loop-i.xs) (drop c.passed-first.result a) (omega arith) (omega arith)
    (rising_drop 0 (2 ^ 64) c.passed-first.result a rising) c.copy_range-m.ensures.ids in
    let front' = front_of c.copy_range-n.result c.copy_range-n.new.out (drop c.part_len-part.result c.loop-i.ys) (drop c.passed-second.result b) (omega arith) (omega arith)
    (rising_drop 0 (2 ^ 64) c.passed-second.result b rising') c.copy_range-n.ensures.ids in
    let merged = c.merge_part-merged.ensures.merged (drop c.passed-first.result a) (drop c.passed-second.result b) front front' in
    let left = merged_left c.args.operation c.retains_left.result c.retains_right.result a b c.args.out.now c.loop-i.out c.merge_part-merged.new.out c.loop-i.i c.loop-i.j c.passed-first.result c.passed-second.result c.loop-i.at c.merge_part-merged.result.at
    (c.merge_part-merged.result.i, c.merge_part-merged.result.j) rising rising' here there c.retains_left.ensures c.retains_right.ensures c.passed-first.ensures c.passed-second.ensures (omega arith) c.merge_part-merged.ensures.later
    c.loop-i.invariant.left merged in
    let few = passed_few (not c.retains_left.result) (get_or b c.loop-i.j 0) c.loop-i.i c.passed-first.result a c.loop-i.invariant.first c.passed-first.ensures in
    let few' = passed_few (not c.retains_right.result) (get_or a c.loop-i.i 0) c.loop-i.j c.passed-second.result b c.loop-i.invariant.second c.passed-second.ensures in
    let later = passed_later (not c.retains_left.result) (rank (get_or b c.loop-i.j 0) a) c.loop-i.i c.passed-first.result c.passed-first.ensures in
    let later' = passed_later (not c.retains_right.result) (rank (get_or a c.loop-i.i 0) b) c.loop-i.j c.passed-second.result c.passed-second.ensures in
    let long = front_len c.copy_range-m.result c.copy_range-m.new.out (drop c.part_len-part.result c.loop-i.xs) (omega arith) in
    let long' = front_len c.copy_range-n.result c.copy_range-n.new.out (drop c.part_len-part.result c.loop-i.ys) (omega arith) in
    record {
      first = omega (arith, c.merge_part-merged.ensures.i, long);
      second = omega (arith, c.merge_part-merged.ensures.j, long');
      few = omega (arith, c.merge_part-merged.ensures.few, later, later', c.loop-i.invariant.few);
      size = omega arith;
      xs_size = omega arith;
      ys_size = omega arith;
      left = left;
    }

pub returns-then-at-most-clause-none : goal.returns-then-at-most-clause-none
returns-then-at-most-clause-none c = λ none.
    let a = ids c.args.a.now in
    let b = ids c.args.b.now in
    let rising = (wide_is c.args.a.now).rising in
    let rising' = (wide_is c.args.b.now).rising in
    let here : c.loop-i.i < length a = omega (arith, c.loop-i-test.true, c.len-in-loop-i.ensures) in
    let there : c.loop-i.j < length b = omega (arith, c.if-j-len.true, c.len-in-loop-i-2.ensures) in
    let size = c.copy_range-m.ensures.len in
    let size' = c.copy_range-n.ensures.len in
    let room = length-drop c.passed-first.result a in
    let room' = length-drop c.passed-second.result b in
    let front = front_of c.copy_range-m.result c.copy_range-m.new.out (drop c.part_len-part.result c.loop-i.xs) (drop c.passed-first.result a) (omega arith) (omega arith)
    (rising_drop 0 (2 ^ 64) c.passed-first.result a rising) c.copy_range-m.ensures.ids in
    let front' = front_of c.copy_range-n.result c.copy_range-n.new.out (drop c.part_len-part.result c.loop-i.ys) (drop c.passed-second.result b) (omega arith) (omega arith)
    (rising_drop 0 (2 ^ 64) c.passed-second.result b rising') c.copy_range-n.ensures.ids in
    let merged = c.merge_part-merged.ensures.merged (drop c.passed-first.result a) (drop c.passed-second.result b) front front' in
    let left = merged_left c.args.operation c.retains_left.result c.retains_right.result a b c.args.out.now c.loop-i.out c.merge_part-merged.new.out c.loop-i.i c.loop-i.j c.passed-first.result c.passed-second.result c.loop-i.at c.merge_part-merged.result.at
    (c.merge_part-merged.result.i, c.merge_part-merged.result.j) rising rising' here there c.retains_left.ensures c.retains_right.ensures c.passed-first.ensures c.passed-second.ensures (omega arith) c.merge_part-merged.ensures.later
    c.loop-i.invariant.left merged in
    let count = left.count in
    omega (arith, c.if-at-most.true)

pub returns-then-all-most-clause-none : goal.returns-then-all-most-clause-none
returns-then-all-most-clause-none c = λ none.
    let a = ids c.args.a.now in
    let b = ids c.args.b.now in
    let rising = (wide_is c.args.a.now).rising in
    let rising' = (wide_is c.args.b.now).rising in
    let rest = cond c.retains_left-2.result (drop c.loop-i.i a) [] in
    let rest' = cond c.retains_right-2.result (drop c.loop-i.j b) [] in
    let ended : answer c.args.operation (drop c.loop-i.i a) (drop c.loop-i.j b) ≡ rest ++ rest' = elim c.loop-i-test.branch [
      | then-loop-i-test+else-j-len w ↦
          answer_ended' (2 ^ 64) c.args.operation c.retains_left-2.result c.retains_right-2.result c.loop-i.i c.loop-i.j a b rising rising' (omega (arith, w.if-j-len.false, w.len-in-loop-i-2.ensures)) c.retains_left-2.ensures c.retains_right-2.ensures
      | else-loop-i-test w ↦
          answer_ended (2 ^ 64) c.args.operation c.retains_left-2.result c.retains_right-2.result c.loop-i.i c.loop-i.j a b rising rising' (omega (arith, w.loop-i-test.false, c.len-in-loop-i.ensures)) c.retains_left-2.ensures c.retains_right-2.ensures
    ] in
    let all = ended_left (answer c.args.operation a b) c.args.out.now c.loop-i.out c.copy_rest-end.new.out c.copy_rest-all.new.out rest rest' c.loop-i.at c.copy_rest-end.result c.copy_rest-all.result (omega arith) (omega arith)
    (left_as (answer c.args.operation a b) c.args.out.now c.loop-i.out 0 c.loop-i.at (answer c.args.operation (drop c.loop-i.i a) (drop c.loop-i.j b)) (rest ++ rest') ended c.loop-i.invariant.left)
    c.copy_rest-end.ensures.follow c.copy_rest-all.ensures.follow in
    let count = all.end_is in
    omega (arith, c.if-all-most.true)

pub returns-clause-written : goal.returns-clause-written
returns-clause-written c =
    let a = ids c.args.a.now in
    let b = ids c.args.b.now in
    let rising = (wide_is c.args.a.now).rising in
    let rising' = (wide_is c.args.b.now).rising in
    let rest = cond c.retains_left-2.result (drop c.loop-i.i a) [] in
    let rest' = cond c.retains_right-2.result (drop c.loop-i.j b) [] in
    let ended : answer c.args.operation (drop c.loop-i.i a) (drop c.loop-i.j b) ≡ rest ++ rest' = elim c.loop-i-test.branch [
      | then-loop-i-test+else-j-len w ↦
          answer_ended' (2 ^ 64) c.args.operation c.retains_left-2.result c.retains_right-2.result c.loop-i.i c.loop-i.j a b rising rising' (omega (arith, w.if-j-len.false, w.len-in-loop-i-2.ensures)) c.retains_left-2.ensures c.retains_right-2.ensures
      | else-loop-i-test w ↦
          answer_ended (2 ^ 64) c.args.operation c.retains_left-2.result c.retains_right-2.result c.loop-i.i c.loop-i.j a b rising rising' (omega (arith, w.loop-i-test.false, c.len-in-loop-i.ensures)) c.retains_left-2.ensures c.retains_right-2.ensures
    ] in
    let all = ended_left (answer c.args.operation a b) c.args.out.now c.loop-i.out c.copy_rest-end.new.out c.copy_rest-all.new.out rest rest' c.loop-i.at c.copy_rest-end.result c.copy_rest-all.result (omega arith) (omega arith)
    (left_as (answer c.args.operation a b) c.args.out.now c.loop-i.out 0 c.loop-i.at (answer c.args.operation (drop c.loop-i.i a) (drop c.loop-i.j b)) (rest ++ rest') ended c.loop-i.invariant.left)
    c.copy_rest-end.ensures.follow c.copy_rest-all.ensures.follow in
    all
