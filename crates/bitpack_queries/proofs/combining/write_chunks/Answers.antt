-- The ids of a key more are written, or they are too many.
use Rattle.std.proofs.Common.{◌^◌, ◌+◌, ◌*◌, ◌++◌, arith, map, refl}
use Rattle.std.proofs.lemmas.List.{length-map}
use Rattle.bitpack_slices.proofs.ForCallers.{left_as, left_first, left_more, left_none, none_pass, those_few}
use Rattle.bitpack_queries.proofs.lemmas.two.AnswerLaws.{part_first, part_len}
use Rattle.bitpack_queries.proofs.combining.write_chunks.Goals as goal
use Rattle.bitpack_slices.specs.Operations.{those}
use Rattle.bitpack_queries.specs.Pairs.{left, meets}

pub loop-meeting-init : goal.loop-meeting-init
loop-meeting-init c = record { size = refl; few = omega arith; rest = left_first (those (2 ^ 32) (left c.args.pair)) c.args.out.now 0 }

pub write_meeting-at-requires-clause-start : goal.write_meeting-at-requires-clause-start
write_meeting-at-requires-clause-start c =
    let few = those_few (2 ^ 32) (left c.args.pair) in
    let count = c.loop-meeting.invariant.rest.count in
    omega arith

pub loop-meeting-smaller : goal.loop-meeting-smaller
loop-meeting-smaller c = c.in-Some.ensures.fewer

pub loop-meeting-preserved : goal.loop-meeting-preserved
loop-meeting-preserved c =
    let all = those (2 ^ 32) (left c.args.pair) in
    let key = c.in-Some.meeting.key in
    let own = map (λ i. key * 65536 + i) (those 65536 (meets c.next.new.self c.in-Some.meeting)) in
    let after = those (2 ^ 32) (left c.next.new.self) in
    let size = c.loop-meeting.invariant.size in
    record {
      size = omega arith;
      few = omega (arith, c.if-at-most.false);
      rest = left_more all c.args.out.now c.loop-meeting.out c.write_meeting-at.new.out 0 c.loop-meeting.at c.write_meeting-at.result own after (omega arith)
          (left_as all c.args.out.now c.loop-meeting.out 0 c.loop-meeting.at (those (2 ^ 32) (left c.loop-meeting.pair)) (own ++ after) (part_first key _ _ _ c.in-Some.ensures.part)
          c.loop-meeting.invariant.rest) c.write_meeting-at.ensures;
    }

pub returns-then-at-most-clause-none : goal.returns-then-at-most-clause-none
returns-then-at-most-clause-none c = λ none.
    let size = length-map (those 65536 (meets c.next.new.self c.in-Some.meeting)) (λ i. c.in-Some.meeting.key * 65536 + i) in
    let parts = part_len c.in-Some.meeting.key _ _ _ c.in-Some.ensures.part in
    let count = c.loop-meeting.invariant.rest.count in
    omega (arith, c.write_meeting-at.ensures.end_is, c.if-at-most.true)

pub returns-clause-written : goal.returns-clause-written
returns-clause-written c =
    left_none (those (2 ^ 32) (left c.args.pair)) c.args.out.now c.loop-meeting.out 0 c.loop-meeting.at (those (2 ^ 32) (left c.loop-meeting.pair))
    (none_pass (2 ^ 32) (left c.loop-meeting.pair) c.in_default.ensures.none) c.loop-meeting.invariant.rest
