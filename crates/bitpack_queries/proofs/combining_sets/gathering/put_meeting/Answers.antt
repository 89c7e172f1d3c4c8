-- The body is copied, or combined.
use Rattle.std.proofs.Common.{ap, arith, length, rules, take, ◌∙◌}
use Rattle.std.proofs.lemmas.List.{length-take-le}
use Rattle.bitpack_sets.specs.Sets.{body}
use Rattle.bitpack_queries.proofs.lemmas.two.AnswerLaws.{meets_same}
use Rattle.bitpack_queries.proofs.lemmas.two.GatherLaws.{follow_long, follow_nothing}
use Rattle.bitpack_queries.proofs.combining_sets.gathering.put_meeting.Goals as goal

pub returns-in-Some-clause-few : goal.returns-in-Some-clause-few
returns-in-Some-clause-few c = c.in-Some.ensures.small

pub returns-in-Some-clause-body : goal.returns-in-Some-clause-body
returns-in-Some-clause-body c = λ some. follow_long _ _ _ _ _ _ c.in-Some.ensures.body (search rules) c.put_body.ensures

pub returns-in-Some-clause-none : goal.returns-in-Some-clause-none
returns-in-Some-clause-none c = λ none. let some = c.in-Some.ensures.some in absurd (omega arith)

pub returns-clause-count : goal.returns-clause-count
returns-clause-count c =
    c.write_combined-count.ensures.count ∙ ap length (meets_same c.args.pair.now c.args.meeting _ _ c.body-a.ensures.lows c.body-b.ensures.lows)

pub returns-clause-body : goal.returns-clause-body
returns-clause-body c = λ some.
    follow_long (take c.write_combined-count.result.1 c.write_combined-count.new.out) _ _ _ _ _
    (c.write_combined-count.ensures.written some ∙ ap body (meets_same c.args.pair.now c.args.meeting _ _ c.body-a.ensures.lows c.body-b.ensures.lows))
    (length-take-le c.write_combined-count.result.1 c.write_combined-count.new.out (omega (arith, c.write_combined-count.ensures.most))) c.put_body-2.ensures

pub returns-clause-none : goal.returns-clause-none
returns-clause-none c = λ none.
    let small = c.write_combined-count.ensures.small in
    follow_nothing (take c.write_combined-count.result.1 c.write_combined-count.new.out) _ _ _
    (length-take-le c.write_combined-count.result.1 c.write_combined-count.new.out (omega (arith, c.write_combined-count.ensures.most)) ∙ omega arith) c.put_body-2.ensures
