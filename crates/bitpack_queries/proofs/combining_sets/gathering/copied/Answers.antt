-- The chunk of one set alone is the chunk of the answer.
use Rattle.std.proofs.Common.{ap, length, sym, ◌∙◌}
use Rattle.bitpack_sets.specs.Sets.{body}
use Rattle.bitpack_queries.proofs.lemmas.two.LoneLaws.{lone_first, lone_second, some_then}
use Rattle.bitpack_queries.proofs.combining_sets.gathering.copied.Goals as goal

pub returns-then-retains_left-clause-count : goal.returns-then-retains_left-clause-count
returns-then-retains_left-clause-count c =
    some_then _ _ _ _ c.coded.result
    (λ coded chunks rising is. is ∙ ap length (lone_first c.args.pair.now c.args.meeting c.requires.meeting.a_span chunks c.if-a.true c.if-b.true (sym (c.retains_left.ensures) ∙ c.if-retains_left.true) rising))
    c.coded.ensures.chunks c.coded.ensures.rising c.coded.ensures.count

pub returns-then-retains_left-clause-body : goal.returns-then-retains_left-clause-body
returns-then-retains_left-clause-body c =
    some_then _ _ _ _ c.coded.result
    (λ coded chunks rising is. is ∙ ap body (lone_first c.args.pair.now c.args.meeting c.requires.meeting.a_span chunks c.if-a.true c.if-b.true (sym (c.retains_left.ensures) ∙ c.if-retains_left.true) rising))
    c.coded.ensures.chunks c.coded.ensures.rising c.coded.ensures.body

pub returns-then-retains_right-clause-count : goal.returns-then-retains_right-clause-count
returns-then-retains_right-clause-count c =
    some_then _ _ _ _ c.coded-then-retains_right.result
    (λ coded chunks rising is. is ∙ ap length (lone_second c.args.pair.now c.args.meeting c.requires.meeting.b_span chunks c.if-b-2.true c.if-a-2.true (sym (c.retains_right.ensures) ∙ c.if-retains_right.true) rising))
    c.coded-then-retains_right.ensures.chunks c.coded-then-retains_right.ensures.rising c.coded-then-retains_right.ensures.count

pub returns-then-retains_right-clause-body : goal.returns-then-retains_right-clause-body
returns-then-retains_right-clause-body c =
    some_then _ _ _ _ c.coded-then-retains_right.result
    (λ coded chunks rising is. is ∙ ap body (lone_second c.args.pair.now c.args.meeting c.requires.meeting.b_span chunks c.if-b-2.true c.if-a-2.true (sym (c.retains_right.ensures) ∙ c.if-retains_right.true) rising))
    c.coded-then-retains_right.ensures.chunks c.coded-then-retains_right.ensures.rising c.coded-then-retains_right.ensures.body
