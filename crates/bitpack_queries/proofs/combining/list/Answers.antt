-- The lists have the ids, or the chunks have them.
use Rattle.std.proofs.Common.{IfSome, List, ap, arith, length, subst, sym, ℕ}
use Rattle.bitpack_queries.proofs.lemmas.two.AnswerLaws.{answer_left}
use Rattle.bitpack_slices.specs.Follows.{Follow}
use Rattle.bitpack_queries.proofs.combining.list.Goals as goal
use Rattle.bitpack_sets.specs.Chunks.{ids_from}
use Rattle.bitpack_sets.specs.Opened.{ids}
use Rattle.bitpack_queries.specs.Pairs.{left}

pub returns-clause-written : goal.returns-clause-written
returns-clause-written c =
    subst (λ (numbers : List ℕ). IfSome c.write_chunks.result (λ count. Follow numbers c.args.out.now c.write_chunks.new.out 0 count))
    (sym (answer_left c.args.operation (ids c.args.a.now) (ids_from c.chunks_of-x.result 0) (ids c.args.b.now) (ids_from c.chunks_of-y.result 0) (left c.new.result)
    c.chunks_of-x.ensures.ids c.chunks_of-y.ensures.ids c.new.ensures.left)) c.write_chunks.ensures.written

pub returns-clause-none : goal.returns-clause-none
returns-clause-none c = λ none.
    let same = ap length (answer_left c.args.operation (ids c.args.a.now) (ids_from c.chunks_of-x.result 0) (ids c.args.b.now) (ids_from c.chunks_of-y.result 0) (left c.new.result)
    c.chunks_of-x.ensures.ids c.chunks_of-y.ensures.ids c.new.ensures.left) in
    let more = c.write_chunks.ensures.none none in
    omega arith
