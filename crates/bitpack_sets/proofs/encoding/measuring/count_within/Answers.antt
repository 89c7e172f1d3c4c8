-- An id more is counted if the one so far after it has another quotient.
use Rattle.std.proofs.Common.{◌≡◌, ℕ, ◌+◌, ◌-◌, ◌/◌, List, length, get_or, take, drop, eqb, cond, sym, ap, arith, ◌∙◌, length-drop}
use Rattle.bitpack_sets.proofs.lemmas.written.CountedRuns.{lasts_are, lasts_few, lasts_more, step_few, step_is}
use Rattle.bitpack_slices.proofs.ForCallers.{tail_whole}
use Rattle.bitpack_sets.proofs.lemmas.written.RunLaws.{chunk_few, get_drop}
use Rattle.bitpack_sets.proofs.encoding.measuring.count_within.Goals as goal

pub returns-then-ids-most : goal.returns-then-ids-most
returns-then-ids-most c = sym (lasts_few c.args.most c.args.ids.now c.if-ids-most.true) ∙ lasts_are c.args.most c.args.ids.now c.requires.some c.requires.chunk

pub overflow_add-count : goal.overflow_add-count
overflow_add-count c =
    let i : ℕ = c.loop-index.index in
    let few = chunk_few c.args.ids.now c.requires.chunk in
    let one = step_few (get_or (take (length c.args.ids.now - c.args.most) (drop c.args.most c.args.ids.now)) i 0 / 256) (get_or c.args.ids.now i 0 / 256) in
    omega arith

pub loop-index-preserved : goal.loop-index-preserved
loop-index-preserved c =
    let i : ℕ = c.loop-index.index in
    let most : ℕ = c.args.most in
    let ids : List ℕ = c.args.ids.now in
    let later : List ℕ = take (length ids - most) (drop most ids) in
    let one = step_few (get_or later i 0 / 256) (get_or ids i 0 / 256) in
    let there : get_or later i 0 ≡ get_or ids (most + i) 0 = ap (λ (l : List ℕ). get_or l i 0) (tail_whole most ids) ∙ get_drop most i ids in
    let step = step_is (get_or later i 0 / 256) (get_or ids i 0 / 256) ∙ ap (λ n. cond (eqb (n / 256) (get_or ids i 0 / 256)) 0 1) there in
    let next = lasts_more most i ids c.requires.some (omega arith) in
    record { few = omega arith; counted = omega arith }

pub returns : goal.returns
returns c =
    let i : ℕ = c.loop-index.index in
    let most : ℕ = c.args.most in
    let ids : List ℕ = c.args.ids.now in
    let size = length-drop i ids in
    let rest = lasts_few most (drop i ids) (omega arith) in
    let whole = lasts_are most ids c.requires.some c.requires.chunk in
    omega arith
