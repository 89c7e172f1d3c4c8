-- What comes next is what the operation gives of the least high word, and then of those above it.
use Rattle.std.proofs.Common.{◌≡◌, ℕ, ◌+◌, ◌*◌, ◌^◌, ◌<◌, [], arith, cond, subst}
use Rattle.std.proofs.lemmas.List.{length-map}
use Rattle.bitpack_slices.proofs.ForCallers.{those_few}
use Rattle.bitpack_slices.specs.Operations.{apply}
use Rattle.bitpack_slices.specs.Operations as operations
use Rattle.bitpack_slices.specs.Reads.{has}
use Rattle.bitpack_sets.specs.Reads as set_reads
use Rattle.bitpack_wide.proofs.HeadLaws.{IsHead, both_there, continues_by, head_step, high_few, left_step, lows_few, one_there, right_step, word_away, word_head}
use Rattle.bitpack_wide.proofs.combining.words.combine_next.Goals as goal
use Rattle.bitpack_wide.specs.Combined.{answer}
use Rattle.bitpack_wide.specs.Directory.{body_at, high_at}
use Rattle.bitpack_wide.specs.inner.Merging.{ids_of_word, left_of}

pub combine_word-requires-clause-first : goal.combine_word-requires-clause-first
combine_word-requires-clause-first c =
    let a = c.args.a in
    let b = c.args.b in
    let i : ℕ = c.args.i in
    let j : ℕ = c.args.j in
    let (here, there) = both_there a.words b.words i j c.next_high-x.result c.next_high-y.result (λ h. (let e = c.next_high-x.ensures.within h in let few = high_few a i h in omega arith)) c.next_high-x.ensures.end
    (λ h. (let e = c.next_high-y.ensures.within h in let few = high_few b j h in omega arith)) c.next_high-y.ensures.end c.requires.some c.if-x-y.true in
    here

pub combine_word-requires-clause-second : goal.combine_word-requires-clause-second
combine_word-requires-clause-second c =
    let a = c.args.a in
    let b = c.args.b in
    let i : ℕ = c.args.i in
    let j : ℕ = c.args.j in
    let (here, there) = both_there a.words b.words i j c.next_high-x.result c.next_high-y.result (λ h. (let e = c.next_high-x.ensures.within h in let few = high_few a i h in omega arith)) c.next_high-x.ensures.end
    (λ h. (let e = c.next_high-y.ensures.within h in let few = high_few b j h in omega arith)) c.next_high-y.ensures.end c.requires.some c.if-x-y.true in
    there

pub returns-then-x-y-clause-first : goal.returns-then-x-y-clause-first
returns-then-x-y-clause-first c =
    let a = c.args.a in
    let b = c.args.b in
    let i : ℕ = c.args.i in
    let j : ℕ = c.args.j in
    let (here, there) = both_there a.words b.words i j c.next_high-x.result c.next_high-y.result (λ h. (let e = c.next_high-x.ensures.within h in let few = high_few a i h in omega arith)) c.next_high-x.ensures.end
    (λ h. (let e = c.next_high-y.ensures.within h in let few = high_few b j h in omega arith)) c.next_high-y.ensures.end c.requires.some c.if-x-y.true in
    omega arith

pub returns-then-x-y-clause-second : goal.returns-then-x-y-clause-second
returns-then-x-y-clause-second c =
    let a = c.args.a in
    let b = c.args.b in
    let i : ℕ = c.args.i in
    let j : ℕ = c.args.j in
    let (here, there) = both_there a.words b.words i j c.next_high-x.result c.next_high-y.result (λ h. (let e = c.next_high-x.ensures.within h in let few = high_few a i h in omega arith)) c.next_high-x.ensures.end
    (λ h. (let e = c.next_high-y.ensures.within h in let few = high_few b j h in omega arith)) c.next_high-y.ensures.end c.requires.some c.if-x-y.true in
    omega arith

pub returns-then-x-y-clause-few : goal.returns-then-x-y-clause-few
returns-then-x-y-clause-few c =
    let a = c.args.a in
    let b = c.args.b in
    let i : ℕ = c.args.i in
    let j : ℕ = c.args.j in
    let few = those_few (2 ^ 32) (λ x. apply c.args.operation (has x (set_reads.ids_in (body_at a.words a.rest.now i))) (has x (set_reads.ids_in (body_at b.words b.rest.now j)))) in
    let long = length-map (operations.answer c.args.operation (set_reads.ids_in (body_at a.words a.rest.now i)) (set_reads.ids_in (body_at b.words b.rest.now j))) (λ (low : ℕ). high_at a.rest.now i * 2 ^ 32 + low) in
    let end = c.combine_word.ensures.end_is in
    omega arith

pub returns-then-x-y-clause-continues : goal.returns-then-x-y-clause-continues
returns-then-x-y-clause-continues c =
    let a = c.args.a in
    let b = c.args.b in
    let i : ℕ = c.args.i in
    let j : ℕ = c.args.j in
    let (here, there) = both_there a.words b.words i j c.next_high-x.result c.next_high-y.result (λ h. (let e = c.next_high-x.ensures.within h in let few = high_few a i h in omega arith)) c.next_high-x.ensures.end
    (λ h. (let e = c.next_high-y.ensures.within h in let few = high_few b j h in omega arith)) c.next_high-y.ensures.end c.requires.some c.if-x-y.true in
    let high : ℕ = high_at a.rest.now i in
    let e = c.next_high-x.ensures.within here in
    let e' = c.next_high-y.ensures.within there in
    let same : high_at b.rest.now j ≡ high = omega (arith, c.if-x-y.true) in
    continues_by (ids_of_word (high, operations.answer c.args.operation (set_reads.ids_in (body_at a.words a.rest.now i)) (set_reads.ids_in (body_at b.words b.rest.now j)))) (answer c.args.operation (left_of a i) (left_of b j)) (answer c.args.operation (left_of a (i + 1)) (left_of b (j + 1)))
    c.args.out.now c.combine_word.new.out c.args.at c.combine_word.result
    (head_step c.args.operation high (set_reads.ids_in (body_at a.words a.rest.now i)) (set_reads.ids_in (body_at b.words b.rest.now j)) (left_of a i) (left_of b j) (left_of a (i + 1)) (left_of b (j + 1)) (high_few a i here) (word_head a i here)
    (subst (λ (h : ℕ). IsHead h (set_reads.ids_in (body_at b.words b.rest.now j)) (left_of b j) (left_of b (j + 1))) same (word_head b j there)))
    c.combine_word.ensures

pub returns-then-x-y-2-clause-few : goal.returns-then-x-y-2-clause-few
returns-then-x-y-2-clause-few c =
    let a = c.args.a in
    let b = c.args.b in
    let i : ℕ = c.args.i in
    let j : ℕ = c.args.j in
    let here = one_there a.words i c.next_high-x.result c.next_high-y.result c.next_high-x.ensures.end c.if-x-y-2.true c.next_high-y.ensures.few in
    let few = lows_few a i c.retains_left.result here in
    let end = c.copy_word.ensures.end_is in
    omega arith

pub returns-then-x-y-2-clause-continues : goal.returns-then-x-y-2-clause-continues
returns-then-x-y-2-clause-continues c =
    let a = c.args.a in
    let b = c.args.b in
    let i : ℕ = c.args.i in
    let j : ℕ = c.args.j in
    let here = one_there a.words i c.next_high-x.result c.next_high-y.result c.next_high-x.ensures.end c.if-x-y-2.true c.next_high-y.ensures.few in
    let high : ℕ = high_at a.rest.now i in
    let e = c.next_high-x.ensures.within here in
    let away = word_away b high j (high_few a i here) (λ h. (let e' = c.next_high-y.ensures.within h in omega (arith, c.if-x-y-2.true))) in
    continues_by (cond c.retains_left.result (ids_of_word (high, set_reads.ids_in (body_at a.words a.rest.now i))) []) (answer c.args.operation (left_of a i) (left_of b j)) (answer c.args.operation (left_of a (i + 1)) (left_of b j))
    c.args.out.now c.copy_word.new.out c.args.at c.copy_word.result
    (left_step c.args.operation c.retains_left.result high (set_reads.ids_in (body_at a.words a.rest.now i)) (left_of a i) (left_of b j) (left_of a (i + 1)) (high_few a i here) (word_head a i here) away c.retains_left.ensures)
    c.copy_word.ensures

pub returns-clause-few : goal.returns-clause-few
returns-clause-few c =
    let a = c.args.a in
    let b = c.args.b in
    let i : ℕ = c.args.i in
    let j : ℕ = c.args.j in
    let less : c.next_high-y.result < c.next_high-x.result = omega (arith, c.if-x-y.false, c.if-x-y-2.false) in
    let there = one_there b.words j c.next_high-y.result c.next_high-x.result c.next_high-y.ensures.end less c.next_high-x.ensures.few in
    let few = lows_few b j c.retains_right.result there in
    let end = c.copy_word-2.ensures.end_is in
    omega arith

pub returns-clause-continues : goal.returns-clause-continues
returns-clause-continues c =
    let a = c.args.a in
    let b = c.args.b in
    let i : ℕ = c.args.i in
    let j : ℕ = c.args.j in
    let less : c.next_high-y.result < c.next_high-x.result = omega (arith, c.if-x-y.false, c.if-x-y-2.false) in
    let there = one_there b.words j c.next_high-y.result c.next_high-x.result c.next_high-y.ensures.end less c.next_high-x.ensures.few in
    let high : ℕ = high_at b.rest.now j in
    let e = c.next_high-y.ensures.within there in
    let away = word_away a high i (high_few b j there) (λ h. (let e' = c.next_high-x.ensures.within h in omega arith)) in
    continues_by (cond c.retains_right.result (ids_of_word (high, set_reads.ids_in (body_at b.words b.rest.now j))) []) (answer c.args.operation (left_of a i) (left_of b j)) (answer c.args.operation (left_of a i) (left_of b (j + 1)))
    c.args.out.now c.copy_word-2.new.out c.args.at c.copy_word-2.result
    (right_step c.args.operation c.retains_right.result high (set_reads.ids_in (body_at b.words b.rest.now j)) (left_of a i) (left_of b j) (left_of b (j + 1)) (high_few b j there) away (word_head b j there) c.retains_right.ensures)
    c.copy_word-2.ensures
