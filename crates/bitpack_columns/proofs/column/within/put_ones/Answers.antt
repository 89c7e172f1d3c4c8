-- The next number is written, and stays if its bit is 1.
use Rattle.std.proofs.Common.{◌≡◌, ◌+◌, ◌<◌, ◌++◌, eqb, [], length, map, take, sym, ◌∙◌, ap, arith}
use Rattle.std.specs.Int.{bit_at}
use Rattle.std.proofs.lemmas.List.{append-nil, length-set}
use Rattle.bitpack_columns.specs.Searches.{ones_in}
use Rattle.bitpack_columns.proofs.FoundLaws.{no_ones, ones_passing, put_few, put_next, put_nothing}
use Rattle.bitpack_columns.proofs.RangeLaws.{passing}
use Rattle.bitpack_columns.proofs.column.within.put_ones.Goals as goal

pub loop-bit-init : goal.loop-bit-init
loop-bit-init c = put_nothing c.args.bits c.args.start c.args.at c.args.found.now

pub loop-bit-preserved : goal.loop-bit-preserved
loop-bit-preserved c =
    let here = c.loop-bit in
    let few = put_few c.args.bits c.args.start c.args.at c.args.found.now here.bit here.next here.found here.invariant in
    let room : here.next < length here.found = omega (arith, few, c.requires.room, c.loop-bit-test.true, here.invariant.long) in
    put_next c.args.bits c.args.start c.args.at c.args.found.now here.bit here.next here.found here.invariant room
    (length-set here.found here.next (c.args.start + here.bit) ∙ here.invariant.long)

pub bounds-found-next : goal.bounds-found-next
bounds-found-next c =
    let here = c.loop-bit in
    let few = put_few c.args.bits c.args.start c.args.at c.args.found.now here.bit here.next here.found here.invariant in
    omega (arith, few, c.requires.room, c.loop-bit-test.true)

pub returns-then-bits-eq0-clause-end : goal.returns-then-bits-eq0-clause-end
returns-then-bits-eq0-clause-end c =
    let none : ones_in c.args.bits ≡ [] = ap ones_in c.if-bits-eq0.true ∙ no_ones in
    omega (arith, ap length none)

pub returns-then-bits-eq0-clause-found : goal.returns-then-bits-eq0-clause-found
returns-then-bits-eq0-clause-found c =
    let none : ones_in c.args.bits ≡ [] = ap ones_in c.if-bits-eq0.true ∙ no_ones in
    sym (ap (λ xs. take c.args.at c.args.found.now ++ map (λ bit. c.args.start + bit) xs) none ∙ append-nil (take c.args.at c.args.found.now))

pub returns-clause-end : goal.returns-clause-end
returns-clause-end c =
    let all : c.loop-bit.bit ≡ 8 = omega (arith, c.loop-bit.auto.bit-end, c.loop-bit-test.false) in
    c.loop-bit.invariant.end ∙ ap (λ n. c.args.at + length (passing (λ bit. eqb (bit_at c.args.bits bit) 1) 0 n)) all
    ∙ ap (λ xs. c.args.at + length xs) (ones_passing c.args.bits)

pub returns-clause-found : goal.returns-clause-found
returns-clause-found c =
    let all : c.loop-bit.bit ≡ 8 = omega (arith, c.loop-bit.auto.bit-end, c.loop-bit-test.false) in
    c.loop-bit.invariant.written
    ∙ ap (λ n. take c.args.at c.args.found.now ++ map (λ bit. c.args.start + bit) (passing (λ bit. eqb (bit_at c.args.bits bit) 1) 0 n)) all
    ∙ ap (λ xs. take c.args.at c.args.found.now ++ map (λ bit. c.args.start + bit) xs) (ones_passing c.args.bits)
