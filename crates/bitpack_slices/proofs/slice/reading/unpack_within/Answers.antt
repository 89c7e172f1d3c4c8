-- As many numbers are written as the slice has.
use Rattle.std.proofs.Common.{ℕ, List, ◌≡◌, ◌+◌, ◌≤◌, ◌++◌, map, take, length, ap, arith, cond, ltb, length-append}
use Rattle.std.proofs.lemmas.List.{length-map, length-take-le}
use Rattle.std.proofs.lemmas.Bool.{cond_below}
use Rattle.bitpack_slices.proofs.lemmas.bytes.BytesWritten.{few_set}
use Rattle.bitpack_slices.specs.Slices.{slice_numbers}
use Rattle.bitpack_slices.proofs.slice.reading.unpack_within.Goals as goal

-- where they end
end_is : (n at count base : ℕ) (new old xs : List ℕ) → n ≤ length new → at ≤ length old → take n new ≡ take at old ++ map (λ i. base + i) xs → length xs ≡ count → n ≡ at + count
end_is n at count base new old xs room within e size =
    let a = length-take-le n new room in
    let b = length-take-le at old within in
    let c = length-append (take at old) (map (λ i. base + i) xs) in
    let d = length-map xs (λ i. base + i) in
    let f = ap length e in
    omega arith

pub returns-then-out-at-ge256-clause-end : goal.returns-then-out-at-ge256-clause-end
returns-then-out-at-ge256-clause-end c =
    end_is c.unpack_slice.result c.args.at c.args.count c.args.base c.unpack_slice.new.out c.args.out.now (slice_numbers c.args.count c.args.bytes.now)
    (let few = c.unpack_slice.ensures.few in let same = c.unpack_slice.auto.out in omega arith) (omega arith) c.unpack_slice.ensures.values c.requires.slice.count_is

pub returns-then-count-lt32-clause-end : goal.returns-then-count-lt32-clause-end
returns-then-count-lt32-clause-end c =
    let size = cond_below c.args.count 32 c.args.count (cond (ltb c.args.count 256) 32 0) c.if-count-lt32.true in
    omega arith

pub returns-then-count-lt32-clause-values : goal.returns-then-count-lt32-clause-values
returns-then-count-lt32-clause-values c =
    few_set c.args.base c.args.count c.unpack_bytes.result (take c.args.at c.args.out.now) c.args.bytes.now c.unpack_bytes.new.out c.if-count-lt32.true c.unpack_bytes.ensures.values
