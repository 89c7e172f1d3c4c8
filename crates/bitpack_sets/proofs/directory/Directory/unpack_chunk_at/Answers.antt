-- They are some of the numbers of its body.
use Rattle.std.proofs.Common.{◌<◌, ◌≤◌, ◌≡◌, ◌+◌, ◌*◌, ◌∙◌, ℕ, List, ap, arith, drop, length, map, subst, sym, take}
use Rattle.std.proofs.lemmas.List.{take_all}
use Rattle.bitpack_slices.specs.Places.{IsPlace}
use Rattle.bitpack_sets.specs.Directory.{body_at, body_numbers_of, count_at, key_at}
use Rattle.bitpack_sets.proofs.lemmas.reads.ChunkReads.{raised_same}
use Rattle.bitpack_sets.proofs.directory.Directory.unpack_chunk_at.Goals as goal

pub returns-then-out-own-clause-ids : goal.returns-then-out-own-clause-ids
returns-then-out-own-clause-ids c =
    let m : ℕ = c.args.at.chunk in
    let own : ℕ = count_at c.args.self.chunks c.args.self.rest.now m in
    let xs : List ℕ = body_numbers_of own (body_at c.args.self.chunks c.args.self.rest.now m) in
    let f : ℕ → ℕ = λ low. key_at c.args.self.rest.now m * 65536 + low in
    let n : ℕ = length c.args.out.now in
    let size : length xs ≡ own = (c.args.self.sound.bodies m c.requires.place.within).count_is in
    let here = c.requires.own in
    let all : n ≡ own = omega (arith, c.if-out-own.true) in
    let none : 0 ≡ c.args.from = (let few = c.requires.within in omega arith) in
    let long = c.unpack_chunk.auto.out in
    sym (take_all c.unpack_chunk.result c.unpack_chunk.new.out (omega (arith, c.unpack_chunk.ensures.end))) ∙ c.unpack_chunk.ensures.values
    ∙ ap (map f) (sym (take_all n xs (omega arith)) ∙ ap (λ (k : ℕ). take n (drop k xs)) none)

pub unpack_at-requires-clause-place : goal.unpack_at-requires-clause-place
unpack_at-requires-clause-place c = subst (λ (l : List ℕ). IsPlace l c.args.at.place) (sym c.lows.ensures.counts) c.requires.place.place

pub unpack_at-requires-clause-begin : goal.unpack_at-requires-clause-begin
unpack_at-requires-clause-begin c = subst (λ (n : ℕ). c.args.from < n) (sym c.lows.ensures.count) c.requires.begin

pub unpack_at-requires-clause-within : goal.unpack_at-requires-clause-within
unpack_at-requires-clause-within c = subst (λ (n : ℕ). c.args.from + length c.args.out.now ≤ n) (sym c.lows.ensures.count) c.requires.within

pub returns-clause-place : goal.returns-clause-place
returns-clause-place c = record { within = c.requires.place.within; place = subst (λ (l : List ℕ). IsPlace l c.unpack_at.result) c.lows.ensures.counts c.unpack_at.ensures.place }

pub returns-clause-ids : goal.returns-clause-ids
returns-clause-ids c =
    let n : ℕ = length c.args.out.now in
    c.unpack_at.ensures.numbers
    ∙ raised_same (c.key_at.result * 65536) (key_at c.args.self.rest.now c.args.at.chunk) _ _ (ap (λ (n : ℕ). n * 65536) c.key_at.ensures) (ap (λ (l : List ℕ). take n (drop c.args.from l)) c.lows.ensures.lows)
