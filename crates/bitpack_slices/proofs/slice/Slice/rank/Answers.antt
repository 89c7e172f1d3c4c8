-- Of a short slice the first bytes are compared, and in a full one all lower numbers are below.
use Rattle.std.proofs.Common.{List, ℕ, ◌≡◌, ◌<◌, ◌+◌, ◌∙◌, ap, arith, drop, get_or, length, refl, subst, sym, take}
use Rattle.std.proofs.lemmas.Bool.{cond_below}
use Rattle.bitpack_slices.proofs.lemmas.bodies.ReadLaws.{full_numbers, rank_all}
use Rattle.bitpack_slices.proofs.lemmas.slices.SelectionLaws.{bytes_same, few_there}
use Rattle.bitpack_slices.proofs.slice.Slice.rank.Goals as goal
use Rattle.bitpack_slices.specs.Bodies.{IsRising}
use Rattle.bitpack_slices.specs.Reads.{rank}
use Rattle.bitpack_slices.specs.Selections.{bytes_of, numbers_at}
use Rattle.bitpack_slices.specs.declared.slice.Slice.{Slice}

-- the first bytes that were read are the numbers of a short slice
own_are : (slice : Slice) (bytes : List ℕ) → slice.count < 32 → length bytes ≡ 32
    → ((i : ℕ) → i < 32 → slice.start + i < length slice.slices.now → get_or bytes i 0 ≡ get_or slice.slices.now (slice.start + i) 0) → take slice.count bytes ≡ numbers_at slice
own_are slice bytes few size loaded =
    let own = few_there slice.slices.now slice.start slice.count (bytes_of slice) slice.there few refl in
    let all = cond_below slice.count 32 slice.count _ few in
    bytes_same slice.slices.now bytes slice.start slice.count (omega arith) size (omega (arith, slice.there.room)) loaded
    ∙ ap (λ (n : ℕ). take n (drop slice.start slice.slices.now)) all ∙ sym own.numbers

pub rank_of_bytes-requires-clause-rising : goal.rank_of_bytes-requires-clause-rising
rank_of_bytes-requires-clause-rising c =
    subst (IsRising 0 256) (sym (own_are c.args.self c.bytes_from.result c.if-self-lt32.true c.bytes_from.ensures.length c.bytes_from.ensures.bytes)) c.args.self.there.slice.rising

pub returns-then-self-lt32 : goal.returns-then-self-lt32
returns-then-self-lt32 c =
    c.rank_of_bytes.ensures ∙ ap (rank c.args.number) (own_are c.args.self c.bytes_from.result c.if-self-lt32.true c.bytes_from.ensures.length c.bytes_from.ensures.bytes)

pub returns : goal.returns
returns c =
    let full = ap (rank c.args.number) (full_numbers c.args.self.count (bytes_of c.args.self) c.if-self-lt256.false) in
    let all = rank_all c.args.number 0 256 (omega arith) (omega (arith, c.ranges.number.fits)) in
    omega arith
