-- One slice is there alone, or bits of 1 are counted.
use Rattle.std.proofs.Common.{List, ℕ, ◌∙◌, ap, get_or, length, sym}
use Rattle.std.proofs.lemmas.List.{length-map}
use Rattle.bitpack_slices.proofs.lemmas.bits.CountLaws.{ones_counted}
use Rattle.bitpack_slices.proofs.lemmas.slices.SelectionLaws.{no_numbers, only_left, only_right}
use Rattle.bitpack_slices.proofs.slice.selecting.count_both.Goals as goal
use Rattle.bitpack_slices.specs.Selections.{bytes_of, numbers_at}
use Rattle.bitpack_slices.specs.Slices.{ones_from}

pub returns-then-retains_left : goal.returns-then-retains_left
returns-then-retains_left g c =
    let a = c.args.a in
    let b = c.args.b in
    sym a.there.slice.count_is
    ∙ ap length (only_left c.args.operation (numbers_at a) (numbers_at b) a.there.slice.rising
    (no_numbers b.slices.now b.start b.count c.if-b-eq0.true) (sym c.retains_left.ensures ∙ c.if-retains_left.true))

pub returns-then-retains_right : goal.returns-then-retains_right
returns-then-retains_right g c =
    let a = c.args.a in
    let b = c.args.b in
    sym b.there.slice.count_is
    ∙ ap length (only_right c.args.operation (numbers_at a) (numbers_at b) b.there.slice.rising
    (no_numbers a.slices.now a.start a.count c.if-a-eq0.true) (sym c.retains_right.ensures ∙ c.if-retains_right.true))

pub returns-then-not-retains_right : goal.returns-then-not-retains_right
returns-then-not-retains_right g c =
    let bytes : List ℕ = bytes_of c.fewer_first.result.0 in
    let matches = c.combined_matches.result in
    sym (ones_counted matches 32 c.combined_matches.type_inv) ∙ sym (length-map (ones_from matches 0 32) (λ i. get_or bytes i 0))
    ∙ ap length (c.combined_matches.ensures.numbers ∙ c.fewer_first.ensures.numbers)
