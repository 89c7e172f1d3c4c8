-- All bytes are among all numbers.
use Rattle.std.proofs.Common.{List, ℕ, ◌∙◌, ◌&&◌, ap, get_or, ltb, arith, refl}
use Rattle.bitpack_slices.proofs.lemmas.bytes.DecodeLaws.{rising_top}
use Rattle.bitpack_slices.proofs.lemmas.bodies.ReadLaws.{full_numbers, has_all}
use Rattle.bitpack_slices.proofs.lemmas.slices.SelectionLaws.{all_matches, few_there, mask_is}
use Rattle.bitpack_slices.proofs.slice.selecting.matches_of.Goals as goal
use Rattle.bitpack_slices.specs.Reads.{has}
use Rattle.bitpack_slices.specs.Selections.{bytes_of, numbers_at}

pub returns-else-b-lt256 : goal.returns-else-b-lt256
returns-else-b-lt256 c i small =
    let a = c.args.a in
    let own : List ℕ = bytes_of a in
    let others : List ℕ = numbers_at c.args.b in
    let few = few_there a.slices.now a.start a.count own a.there c.requires refl in
    all_matches _ own (λ x. has x others) (mask_is a.count own few.size few.few)
    (λ k less. let top = rising_top 0 256 k own few.rising less in
    ap (has (get_or own k 0)) (full_numbers c.args.b.count (bytes_of c.args.b) c.if-b-lt256.false) ∙ has_all (get_or own k 0) 0 256 (omega arith) (omega arith)) i small
    ∙ ap (λ (n : ℕ). ltb i n && has (get_or own i 0) others) few.size
