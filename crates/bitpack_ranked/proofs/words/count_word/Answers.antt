-- A document has the word exactly if the set has its id.
use Rattle.std.proofs.Common.{◌≡◌, false, true, refl, sym, ap, ◌∙◌}
use Rattle.bitpack_slices.specs.Reads.{has}
use Rattle.bitpack_ranked.specs.Ranked.{has_word}
use Rattle.bitpack_ranked.proofs.PositionLemmas.{has_position}
use Rattle.bitpack_ranked.proofs.words.count_word.Goals as goal

pub returns-then-contains : goal.returns-then-contains
returns-then-contains g c =
    let word = g.T.AsTerm.its_word c.args.term.now in
    let has : has_word c.args.id word ≡ true =
    sym (has_position word.ids c.args.id) ∙ ap (λ xs. has c.args.id xs) (sym c.ids.ensures) ∙ sym c.contains.ensures ∙ c.if-contains.true in
    rw has refl

pub returns-else-contains : goal.returns-else-contains
returns-else-contains g c =
    let word = g.T.AsTerm.its_word c.args.term.now in
    let lacks : has_word c.args.id word ≡ false =
    sym (has_position word.ids c.args.id) ∙ ap (λ xs. has c.args.id xs) (sym c.ids.ensures) ∙ sym c.contains.ensures ∙ c.if-contains.false in
    rw lacks refl
