-- The position of a document that has the word is its rank.
use Rattle.std.proofs.Common.{◌≡◌, ◌<◌, true, get_or, length, sym, ap, ◌∙◌}
use Rattle.std.specs.Option.{unwrap_or}
use Rattle.std.proofs.lemmas.Bool.{ltb-true}
use Rattle.std.proofs.lemmas.Option.{unwrap_or-slice_get}
use Rattle.bitpack_columns.specs.Opened.{values}
use Rattle.bitpack_slices.specs.Reads.{rank}
use Rattle.bitpack_ranked.specs.Ranked.{has_word, position_of}
use Rattle.bitpack_ranked.specs.Scores.{part_at}
use Rattle.bitpack_ranked.proofs.PositionLemmas.{rank_position}
use Rattle.bitpack_ranked.proofs.WordSteps.{cond_one, cond_zero, part_is}
use Rattle.bitpack_ranked.proofs.adding.part_if.Goals as goal

pub returns-then-more-eq0 : goal.returns-then-more-eq0
returns-then-more-eq0 g c = λ classes e is.
    let word = g.T.AsTerm.its_word c.args.term.now in
    let id = c.args.id in
    sym (cond_zero (has_word id word) (part_at word.table (get_or word.counts (position_of word.ids id) 0) (get_or classes id 0)) (sym is ∙ c.if-more-eq0.true))

pub returns : goal.returns
returns g c = λ classes e is.
    let word = g.T.AsTerm.its_word c.args.term.now in
    let id = c.args.id in
    let has : has_word id word ≡ true = cond_one (has_word id word) (λ none. c.if-more-eq0.false (is ∙ none)) in
    let within : position_of word.ids id < length word.ids = ltb-true (position_of word.ids id) (length word.ids) has in
    let at : c.rank.result ≡ position_of word.ids id =
    c.rank.ensures ∙ ap (λ xs. rank id xs) c.ids.ensures ∙ rank_position word.ids (g.met.T.AsTerm.is_word c.args.term.now).set.rising id within in
    let counted : c.unwrap_or-count.result ≡ get_or word.counts (position_of word.ids id) 0 =
    c.unwrap_or-count.ensures ∙ ap (λ found. unwrap_or found 0) c.get.ensures ∙ unwrap_or-slice_get (values c.counts.result) c.rank.result 0
    ∙ ap (λ xs. get_or xs c.rank.result 0) c.counts.ensures ∙ ap (λ n. get_or word.counts n 0) at in
    c.part.ensures ∙ ap (λ table. part_at table c.unwrap_or-count.result c.args.class) c.parts.ensures
    ∙ part_is word classes id c.args.class c.unwrap_or-count.result has e counted
