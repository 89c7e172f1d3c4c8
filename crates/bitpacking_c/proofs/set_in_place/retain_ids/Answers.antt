-- The ids in front are those that the set has, or lacks.
use Rattle.std.proofs.Common.{◌≡◌, ◌∙◌, ℕ, List, length, pos, take, to_z, w64, sym, ap, refl, rules}
use Rattle.std.specs.List.{filter}
use Rattle.std.proofs.lemmas.List.{length-take-le}
use Rattle.std.proofs.lemmas.Option.{none-some}
use Rattle.bitpack_queries.specs.Retained.{retains}
use Rattle.bitpack_sets.specs.Reads.{ids_in}
use Rattle.bitpacking_c.proofs.set_in_place.retain_ids.Goals as goal

pub returns-in-Some : goal.returns-in-Some
returns-in-Some c =
    let found = c.first_unsorted.ensures.found in
    record {
      falls = λ some. (refl, refl);
      count = λ none. absurd (none-some _ (sym none ∙ sym found ∙ c.in-Some.is));
      retained = λ none. absurd (none-some _ (sym none ∙ sym found ∙ c.in-Some.is));
    }

pub returns-in-None : goal.returns-in-None
returns-in-None c =
    let found = c.first_unsorted.ensures.found in
    let retained : ℕ = c.retain_if.result in
    let before : List ℕ = c.args.ids.now in
    let after : List ℕ = c.retain_if.new.values in
    let all : List ℕ = ids_in c.args.view.now.bytes.now in
    let is : take retained after ≡ filter (retains c.args.there all) before =
    c.retain_if.ensures.retained ∙ ap (λ xs. filter (retains c.args.there xs) before) c.as_set.ensures in
    let count : retained ≡ length (filter (retains c.args.there all) before) = sym (length-take-le retained after c.retain_if.ensures.within) ∙ ap length is in
    let number : to_z w64 retained ≡ pos retained = search rules in
    record {
      falls = λ some. absurd (some (sym found ∙ c.in-None.is));
      count = λ none. number ∙ ap pos count;
      retained = λ none. ap (λ n. take n after) (sym count) ∙ is;
    }
