-- One id more is written.
use Rattle.std.proofs.Common.{◌≡◌, ◌+◌, ◌<◌, ◌++◌, ◌∷◌, [], ℕ, List, arith, ap, get_or, length, refl, set, sym, take, length-set, ◌∙◌}
use Rattle.std.proofs.lemmas.List.{take_all, take_more, take_more_set}
use Rattle.bitpack_slices.specs.Slices.{quads_of}
use Rattle.bitpack_slices.proofs.ForCallers.{quads_len}
use Rattle.bitpack_sets.proofs.array.unpack_array.Goals as goal

more : (out xs : List ℕ) (i v : ℕ) → i < length out → i < length xs → v ≡ get_or xs i 0 → take i out ≡ take i xs → take (i + 1) (set out i v) ≡ take (i + 1) xs
more out xs i v h k e so_far =
    take_more_set out i v h ∙ ap (λ (l : List ℕ). l ++ (v ∷ [])) so_far ∙ ap (λ (n : ℕ). take i xs ++ (n ∷ [])) e ∙ sym (take_more xs i 0 k)

pub loop-position-init : goal.loop-position-init
loop-position-init c = record { long = refl; values = refl }

pub loop-position-preserved : goal.loop-position-preserved
loop-position-preserved c =
    let inv = c.loop-position.invariant in
    let long = inv.long in
    let size = quads_len c.args.rest.now in
    record {
      long = length-set c.loop-position.out _ _ ∙ long;
      values = more c.loop-position.out (quads_of c.args.rest.now) c.loop-position.position _ (omega arith) (omega (arith, c.requires)) c.id_at.ensures inv.values;
    }

pub returns : goal.returns
returns c =
    let inv = c.loop-position.invariant in
    let long = inv.long in
    let size = quads_len c.args.rest.now in
    sym (take_all c.loop-position.position c.loop-position.out (omega arith)) ∙ inv.values ∙ take_all c.loop-position.position (quads_of c.args.rest.now) (omega (arith, c.requires))
