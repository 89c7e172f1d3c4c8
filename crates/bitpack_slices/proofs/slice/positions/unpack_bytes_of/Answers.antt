-- The items from the index on are those of the window.
use Rattle.std.proofs.Common.{List, ℕ, ◌++◌, ◌∙◌, ap, arith, take}
use Rattle.bitpack_slices.proofs.lemmas.bits.OnesLaws.{ones_few}
use Rattle.bitpack_slices.proofs.lemmas.bits.RowLaws.{window_taken}
use Rattle.bitpack_slices.proofs.slice.positions.unpack_bytes_of.Goals as goal

pub returns-clause-values : goal.returns-clause-values
returns-clause-values c =
    let few = ones_few c.args.word 0 64 in
    window_taken c.args.out.now c.unpack_window.new.window c.args.at _ c.unpack_window.result (omega (arith, c.requires.room))
    (omega (arith, few, c.unpack_window.ensures.count, c.unpack_window.auto.window, c.requires.room))
    ∙ ap (λ (l : List ℕ). take c.args.at c.args.out.now ++ l) c.unpack_window.ensures.values
