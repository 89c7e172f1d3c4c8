-- A set in chunks has a chunk.
use Rattle.std.proofs.Common.{◌/◌, Bool, ap, arith, cond, length}
use Rattle.std.proofs.lemmas.Bool.{ne_eqb}
use Rattle.bitpack_sets.proofs.chunks.Chunks.new.Goals as goal

pub returns-clause-places : goal.returns-clause-places
returns-clause-places c =
    ap (λ (b : Bool). cond b (length c.args.directory.rest.now / 4) c.args.directory.chunks)
    (ne_eqb c.args.directory.chunks 0 (λ none. let some = c.args.directory.sound.some in absurd (omega arith)))
