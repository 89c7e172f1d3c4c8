-- The id at position 0 of the chunk.
use Rattle.std.proofs.Common.{◌+◌, ◌*◌, ◌∙◌, ℕ, List, ap, arith, get_or}
use Rattle.bitpack_sets.specs.Directory.{before, key_at, sum_at}
use Rattle.bitpack_slices.proofs.ForCallers.{bytes_are}
use Rattle.bitpack_sets.proofs.lemmas.reads.KeyLaws.{chunk_found, none_found}
use Rattle.bitpack_sets.proofs.directory.Directory.first_at.Goals as goal

pub returns-then-chunk-self : goal.returns-then-chunk-self
returns-then-chunk-self c =
    let rest : List ℕ = c.args.self.rest.now in
    none_found c.args.self.count c.args.self.chunks c.args.chunk rest (bytes_are rest c.args.self.are_bytes) c.args.self.sound (omega (arith, c.if-chunk-self.true, c.requires))

pub select-requires-clause-within : goal.select-requires-clause-within
select-requires-clause-within c =
    let some = (c.args.self.sound.entries c.args.chunk c.if-chunk-self.false).some in
    omega (arith, c.lows.ensures.count)

pub returns : goal.returns
returns c =
    let rest : List ℕ = c.args.self.rest.now in
    let chunks : ℕ = c.args.self.chunks in
    let m : ℕ = c.args.chunk in
    let some = (c.args.self.sound.entries m c.if-chunk-self.false).some in
    chunk_found _ c.args.self.count chunks m (before (sum_at chunks rest) m) 0 rest (bytes_are rest c.args.self.are_bytes) c.args.self.sound c.if-chunk-self.false some (omega arith)
    (ap (λ (n : ℕ). n * 65536 + c.select.result) c.key_at-key.ensures ∙ ap (λ (n : ℕ). key_at rest m * 65536 + n) (c.select.ensures ∙ ap (λ (l : List ℕ). get_or l 0 0) c.lows.ensures.lows))
