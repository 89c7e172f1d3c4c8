-- The id is that of its chunk.
use Rattle.std.proofs.Common.{◌+◌, ◌-◌, ◌*◌, ◌∙◌, ℕ, List, ap, arith, get_or, sym}
use Rattle.bitpack_sets.specs.Directory.{key_at}
use Rattle.bitpack_slices.proofs.ForCallers.{bytes_are}
use Rattle.bitpack_sets.proofs.lemmas.reads.KeyLaws.{chunk_select}
use Rattle.bitpack_sets.proofs.directory.Directory.select.Goals as goal

pub select-requires-clause-within : goal.select-requires-clause-within
select-requires-clause-within c =
    let from = c.chunk_of-chunk.ensures.from in
    let below = c.chunk_of-chunk.ensures.below in
    let at = c.count_before.ensures in
    let size = c.lows.ensures.count in
    omega (arith, size)

pub returns : goal.returns
returns c =
    let rest : List ℕ = c.args.self.rest.now in
    let chunks : ℕ = c.args.self.chunks in
    let m : ℕ = c.chunk_of-chunk.result in
    let from = c.chunk_of-chunk.ensures.from in
    let below = c.chunk_of-chunk.ensures.below in
    let at = c.count_before.ensures in
    let left : ℕ = c.args.position - c.count_before.result in
    ap (λ (n : ℕ). n * 65536 + c.select.result) c.key_at-key.ensures ∙ ap (λ (n : ℕ). key_at rest m * 65536 + n) (c.select.ensures ∙ ap (λ (l : List ℕ). get_or l left 0) c.lows.ensures.lows)
    ∙ sym (chunk_select c.args.self.count chunks m c.args.position left rest (bytes_are rest c.args.self.are_bytes) c.args.self.sound c.chunk_of-chunk.ensures.chunk (omega arith) (omega arith))
