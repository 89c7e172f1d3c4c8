-- The first of 32 bytes are those of the slice.
use Rattle.std.proofs.Common.{List, ℕ, ◌++◌, ◌∙◌, ap, arith, drop, take}
use Rattle.bitpack_slices.proofs.lemmas.bits.RowLaws.{chunk_taken}
use Rattle.bitpack_slices.proofs.lemmas.bodies.CutLaws.{len_few}
use Rattle.bitpack_slices.proofs.lemmas.slices.SelectionLaws.{bytes_same}
use Rattle.bitpack_slices.proofs.slice.Slice.copy_bytes.Goals as goal

pub returns-clause-bytes : goal.returns-clause-bytes
returns-clause-bytes c =
    let slice = c.args.self in
    let few = len_few slice.count in
    let size = c.byte_len.ensures in
    let long = c.bytes_from.ensures.length in
    chunk_taken c.args.out.now c.bytes_from.result c.args.at c.byte_len.result (omega arith) (omega arith)
    ∙ ap (λ (l : List ℕ). take c.args.at c.args.out.now ++ l)
    (bytes_same slice.slices.now c.bytes_from.result slice.start c.byte_len.result (omega arith) long (omega (arith, slice.there.room)) c.bytes_from.ensures.bytes
    ∙ ap (λ (n : ℕ). take n (drop slice.start slice.slices.now)) size)
