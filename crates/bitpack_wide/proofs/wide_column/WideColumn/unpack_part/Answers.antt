-- The values of a part are its differences and the least value.
use Rattle.std.proofs.Common.{◌≡◌, ◌+◌, ◌/◌, ◌%◌, ◌<◌, ◌∙◌, ℕ, List, ap, arith, cond, get_or, length, sym}
use Rattle.bitpack_slices.specs.Reads.{has}
use Rattle.bitpack_sets.specs.Reads as set_reads
use Rattle.bitpack_wide.specs.WideColumnReads.{difference_at, least_at}
use Rattle.bitpack_wide.specs.WideColumns.{chunks_of}
use Rattle.bitpack_wide.proofs.WideCopied.{copied, difference_read, value_fits, value_is_at}
use Rattle.bitpack_wide.proofs.WideStated.{stated_chunk, stated_parts}
use Rattle.bitpack_wide.proofs.wide_column.WideColumn.unpack_part.Goals as goal

pub read_chunk-chunk-requires-clause-parts : goal.read_chunk-chunk-requires-clause-parts
read_chunk-chunk-requires-clause-parts c = let self = c.args.self.now in stated_parts self.bytes.now self.count self.rest.now self.states

pub read_chunk-chunk-requires-clause-right : goal.read_chunk-chunk-requires-clause-right
read_chunk-chunk-requires-clause-right c =
    let self = c.args.self.now in
    stated_chunk self.bytes.now self.count self.rest.now self.states (c.args.from / 65536) (omega (arith, c.requires.some, c.requires.within))

pub add_least-requires-clause-fits : goal.add_least-requires-clause-fits
add_least-requires-clause-fits c = λ k lt.
    let self = c.args.self.now in
    let m : ℕ = c.args.from / 65536 in
    let j : ℕ = c.args.from % 65536 + k in
    let within : k < length c.args.out.now = omega (arith, lt, c.read_differences.auto.out) in
    let read = c.read_differences.ensures k lt ∙ difference_read self.count self.rest.now m c.read_chunk-chunk.result c.read_chunk-chunk.ensures j in
    let fits = value_fits self.bytes.now self.count self.rest.now self.are_bytes self.states m j (omega (arith, c.requires.some, c.requires.within)) (omega (arith, within, c.requires.few, c.requires.within)) in
    omega (arith, read, fits, c.read_chunk-chunk.ensures.least_is)

pub returns : goal.returns
returns c =
    let self = c.args.self.now in
    let m : ℕ = c.args.from / 65536 in
    let from : ℕ = c.args.from in
    let rest : List ℕ = self.rest.now in
    let part : List ℕ = c.read_differences.new.out in
    copied self.bytes.now self.count rest self.are_bytes self.states c.args.fill from (length c.args.out.now) c.add_least.new.out c.requires.within (c.add_least.auto.out ∙ c.read_differences.auto.out)
    (λ k lt.
    let within : k < length part = omega (arith, lt, c.read_differences.auto.out) in
    let j : ℕ = from % 65536 + k in
    let read : get_or part k 0 ≡ difference_at (chunks_of self.count) rest m j =
    c.read_differences.ensures k within ∙ difference_read self.count rest m c.read_chunk-chunk.result c.read_chunk-chunk.ensures j in
    c.add_least.ensures k within
    ∙ ap (λ (b : List ℕ). cond (has (from + k) (set_reads.ids_in b)) c.args.fill (c.read_chunk-chunk.result.least + get_or part k 0)) self.is_missing
    ∙ ap (λ (n : ℕ). cond (has (from + k) (Rattle.bitpack_wide.specs.WideColumnReads.missing_in (chunks_of self.count) rest)) c.args.fill (n + get_or part k 0)) c.read_chunk-chunk.ensures.least_is
    ∙ ap (λ (n : ℕ). cond (has (from + k) (Rattle.bitpack_wide.specs.WideColumnReads.missing_in (chunks_of self.count) rest)) c.args.fill (least_at rest m + n)) read
    ∙ sym (value_is_at c.args.fill self.count rest from k (omega (arith, lt, c.requires.few))))
