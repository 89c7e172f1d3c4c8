-- The ids that were combined are one chunk.
use Rattle.std.proofs.Common.{◌≡◌, ◌∙◌, List, ap, arith, length, subst, sym, ℕ}
use Rattle.std.proofs.lemmas.List.{length-take-le}
use Rattle.bitpack_slices.specs.Lists.{body_lows}
use Rattle.bitpack_slices.specs.Operations.{combined}
use Rattle.bitpack_sets.proofs.lemmas.reads.KeyLaws.{lows_raised}
use Rattle.bitpack_sets.proofs.lemmas.written.CombinedLaws.{combined_rises, ids_written, raised_chunk}
use Rattle.bitpack_sets.proofs.encoding.combining.write_combined.Goals as goal
use Rattle.bitpack_sets.specs.Sets.{body}
use Rattle.bitpack_sets.specs.Written.{IsChunk, lows}

pub write_listed-requires-clause-chunk : goal.write_listed-requires-clause-chunk
write_listed-requires-clause-chunk c =
    let xs : List ℕ = combined 65536 c.args.operation (body_lows c.args.a) (body_lows c.args.b) in
    let rises = combined_rises c.args.operation (body_lows c.args.a) (body_lows c.args.b) in
    let few = c.if-count-le-MOST_LISTED.true in
    let long : length c.combine-count.new.out ≡ 4096 = c.combine-count.auto.out ∙ c.told-ids in
    let written = ids_written c.args.key c.combine-count.result xs c.args.ids.now c.combine-count.new.out c.combine-count.ensures (omega arith) in
    subst IsChunk (sym written.0) (raised_chunk c.args.key xs c.requires.key rises)

pub returns-then-count-le-MOST_LISTED-clause-written : goal.returns-then-count-le-MOST_LISTED-clause-written
returns-then-count-le-MOST_LISTED-clause-written c some =
    let xs : List ℕ = combined 65536 c.args.operation (body_lows c.args.a) (body_lows c.args.b) in
    let rises = combined_rises c.args.operation (body_lows c.args.a) (body_lows c.args.b) in
    let few = c.if-count-le-MOST_LISTED.true in
    let long : length c.combine-count.new.out ≡ 4096 = c.combine-count.auto.out ∙ c.told-ids in
    let written = ids_written c.args.key c.combine-count.result xs c.args.ids.now c.combine-count.new.out c.combine-count.ensures (omega arith) in
    let size = length-take-le c.combine-count.result c.combine-count.new.out (omega arith) in
    c.write_listed.ensures.written (omega arith) ∙ ap (λ (l : List ℕ). body (lows l)) written.0 ∙ ap body (lows_raised c.args.key 0 xs rises)
