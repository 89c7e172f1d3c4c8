-- The bounds of a chunk that has a value are those in the bytes.
use Rattle.std.proofs.Common.{◌+◌, ◌-◌, ◌*◌, ◌∙◌, ℕ, List, Some, ap, arith, min, subst, sym}
use Rattle.bitpack_slices.specs.Reads.{has}
use Rattle.bitpack_sets.specs.Reads as set_reads
use Rattle.bitpack_wide.specs.WideColumnFaults.{is_front}
use Rattle.bitpack_wide.specs.WideColumnSound.{HasEntries}
use Rattle.bitpack_wide.proofs.WideBounds.{bounds_after, bounds_empty, bounds_there}
use Rattle.bitpack_wide.proofs.WideStated.{stated_parts}
use Rattle.bitpack_wide.proofs.wide_column.WideColumn.bounds.Goals as goal

pub returns-then-chunk-chunks : goal.returns-then-chunk-chunks
returns-then-chunk-chunks c =
    let self = c.args.self.now in
    bounds_after self.bytes.now self.count self.rest.now self.are_bytes self.states c.args.chunk (omega (arith, c.if-chunk-chunks.true, c.chunks_of-chunks.ensures.chunks))

pub returns-then-are_missing : goal.returns-then-are_missing
returns-then-are_missing c =
    let self = c.args.self.now in
    let m : ℕ = c.args.chunk in
    bounds_empty self.bytes.now self.count self.rest.now self.are_bytes self.states m (omega (arith, c.if-chunk-chunks.false, c.chunks_of-chunks.ensures.chunks))
    (sym (ap (λ (b : List ℕ). is_front (λ k. has (65536 * m + k) (set_reads.ids_in b)) (min 65536 (self.count - 65536 * m))) self.is_missing)
    ∙ ap (is_front (λ k. has (65536 * m + k) (set_reads.ids_in (self.missing.bytes.now)))) (sym c.min.ensures) ∙ sym c.are_missing.ensures ∙ c.if-are_missing.true)

pub bound_at-least-requires-clause-tables : goal.bound_at-least-requires-clause-tables
bound_at-least-requires-clause-tables c =
    let self = c.args.self.now in
    subst (λ (n : ℕ). HasEntries n self.rest.now) (sym c.chunks_of-chunks.ensures.chunks) (stated_parts self.bytes.now self.count self.rest.now self.states).tables

pub bound_at-greatest-requires-clause-tables : goal.bound_at-greatest-requires-clause-tables
bound_at-greatest-requires-clause-tables c =
    let self = c.args.self.now in
    subst (λ (n : ℕ). HasEntries n self.rest.now) (sym c.chunks_of-chunks.ensures.chunks) (stated_parts self.bytes.now self.count self.rest.now self.states).tables

pub returns : goal.returns
returns c =
    let self = c.args.self.now in
    let m : ℕ = c.args.chunk in
    ap (λ (n : ℕ). Some (n, c.bound_at-greatest.result)) c.bound_at-least.ensures ∙ ap (λ (n : ℕ). Some (Rattle.bitpack_wide.specs.WideColumnReads.least_at self.rest.now m, n)) c.bound_at-greatest.ensures
    ∙ bounds_there self.bytes.now self.count self.rest.now self.are_bytes self.states m (omega (arith, c.if-chunk-chunks.false, c.chunks_of-chunks.ensures.chunks))
    (sym (ap (λ (b : List ℕ). is_front (λ k. has (65536 * m + k) (set_reads.ids_in b)) (min 65536 (self.count - 65536 * m))) self.is_missing)
    ∙ ap (is_front (λ k. has (65536 * m + k) (set_reads.ids_in (self.missing.bytes.now)))) (sym c.min.ensures) ∙ sym c.are_missing.ensures ∙ c.if-are_missing.false)
