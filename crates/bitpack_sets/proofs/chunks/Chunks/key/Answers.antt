-- The key of an id, or of a chunk.
use Rattle.std.proofs.Common.{◌∙◌, ◌/◌, ◌<◌, ℕ, ap, arith, subst, sym}
use Rattle.bitpack_slices.proofs.ForCallers.{bytes_are, quads_len}
use Rattle.bitpack_sets.proofs.lemmas.reads.PositionLaws.{chunk_key, from_array, from_chunks, positions_array, positions_chunks, walk}
use Rattle.bitpack_sets.proofs.lemmas.reads.WalkLaws.{array_key}
use Rattle.bitpack_sets.proofs.chunks.Chunks.key.Goals as goal
use Rattle.bitpack_sets.specs.Chunks.{first_key}

pub returns-then-position-len-clause-first : goal.returns-then-position-len-clause-first
returns-then-position-len-clause-first c = sym ((walk c.args.self.now).end c.args.position (omega (arith, c.len.ensures, c.if-position-len.true)))

pub returns-then-self-eq0-clause-first : goal.returns-then-self-eq0-clause-first
returns-then-self-eq0-clause-first c =
    let set = c.args.self.now in
    let none = c.if-self-eq0.true in
    let size = quads_len set.rest.now in
    let all = positions_array set none in
    let key = array_key c.args.position _ (omega (arith, c.len.ensures, c.if-position-len.false)) in
    ap (λ (n : ℕ). n / 65536) c.id_at.ensures ∙ sym (ap first_key (from_array set c.args.position none) ∙ key)

pub returns-else-self-eq0-clause-first : goal.returns-else-self-eq0-clause-first
returns-else-self-eq0-clause-first c =
    let set = c.args.self.now in
    let some = c.if-self-eq0.false in
    let all = positions_chunks set some in
    c.key_at.ensures ∙ sym (ap first_key (from_chunks set c.args.position some)
    ∙ chunk_key set.ids set.count set.rest.now (bytes_are set.rest.now set.are_bytes) (set.sound some) c.args.position (omega (arith, c.len.ensures, c.if-position-len.false)))

pub returns-then-position-len-clause-none : goal.returns-then-position-len-clause-none
returns-then-position-len-clause-none c x less = (walk c.args.self.now).under c.args.position x (subst (λ (n : ℕ). x / 65536 < n) (returns-then-position-len-clause-first c) less)

pub returns-then-self-eq0-clause-none : goal.returns-then-self-eq0-clause-none
returns-then-self-eq0-clause-none c x less = (walk c.args.self.now).under c.args.position x (subst (λ (n : ℕ). x / 65536 < n) (returns-then-self-eq0-clause-first c) less)

pub returns-else-self-eq0-clause-none : goal.returns-else-self-eq0-clause-none
returns-else-self-eq0-clause-none c x less = (walk c.args.self.now).under c.args.position x (subst (λ (n : ℕ). x / 65536 < n) (returns-else-self-eq0-clause-first c) less)
