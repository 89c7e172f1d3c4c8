-- The ids of the chunks before that of the key, and those of its own; then the id there, or the first of the next chunk.
use Rattle.std.proofs.Common.{◌≡◌, ◌+◌, ◌*◌, ◌/◌, ◌%◌, ◌∙◌, ◌≤◌, ℕ, List, ap, arith, get_or, length, slice_get, sym}
use Rattle.std.proofs.lemmas.Option.{get_or_from_slice_get, slice_get_within}
use Rattle.bitpack_sets.specs.Directory.{before, body_at, body_numbers_of, count_at, sum_at}
use Rattle.bitpack_sets.specs.Forms.{directory_ids}
use Rattle.bitpack_slices.specs.Lows.{lows}
use Rattle.bitpack_slices.specs.Reads.{rank}
use Rattle.bitpack_sets.proofs.lemmas.reads.ChunkReads.{count_next, key_within, rank_not_in, rank_small, ranked_in}
use Rattle.bitpack_sets.proofs.lemmas.reads.KeyLaws.{chunk_found, key_is, none_there}
use Rattle.bitpack_slices.proofs.ForCallers.{bytes_are, rank_le}
use Rattle.bitpack_sets.proofs.directory.Directory.seek.Goals as goal

pub returns-then-not-there-clause-rank : goal.returns-then-not-there-clause-rank
returns-then-not-there-clause-rank c =
    let rest : List ℕ = c.args.self.rest.now in
    c.count_before-before.ensures
    ∙ sym (rank_not_in c.args.self.count c.args.self.chunks c.args.target c.find-chunk.result.0 rest (bytes_are rest c.args.self.are_bytes) c.args.self.sound c.find-chunk.ensures.few c.find-chunk.ensures.chunk
    (sym c.find-chunk.ensures.there ∙ c.if-not-there.true))

pub lows-requires : goal.lows-requires
lows-requires c = record {
  within = key_within c.args.self.count c.args.self.chunks (c.args.target / 65536) c.find-chunk.result.0 c.args.self.rest.now c.args.self.sound c.find-chunk.ensures.chunk (sym c.find-chunk.ensures.there ∙ c.if-not-there.false);
}

pub overflow_add-result : goal.overflow_add-result
overflow_add-result c =
    let within = key_within c.args.self.count c.args.self.chunks (c.args.target / 65536) c.find-chunk.result.0 c.args.self.rest.now c.args.self.sound c.find-chunk.ensures.chunk (sym c.find-chunk.ensures.there ∙ c.if-not-there.false) in
    let small = rank_small c.args.self.count c.args.self.chunks (c.args.target % 65536) c.find-chunk.result.0 c.seek-left.result.0 c.args.self.rest.now c.args.self.sound within (c.seek-left.ensures.rank ∙ ap (rank (c.args.target % 65536)) c.lows.ensures.lows) in
    omega arith

pub overflow_add-result-in-None : goal.overflow_add-result-in-None
overflow_add-result-in-None c =
    let within = key_within c.args.self.count c.args.self.chunks (c.args.target / 65536) c.find-chunk.result.0 c.args.self.rest.now c.args.self.sound c.find-chunk.ensures.chunk (sym c.find-chunk.ensures.there ∙ c.if-not-there.false) in
    let small = rank_small c.args.self.count c.args.self.chunks (c.args.target % 65536) c.find-chunk.result.0 c.seek-left.result.0 c.args.self.rest.now c.args.self.sound within (c.seek-left.ensures.rank ∙ ap (rank (c.args.target % 65536)) c.lows.ensures.lows) in
    omega arith

pub first_at-requires-in-None : goal.first_at-requires-in-None
first_at-requires-in-None c =
    let within = key_within c.args.self.count c.args.self.chunks (c.args.target / 65536) c.find-chunk.result.0 c.args.self.rest.now c.args.self.sound c.find-chunk.ensures.chunk (sym c.find-chunk.ensures.there ∙ c.if-not-there.false) in
    record { within = omega arith }

pub returns-in-Some-clause-rank : goal.returns-in-Some-clause-rank
returns-in-Some-clause-rank c =
    let rest : List ℕ = c.args.self.rest.now in
    ranked_in c.args.self.count c.args.self.chunks c.args.target c.find-chunk.result.0 c.count_before-before.result c.seek-left.result.0 rest (bytes_are rest c.args.self.are_bytes) c.args.self.sound c.find-chunk.ensures.chunk
    (sym c.find-chunk.ensures.there ∙ c.if-not-there.false) c.count_before-before.ensures (c.seek-left.ensures.rank ∙ ap (rank (c.args.target % 65536)) c.lows.ensures.lows)

pub returns-in-None-clause-rank : goal.returns-in-None-clause-rank
returns-in-None-clause-rank c =
    let rest : List ℕ = c.args.self.rest.now in
    ranked_in c.args.self.count c.args.self.chunks c.args.target c.find-chunk.result.0 c.count_before-before.result c.seek-left.result.0 rest (bytes_are rest c.args.self.are_bytes) c.args.self.sound c.find-chunk.ensures.chunk
    (sym c.find-chunk.ensures.there ∙ c.if-not-there.false) c.count_before-before.ensures (c.seek-left.ensures.rank ∙ ap (rank (c.args.target % 65536)) c.lows.ensures.lows)

pub returns-in-Some-clause-first : goal.returns-in-Some-clause-first
returns-in-Some-clause-first c =
    let rest : List ℕ = c.args.self.rest.now in
    let chunks : ℕ = c.args.self.chunks in
    let m : ℕ = c.find-chunk.result.0 in
    let left : ℕ = c.seek-left.result.0 in
    let are = bytes_are rest c.args.self.are_bytes in
    let there = sym c.find-chunk.ensures.there ∙ c.if-not-there.false in
    let within = key_within c.args.self.count chunks (c.args.target / 65536) m rest c.args.self.sound c.find-chunk.ensures.chunk there in
    let found = sym c.seek-left.ensures.first ∙ c.in-Some.is in
    let less = slice_get_within (lows c.lows.result) left c.in-Some.low found in
    let size = c.lows.ensures.count in
    let low = sym (get_or_from_slice_get (lows c.lows.result) left c.in-Some.low 0 found) ∙ ap (λ (l : List ℕ). get_or l left 0) c.lows.ensures.lows in
    let key = key_is c.args.self.count chunks (c.args.target / 65536) m rest are c.args.self.sound within c.find-chunk.ensures.chunk there in
    chunk_found _ c.args.self.count chunks m (c.count_before-before.result + left) left rest are c.args.self.sound within (omega arith) (ap (λ (n : ℕ). n + left) (sym c.count_before-before.ensures))
    (ap (λ (n : ℕ). c.args.target / 65536 * 65536 + n) low ∙ ap (λ (n : ℕ). n * 65536 + get_or (body_numbers_of (count_at chunks rest m) (body_at chunks rest m)) left 0) (sym key))

-- the chunk has no id that large
pub returns-in-None-clause-first : goal.returns-in-None-clause-first
returns-in-None-clause-first c =
    let rest : List ℕ = c.args.self.rest.now in
    let chunks : ℕ = c.args.self.chunks in
    let m : ℕ = c.find-chunk.result.0 in
    let left : ℕ = c.seek-left.result.0 in
    let there = sym c.find-chunk.ensures.there ∙ c.if-not-there.false in
    let within = key_within c.args.self.count chunks (c.args.target / 65536) m rest c.args.self.sound c.find-chunk.ensures.chunk there in
    let most = rank_le (c.args.target % 65536) (lows c.lows.result) in
    let all : length (lows c.lows.result) ≤ left = none_there (lows c.lows.result) left (sym c.seek-left.ensures.first ∙ c.in-None.is) in
    let next = count_next c.args.self.count chunks m rest c.args.self.sound within c.count_before-before.result c.count_before-before.ensures in
    let past : before (sum_at chunks rest) (m + 1) ≡ c.count_before-before.result + left = omega (arith, c.lows.ensures.count, c.seek-left.ensures.rank) in
    c.first_at-in-None.ensures ∙ ap (slice_get (directory_ids c.args.self)) past
