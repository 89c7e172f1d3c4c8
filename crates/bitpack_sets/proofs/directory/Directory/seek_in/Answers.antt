-- The ids of the chunks before, and those of its own; then the id there, or the first of the next chunk.
use Rattle.std.proofs.Common.{◌≡◌, ◌+◌, ◌*◌, ◌/◌, ◌%◌, ◌∙◌, ◌<◌, ◌≤◌, ℕ, List, ap, arith, get_or, length, max, slice_get, subst, sym}
use Rattle.std.proofs.lemmas.Option.{get_or_from_slice_get, slice_get_within}
use Rattle.bitpack_sets.specs.Directory.{before, body_at, body_numbers_of, count_at, key_at, sum_at}
use Rattle.bitpack_sets.specs.Forms.{directory_ids}
use Rattle.bitpack_sets.specs.Places.{first_of}
use Rattle.bitpack_slices.specs.Lows.{lows}
use Rattle.bitpack_slices.specs.Places.{IsPlace, before_of}
use Rattle.bitpack_slices.specs.Reads.{rank}
use Rattle.bitpack_sets.proofs.lemmas.reads.ChunkReads.{count_next, ranked_in}
use Rattle.bitpack_sets.proofs.lemmas.reads.KeyLaws.{chunk_found, none_there}
use Rattle.bitpack_sets.proofs.lemmas.reads.SoughtLaws.{held_rank, key_found}
use Rattle.bitpack_sets.specs.declared.directory.Directory.{Directory}
use Rattle.bitpack_sets.specs.declared.place.ChunkPlace.{ChunkPlace}
use Rattle.bitpack_slices.proofs.ForCallers.{bytes_are}
use Rattle.bitpack_sets.proofs.directory.Directory.seek_in.Goals as goal

pub seek_at-left-requires-clause-place : goal.seek_at-left-requires-clause-place
seek_at-left-requires-clause-place c = subst (λ (l : List ℕ). IsPlace l c.args.at.place) (sym c.lows.ensures.counts) c.requires.place.place

pub overflow_add-result : goal.overflow_add-result
overflow_add-result c =
    let few = (c.args.self.sound.entries c.args.at.chunk c.requires.place.within).few in
    omega (arith, c.seek_at-left.ensures.within, c.lows.ensures.count)

pub overflow_add-result-in-None : goal.overflow_add-result-in-None
overflow_add-result-in-None c =
    let few = (c.args.self.sound.entries c.args.at.chunk c.requires.place.within).few in
    omega (arith, c.seek_at-left.ensures.within, c.lows.ensures.count)

pub returns-in-Some-clause-place : goal.returns-in-Some-clause-place
returns-in-Some-clause-place c = record { within = c.requires.place.within; place = subst (λ (l : List ℕ). IsPlace l c.seek_at-left.result.0) c.lows.ensures.counts c.seek_at-left.ensures.place }

pub returns-in-None-clause-place : goal.returns-in-None-clause-place
returns-in-None-clause-place c = record { within = c.requires.place.within; place = subst (λ (l : List ℕ). IsPlace l c.seek_at-left.result.0) c.lows.ensures.counts c.seek_at-left.ensures.place }

-- the rank of the number, from the place on
rank_is : (directory : Directory) (at : ChunkPlace) (x from left : ℕ) (numbers : List ℕ) → at.chunk < directory.chunks → key_at directory.rest.now at.chunk ≡ x / 65536
    → from ≡ before (sum_at directory.chunks directory.rest.now) at.chunk
    → numbers ≡ body_numbers_of (count_at directory.chunks directory.rest.now at.chunk) (body_at directory.chunks directory.rest.now at.chunk)
    → left ≡ max (before_of at.place) (rank (x % 65536) numbers) → from + left ≡ max (first_of directory.chunks directory.rest.now at) (rank x (directory_ids directory))
rank_is directory at x from left numbers lt e f n l =
    let rest : List ℕ = directory.rest.now in
    let are = bytes_are rest directory.are_bytes in
    let found = key_found directory.count directory.chunks (x / 65536) at.chunk rest are directory.sound lt e in
    let whole = ranked_in directory.count directory.chunks x at.chunk from (rank (x % 65536) numbers) rest are directory.sound found.0 found.1 f (ap (rank (x % 65536)) n) in
    held_rank from (before_of at.place) left (rank (x % 65536) numbers) (first_of directory.chunks rest at) (rank x (directory_ids directory)) l (omega arith) whole

pub returns-in-Some-clause-rank : goal.returns-in-Some-clause-rank
returns-in-Some-clause-rank c =
    rank_is c.args.self c.args.at c.args.target c.count_before-before.result c.seek_at-left.result.1 (lows c.lows.result) c.requires.place.within c.requires.key c.count_before-before.ensures c.lows.ensures.lows c.seek_at-left.ensures.rank

pub returns-in-None-clause-rank : goal.returns-in-None-clause-rank
returns-in-None-clause-rank c =
    rank_is c.args.self c.args.at c.args.target c.count_before-before.result c.seek_at-left.result.1 (lows c.lows.result) c.requires.place.within c.requires.key c.count_before-before.ensures c.lows.ensures.lows c.seek_at-left.ensures.rank

pub returns-in-Some-clause-first : goal.returns-in-Some-clause-first
returns-in-Some-clause-first c =
    let rest : List ℕ = c.args.self.rest.now in
    let chunks : ℕ = c.args.self.chunks in
    let m : ℕ = c.args.at.chunk in
    let left : ℕ = c.seek_at-left.result.1 in
    let found = sym c.seek_at-left.ensures.first ∙ c.in-Some.is in
    let less = slice_get_within (lows c.lows.result) left c.in-Some.low found in
    let size = c.lows.ensures.count in
    let low = sym (get_or_from_slice_get (lows c.lows.result) left c.in-Some.low 0 found) ∙ ap (λ (l : List ℕ). get_or l left 0) c.lows.ensures.lows in
    chunk_found _ c.args.self.count chunks m (c.count_before-before.result + left) left rest (bytes_are rest c.args.self.are_bytes) c.args.self.sound c.requires.place.within (omega arith) (ap (λ (n : ℕ). n + left) (sym c.count_before-before.ensures))
    (ap (λ (n : ℕ). c.args.target / 65536 * 65536 + n) low ∙ ap (λ (n : ℕ). n * 65536 + get_or (body_numbers_of (count_at chunks rest m) (body_at chunks rest m)) left 0) (sym c.requires.key))

-- the chunk has no id that large
pub returns-in-None-clause-first : goal.returns-in-None-clause-first
returns-in-None-clause-first c =
    let rest : List ℕ = c.args.self.rest.now in
    let chunks : ℕ = c.args.self.chunks in
    let m : ℕ = c.args.at.chunk in
    let left : ℕ = c.seek_at-left.result.1 in
    let all : length (lows c.lows.result) ≤ left = none_there (lows c.lows.result) left (sym c.seek_at-left.ensures.first ∙ c.in-None.is) in
    let next = count_next c.args.self.count chunks m rest c.args.self.sound c.requires.place.within c.count_before-before.result c.count_before-before.ensures in
    let past : before (sum_at chunks rest) (m + 1) ≡ c.count_before-before.result + left = omega (arith, c.lows.ensures.count, c.seek_at-left.ensures.within) in
    c.first_at.ensures ∙ ap (slice_get (directory_ids c.args.self)) past
