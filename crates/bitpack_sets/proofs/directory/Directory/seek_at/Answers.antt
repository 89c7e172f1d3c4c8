-- The chunk at hand has the key, or another one, or none.
use Rattle.std.proofs.Common.{◌≡◌, ◌*◌, ◌/◌, ◌∙◌, ◌≤◌, ℕ, List, ap, arith, drop, max, slice_get, sym, take, true, false}
use Rattle.std.proofs.Math.Nat.{le-max_left, le-max_right, max-eq_right}
use Rattle.bitpack_sets.specs.Directory.{before, sum_at}
use Rattle.bitpack_sets.specs.Forms.{directory_ids}
use Rattle.bitpack_sets.specs.Places.{first_of}
use Rattle.bitpack_sets.specs.declared.directory.Directory.{Directory}
use Rattle.bitpack_sets.specs.declared.place.ChunkPlace.{ChunkPlace}
use Rattle.bitpack_slices.specs.Places.{before_of}
use Rattle.bitpack_slices.specs.Reads.{has, rank}
use Rattle.bitpack_slices.specs.Slices.{pairs_of}
use Rattle.bitpack_sets.proofs.lemmas.reads.ChunkReads.{key_within, rank_in, rank_not_in}
use Rattle.bitpack_sets.proofs.lemmas.reads.KeyLaws.{key_is}
use Rattle.bitpack_slices.proofs.ForCallers.{bytes_are}
use Rattle.bitpack_sets.proofs.directory.Directory.seek_at.Goals as goal

-- at the chunk of the place

pub seek_in-requires-clause-key : goal.seek_in-requires-clause-key
seek_in-requires-clause-key c = sym c.key_at.ensures ∙ c.if-key_at-key.true

pub returns-then-key_at-key-clause-after : goal.returns-then-key_at-key-clause-after
returns-then-key_at-key-clause-after c =
    let most = le-max_right (first_of c.args.self.chunks c.args.self.rest.now c.args.at) c.seek_in.result.1 in
    omega (arith, c.seek_in.ensures.after)

pub returns-then-key_at-key-clause-least : goal.returns-then-key_at-key-clause-least
returns-then-key_at-key-clause-least c =
    let most = le-max_right (first_of c.args.self.chunks c.args.self.rest.now c.args.at) (rank c.args.target (directory_ids c.args.self)) in
    omega (arith, c.seek_in.ensures.rank)

pub returns-then-key_at-key-clause-most : goal.returns-then-key_at-key-clause-most
returns-then-key_at-key-clause-most c = omega (arith, c.seek_in.ensures.rank)

-- at another chunk

pub seek_in-requires-then-there-clause-place : goal.seek_in-requires-then-there-clause-place
seek_in-requires-then-there-clause-place c = record {
  within = key_within c.args.self.count c.args.self.chunks (c.args.target / 65536) c.find-chunk.result.0 c.args.self.rest.now c.args.self.sound c.find-chunk.ensures.chunk (sym c.find-chunk.ensures.there ∙ c.if-there.true);
  place = c.first.ensures.place _;
}

pub seek_in-requires-then-there-clause-key : goal.seek_in-requires-then-there-clause-key
seek_in-requires-then-there-clause-key c =
    let rest : List ℕ = c.args.self.rest.now in
    let found = sym c.find-chunk.ensures.there ∙ c.if-there.true in
    let within = key_within c.args.self.count c.args.self.chunks (c.args.target / 65536) c.find-chunk.result.0 rest c.args.self.sound c.find-chunk.ensures.chunk found in
    key_is c.args.self.count c.args.self.chunks (c.args.target / 65536) c.find-chunk.result.0 rest (bytes_are rest c.args.self.are_bytes) c.args.self.sound within c.find-chunk.ensures.chunk found

pub returns-then-there-clause-after : goal.returns-then-there-clause-after
returns-then-there-clause-after c =
    let most = le-max_right (first_of c.args.self.chunks c.args.self.rest.now c.args.at) c.seek_in-then-there.result.1 in
    omega (arith, c.seek_in-then-there.ensures.after)

pub returns-then-there-clause-least : goal.returns-then-there-clause-least
returns-then-there-clause-least c =
    let start : ChunkPlace = record { chunk = c.find-chunk.result.0; place = c.first.result } in
    let most = le-max_right (first_of c.args.self.chunks c.args.self.rest.now start) (rank c.args.target (directory_ids c.args.self)) in
    omega (arith, c.seek_in-then-there.ensures.rank)

-- no id of the chunk is before its first place
from_first : (directory : Directory) (at start : ChunkPlace) (target position : ℕ) → start.chunk ≡ rank (target / 65536) (pairs_of (take (2 * directory.chunks) (drop 1 directory.rest.now)))
    → has (target / 65536) (pairs_of (take (2 * directory.chunks) (drop 1 directory.rest.now))) ≡ true → before_of start.place ≡ 0
    → position ≡ max (first_of directory.chunks directory.rest.now start) (rank target (directory_ids directory))
    → position ≤ max (first_of directory.chunks directory.rest.now at) (rank target (directory_ids directory))
from_first directory at start target position e h none is =
    let rest : List ℕ = directory.rest.now in
    let within = key_within directory.count directory.chunks (target / 65536) start.chunk rest directory.sound e h in
    let whole = rank_in directory.count directory.chunks target start.chunk rest (bytes_are rest directory.are_bytes) directory.sound within e h in
    let only = max-eq_right {n = first_of directory.chunks rest start} {m = rank target (directory_ids directory)} (omega arith) in
    let most = le-max_right (first_of directory.chunks rest at) (rank target (directory_ids directory)) in
    omega arith

pub returns-then-there-clause-most : goal.returns-then-there-clause-most
returns-then-there-clause-most c =
    from_first c.args.self c.args.at (record { chunk = c.find-chunk.result.0; place = c.first.result }) c.args.target c.seek_in-then-there.result.1 c.find-chunk.ensures.chunk
    (sym c.find-chunk.ensures.there ∙ c.if-there.true) c.first.ensures.before c.seek_in-then-there.ensures.rank

-- between chunks

rank_is : (directory : Directory) (chunk target position : ℕ) → chunk ≤ directory.chunks → chunk ≡ rank (target / 65536) (pairs_of (take (2 * directory.chunks) (drop 1 directory.rest.now)))
    → position ≡ before (sum_at directory.chunks directory.rest.now) chunk → has (target / 65536) (pairs_of (take (2 * directory.chunks) (drop 1 directory.rest.now))) ≡ false
    → position ≡ rank target (directory_ids directory)
rank_is directory chunk target position few e b h =
    let rest : List ℕ = directory.rest.now in
    b ∙ sym (rank_not_in directory.count directory.chunks target chunk rest (bytes_are rest directory.are_bytes) directory.sound few e h)

pub returns-clause-after : goal.returns-clause-after
returns-clause-after c = le-max_left (first_of c.args.self.chunks c.args.self.rest.now c.args.at) c.count_before-before.result

pub returns-clause-least : goal.returns-clause-least
returns-clause-least c =
    let is = rank_is c.args.self c.find-chunk.result.0 c.args.target c.count_before-before.result c.find-chunk.ensures.few c.find-chunk.ensures.chunk c.count_before-before.ensures (sym c.find-chunk.ensures.there ∙ c.if-there.false) in
    omega arith

pub returns-clause-most : goal.returns-clause-most
returns-clause-most c =
    let is = rank_is c.args.self c.find-chunk.result.0 c.args.target c.count_before-before.result c.find-chunk.ensures.few c.find-chunk.ensures.chunk c.count_before-before.ensures (sym c.find-chunk.ensures.there ∙ c.if-there.false) in
    let most = le-max_right (first_of c.args.self.chunks c.args.self.rest.now c.args.at) (rank c.args.target (directory_ids c.args.self)) in
    omega arith

pub returns-clause-first : goal.returns-clause-first
returns-clause-first c = c.first_at.ensures ∙ ap (slice_get (directory_ids c.args.self)) (sym c.count_before-before.ensures)
