-- The ids of one chunk more are written.
use Rattle.std.proofs.Common.{◌≡◌, ◌-◌, ℕ, List, map, take, arith, ap, sym, ◌∙◌, refl}
use Rattle.std.specs.List.{range_with_len}
use Rattle.std.proofs.lemmas.List.{take_all}
use Rattle.bitpack_sets.specs.Directory.{chunk_at, ids_of_chunks}
use Rattle.bitpack_sets.proofs.lemmas.reads.ChunkReads.{chunks_done, chunks_next, count_next, count_within, sum_all}
use Rattle.bitpack_sets.proofs.directory.Directory.unpack.Goals as goal

pub bodies_start-start-requires-clause-some : goal.bodies_start-start-requires-clause-some
bodies_start-start-requires-clause-some c = let room = c.args.self.sound.directory.room in omega arith

pub loop-chunk-init : goal.loop-chunk-init
loop-chunk-init c =
    let all : c.args.self.chunks - 0 ≡ c.args.self.chunks = omega arith in
    record {
      long = refl;
      next = refl;
      values = ap (λ (n : ℕ). ids_of_chunks (map (chunk_at c.args.self.chunks c.args.self.rest.now) (range_with_len 0 n))) all;
    }

pub unpack_chunk-next-requires-clause-room : goal.unpack_chunk-next-requires-clause-room
unpack_chunk-next-requires-clause-room c =
    let inv = c.loop-chunk.invariant in
    let next = inv.next in
    let long = inv.long in
    let room = c.requires.room in
    let fits = count_within c.args.self.count c.args.self.chunks c.loop-chunk.chunk c.args.self.rest.now c.args.self.sound c.loop-chunk-test.true in
    omega arith

pub loop-chunk-preserved : goal.loop-chunk-preserved
loop-chunk-preserved c =
    let inv = c.loop-chunk.invariant in
    let rest : List ℕ = c.args.self.rest.now in
    let chunks : ℕ = c.args.self.chunks in
    let m : ℕ = c.loop-chunk.chunk in
    record {
      long = c.unpack_chunk-next.auto.out ∙ inv.long;
      next = c.unpack_chunk-next.ensures.end ∙ count_next c.args.self.count chunks m rest c.args.self.sound c.loop-chunk-test.true c.loop-chunk.next inv.next;
      values = chunks_next chunks m rest (take c.loop-chunk.next c.loop-chunk.out) (take c.unpack_chunk-next.result c.unpack_chunk-next.new.out) c.loop-chunk-test.true c.unpack_chunk-next.ensures.values inv.values;
    }

pub returns : goal.returns
returns c =
    let inv = c.loop-chunk.invariant in
    let next = inv.next in
    let long = inv.long in
    let room = c.requires.room in
    let all = sum_all c.args.self.count c.args.self.chunks c.loop-chunk.chunk c.args.self.rest.now c.args.self.sound (omega arith) in
    let whole : take c.loop-chunk.next c.loop-chunk.out ≡ c.loop-chunk.out = take_all c.loop-chunk.next c.loop-chunk.out (omega arith) in
    sym whole ∙ chunks_done c.args.self.chunks c.loop-chunk.chunk c.args.self.rest.now (take c.loop-chunk.next c.loop-chunk.out) (omega arith) inv.values
