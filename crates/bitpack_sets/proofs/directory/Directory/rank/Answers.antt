-- The ids of the chunks before that of the key, and those of its own.
use Rattle.std.proofs.Common.{◌/◌, ◌%◌, ◌∙◌, ℕ, List, ap, arith, sym}
use Rattle.bitpack_slices.specs.Reads.{rank}
use Rattle.bitpack_sets.proofs.lemmas.reads.ChunkReads.{key_within, rank_not_in, rank_small, ranked_in}
use Rattle.bitpack_slices.proofs.ForCallers.{bytes_are}
use Rattle.bitpack_sets.proofs.directory.Directory.rank.Goals as goal

pub returns-then-not-there : goal.returns-then-not-there
returns-then-not-there c =
    let rest : List ℕ = c.args.self.rest.now in
    c.count_before-before.ensures
    ∙ sym (rank_not_in c.args.self.count c.args.self.chunks c.args.id c.find-chunk.result.0 rest (bytes_are rest c.args.self.are_bytes) c.args.self.sound c.find-chunk.ensures.few c.find-chunk.ensures.chunk
    (sym c.find-chunk.ensures.there ∙ c.if-not-there.true))

pub lows-requires : goal.lows-requires
lows-requires c = record {
  within = key_within c.args.self.count c.args.self.chunks (c.args.id / 65536) c.find-chunk.result.0 c.args.self.rest.now c.args.self.sound c.find-chunk.ensures.chunk (sym c.find-chunk.ensures.there ∙ c.if-not-there.false);
}

pub overflow_add-result : goal.overflow_add-result
overflow_add-result c =
    let within = key_within c.args.self.count c.args.self.chunks (c.args.id / 65536) c.find-chunk.result.0 c.args.self.rest.now c.args.self.sound c.find-chunk.ensures.chunk (sym c.find-chunk.ensures.there ∙ c.if-not-there.false) in
    let small = rank_small c.args.self.count c.args.self.chunks (c.args.id % 65536) c.find-chunk.result.0 c.rank.result c.args.self.rest.now c.args.self.sound within (c.rank.ensures ∙ ap (rank (c.args.id % 65536)) c.lows.ensures.lows) in
    omega arith

pub returns : goal.returns
returns c =
    let rest : List ℕ = c.args.self.rest.now in
    ranked_in c.args.self.count c.args.self.chunks c.args.id c.find-chunk.result.0 c.count_before-before.result c.rank.result rest (bytes_are rest c.args.self.are_bytes) c.args.self.sound c.find-chunk.ensures.chunk
    (sym c.find-chunk.ensures.there ∙ c.if-not-there.false) c.count_before-before.ensures (c.rank.ensures ∙ ap (rank (c.args.id % 65536)) c.lows.ensures.lows)
