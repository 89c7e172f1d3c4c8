-- An id is looked up in the chunk of its key.
use Rattle.std.proofs.Common.{◌/◌, ◌%◌, ◌∙◌, ℕ, List, ap, sym}
use Rattle.bitpack_slices.specs.Reads.{has}
use Rattle.bitpack_sets.proofs.lemmas.reads.ChunkReads.{has_in, has_not_in, key_within}
use Rattle.bitpack_slices.proofs.ForCallers.{bytes_are}
use Rattle.bitpack_sets.proofs.directory.Directory.contains.Goals as goal

pub returns-then-not-there : goal.returns-then-not-there
returns-then-not-there c =
    let rest : List ℕ = c.args.self.rest.now in
    sym (has_not_in c.args.self.count c.args.self.chunks c.args.id rest (bytes_are rest c.args.self.are_bytes) c.args.self.sound (sym c.find-chunk.ensures.there ∙ c.if-not-there.true))

pub lows-requires : goal.lows-requires
lows-requires c = record {
  within = key_within c.args.self.count c.args.self.chunks (c.args.id / 65536) c.find-chunk.result.0 c.args.self.rest.now c.args.self.sound c.find-chunk.ensures.chunk (sym c.find-chunk.ensures.there ∙ c.if-not-there.false);
}

pub returns : goal.returns
returns c =
    let rest : List ℕ = c.args.self.rest.now in
    let chunks : ℕ = c.args.self.chunks in
    let m : ℕ = c.find-chunk.result.0 in
    let there = sym c.find-chunk.ensures.there ∙ c.if-not-there.false in
    let within = key_within c.args.self.count chunks (c.args.id / 65536) m rest c.args.self.sound c.find-chunk.ensures.chunk there in
    c.contains.ensures ∙ ap (has (c.args.id % 65536)) c.lows.ensures.lows
    ∙ sym (has_in c.args.self.count chunks c.args.id m rest (bytes_are rest c.args.self.are_bytes) c.args.self.sound within c.find-chunk.ensures.chunk there)
