-- The bytes are as many as the encoding has.
use Rattle.std.proofs.Common.{◌≡◌, ◌++◌, ℕ, List, drop, length, ap, arith, rules, ◌∙◌}
use Rattle.std.proofs.lemmas.List.{length-take-le}
use Rattle.bitpack_sets.proofs.lemmas.encodings.EncodeLaws.{chunks_len_is}
use Rattle.bitpack_sets.proofs.appending.write_copied.Goals as goal
use Rattle.bitpack_sets.specs.Fronts.{front_ids}
use Rattle.bitpack_sets.specs.Sets.{in_chunks}

pub returns-then-out-len : goal.returns-then-out-len
returns-then-out-len c = let is = chunks_len_is (front_ids c.args.front.now) c.args.ids.now c.chunks_len-len.result c.len.result c.args.chunks c.args.size c.len.ensures.len c.requires.chunks c.requires.size c.chunks_len-len.ensures in record { len = search rules; ok = search rules; short = search rules; room = omega arith; unchanged = search rules }

pub write-requires-clause-room : goal.write-requires-clause-room
write-requires-clause-room c =
    length-take-le c.chunks_len-len.result c.args.out.now c.if-out-len.false
    ∙ chunks_len_is (front_ids c.args.front.now) c.args.ids.now c.chunks_len-len.result c.len.result c.args.chunks c.args.size c.len.ensures.len c.requires.chunks c.requires.size c.chunks_len-len.ensures

pub returns : goal.returns
returns c =
    let len : ℕ = c.chunks_len-len.result in
    let old : List ℕ = c.args.out.now in
    let all : List ℕ = front_ids c.args.front.now ++ c.args.ids.now in
    let is : len ≡ length (in_chunks all) =
    chunks_len_is (front_ids c.args.front.now) c.args.ids.now len c.len.result c.args.chunks c.args.size c.len.ensures.len c.requires.chunks c.requires.size c.chunks_len-len.ensures in
    record {
      len = is;
      ok = ap (λ (l : List ℕ). l ++ drop len old) c.write.ensures ∙ ap (λ n. in_chunks all ++ drop n old) is;
      short = search rules;
      room = search rules;
      unchanged = search rules;
    }
