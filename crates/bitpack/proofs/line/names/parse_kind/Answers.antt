-- The name and the number of a sorted kind are its string.
use Rattle.std.proofs.Common.{Some, arith}
use Rattle.std.proofs.lemmas.Str.Pattern.{split_parts}
use Rattle.bitpack.proofs.line.names.parse_kind.Goals as goal

pub returns-in_ok-parse_word-in-sorted : goal.returns-in_ok-parse_word-in-sorted
returns-in_ok-parse_word-in-sorted c =
    let (split, before) = split_parts 58 c.args.string.now (Some (c.in_ok-name.name, c.in_ok-name.initial)) c.in_ok-name.ensures.cases (omega arith) in
    let (initial, word) = c.in_ok-parse_word-in-sorted.ensures in
    (rw (c.in-sorted.is, initial) at split, word)
