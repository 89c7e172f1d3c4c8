-- A part that spells no number makes the item spell nothing.
use Rattle.std.proofs.Common.{Some, None, arith}
use Rattle.std.proofs.lemmas.Str.Pattern.{split_parts}
use Rattle.bitpack.proofs.Items.{item_parts, item_whole}
use Rattle.bitpack.proofs.line.values.parse_item.Goals as goal

pub returns-in_err-parse_word-in-None : goal.returns-in_err-parse_word-in-None
returns-in_err-parse_word-in-None c =
    let lacks = split_parts 42 c.args.string.now None c.in-None.ensures.cases (omega arith) in
    rw c.from_residual.ensures (λ item spelled.
    let (n, is) = item_whole c.args.string.now lacks item spelled in
    c.in_err-parse_word-in-None.ensures n is)

pub returns-in_err-parse_word-in-Some : goal.returns-in_err-parse_word-in-Some
returns-in_err-parse_word-in-Some c =
    let (split, lacks) = split_parts 42 c.args.string.now (Some (c.in-Some.value, c.in-Some.count)) c.in-Some.ensures.cases (omega arith) in
    rw c.from_residual-in_err-parse_word-in-Some.ensures (λ item spelled.
    let (value, count, word, counts) = item_parts _ _ _ split lacks item spelled in
    c.in_err-parse_word-in-Some.ensures value word)

pub returns-in_err-parse_count-in-Some : goal.returns-in_err-parse_count-in-Some
returns-in_err-parse_count-in-Some c =
    let (split, lacks) = split_parts 42 c.args.string.now (Some (c.in-Some.value, c.in-Some.count)) c.in-Some.ensures.cases (omega arith) in
    rw c.from_residual-in_err-parse_count-in-Some.ensures (λ item spelled.
    let (value, count, word, counts) = item_parts _ _ _ split lacks item spelled in
    c.in_err-parse_count-in-Some.ensures count counts)
