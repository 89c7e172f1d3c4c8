-- The fields are what the line is cut into at its spaces.
use Rattle.std.proofs.Common.{◌≡◌, ◌∙◌, ap, lit<, take}
use Rattle.std.proofs.lemmas.Iterator.{YieldsList-from_take}
use Rattle.std.proofs.lemmas.Iterator.Consumers.{YieldsList-at, map_from_collect}
use Rattle.std.proofs.lemmas.Iterator.Splits.{YieldsList-from_str_split}
use Rattle.std.proofs.lemmas.Result.{IfOk-at_ok}
use Rattle.bitpack.proofs.LineFields.{IsUtf8-line, between_spaces, parses_line, strings_of}
use Rattle.bitpack.proofs.line.parse_line.Goals as goal

pub returns-in_default : goal.returns-in_default
returns-in_default c asked spells = c.in_default.ensures.cases.0 (IsUtf8-line c.args.line.now asked.0 asked.1 spells)

pub returns : goal.returns
returns c =
    let string : c.in-Ok.string.now ≡ c.args.line.now = c.in-Ok.ensures.cases.0 in
    let road = YieldsList-from_take 6 (YieldsList-at c.take.ensures.source (YieldsList-from_str_split 32 c.in-Ok.string.now (lit< tt) c.split.ensures.text c.split.ensures.has_more c.split.ensures.pattern)) c.take.ensures.count in
    let found : strings_of c.in_ok-fields.fields.items ≡ take 6 (between_spaces c.in-Ok.string.now) = IfOk-at_ok _ c.in_ok-fields.was (map_from_collect _ c.collect.ensures.ran road) in
    parses_line c.args.line.now (strings_of c.deref.result.now) (ap strings_of c.deref.ensures.value ∙ found ∙ ap (λ t. take 6 (between_spaces t)) string) c.parse_fields.result c.parse_fields.ensures
