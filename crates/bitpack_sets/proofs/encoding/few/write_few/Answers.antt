-- Without an id, the encoding is one byte.
use Rattle.std.proofs.Common.{◌≡◌, ap, arith, length, rules, sym, ◌∙◌}
use Rattle.bitpack_sets.proofs.lemmas.written.BodyFilled.{one_set}
use Rattle.bitpack_sets.proofs.lemmas.encodings.FewLaws.{no_ids}
use Rattle.bitpack_sets.proofs.encoding.few.write_few.Goals as goal

pub bounds-out-0 : goal.bounds-out-0
bounds-out-0 c =
    let none : length c.args.ids.now ≡ 0 = search rules in
    let one = ap length (no_ids c.args.ids.now none) in
    let size = c.requires.size in
    omega arith

pub returns-then-is_empty : goal.returns-then-is_empty
returns-then-is_empty c =
    let none : length c.args.ids.now ≡ 0 = search rules in
    one_set c.args.out.now 128 (c.requires.size ∙ ap length (no_ids c.args.ids.now none)) ∙ sym (no_ids c.args.ids.now none)
