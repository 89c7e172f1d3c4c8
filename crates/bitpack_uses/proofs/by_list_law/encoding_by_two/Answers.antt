-- The law `one_text`: values have one encoded list.
use Rattle.std.proofs.Common.{◌≡◌, ◌∙◌, sym}
use Rattle.bitpack_uses.proofs.by_list_law.encoding_by_two.Goals as goal

pub returns-clause-same : goal.returns-clause-same
returns-clause-same g c =
    let one = c.in_ok-encode.ensures.ok in
    let two = c.in_ok-encode-2.ensures.ok in
    let first : c.encode.new.out.items ≡ one.0 = rw c.new-encoding.ensures.items at one.3 in
    let second : c.encode-2.new.out.items ≡ two.0 = rw c.new-same.ensures.items at two.3 in
    second ∙ c.one_text.ensures.encoding g.P.BitPacker.lanes c.args.kind c.args.values.now _ _ g.met.P.BitPacker.some_lanes one.1 two.1 one.2
    (rw c.requires.format at two.2) ∙ sym first
