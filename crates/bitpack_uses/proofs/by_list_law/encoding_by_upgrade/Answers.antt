-- The law `one_text`: the version 1 list has these values alone, which have one version 2 list.
use Rattle.std.proofs.Common.{◌≡◌, ◌∙◌, sym}
use Rattle.bitpack_uses.proofs.by_list_law.encoding_by_upgrade.Goals as goal

pub returns-clause-same : goal.returns-clause-same
returns-clause-same g c =
    let lanes = g.P.BitPacker.lanes in
    let some = g.met.P.BitPacker.some_lanes in
    let one = c.in_ok-encode.ensures.ok in
    let old = c.in_ok-encode-2.ensures.ok in
    let (kind, values, encoding, list, small, upgraded, appended) = c.in_ok-upgrade.ensures.ok in
    let first : c.encode.new.out.items ≡ one.0 = rw c.new-encoding.ensures.items at one.3 in
    let second : c.encode-2.new.out.items ≡ old.0 = rw c.new-old.ensures.items at old.3 in
    let third : c.upgrade.new.out.items ≡ encoding = rw c.new-same.ensures.items at appended in
    let same = c.one_text.ensures.list lanes kind c.args.kind values c.args.values.now old.0 some (rw (c.deref.ensures.value ∙ second) at list) old.2 in
    third ∙ c.one_text.ensures.encoding2 lanes c.args.kind c.args.values.now one.0 encoding some one.1 small one.2 (rw (sym same.0, sym same.1) at upgraded) ∙ sym first
