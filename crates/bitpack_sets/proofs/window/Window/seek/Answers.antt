-- The id at hand, if it is large enough.
use Rattle.std.proofs.Common.{sym, ◌^◌, arith}
use Rattle.std.proofs.Math.Nat.{max-eq_left}
use Rattle.bitpack_sets.specs.Opened.{ids}
use Rattle.bitpack_slices.specs.Reads.{rank}
use Rattle.bitpack_slices.proofs.ForCallers.{rank_le, rank_under}
use Rattle.bitpack_sets.proofs.lemmas.encodings.EncodingLaws.{ids_are_read}
use Rattle.bitpack_sets.proofs.lemmas.reads.IdsLaws.{unpacked_at, unpacked_get}
use Rattle.bitpack_sets.proofs.window.Window.seek.Goals as goal

pub returns-then-self-clause-next : goal.returns-then-self-clause-next
returns-then-self-clause-next c =
    let it = c.args.self.now in
    let xs = ids c.args.set.now in
    let past = c.requires.window.ready c.if-self.true in
    let most = rank_le c.args.target xs in
    sym (max-eq_left {n = it.next} {m = rank c.args.target xs} (omega arith))

pub returns-then-target-id-clause-next : goal.returns-then-target-id-clause-next
returns-then-target-id-clause-next c =
    let it = c.args.self.now in
    let window = c.requires.window in
    let set = c.args.set.now in
    let xs = ids set in
    let rises = (ids_are_read set.bytes.now set.are_bytes set.states.none).0.rising in
    let here = unpacked_at it.next it.begin it.end it.unpacked xs it.after c.if-self.false window.values in
    let end = window.within in
    let least = rank_under c.args.target 0 (2 ^ 32) it.next xs rises (omega (arith, c.if-self.false)) (omega (arith, c.if-target-id.true)) in
    sym (max-eq_left {n = it.next} {m = rank c.args.target xs} least)

pub returns-then-target-id-clause-id : goal.returns-then-target-id-clause-id
returns-then-target-id-clause-id c =
    let it = c.args.self.now in
    let window = c.requires.window in
    unpacked_get it.next it.begin it.end it.unpacked (ids c.args.set.now) it.after c.if-self.false window.within window.values
