-- What was buffered is written before bytes that there is no room for.
use Rattle.std.proofs.Common.{◌++◌, subst, sym}
use Rattle.std.proofs.KnownBytes.{Appends-trans}
use Rattle.bitpack.specs.Lines.{AppendsBeginning, AppendsBut}
use Rattle.bitpack.proofs.BufferedBytes.{OnErr-by, OnOk-to, begin-more, but-all}
use Rattle.bitpack.proofs.output.Output.put.Goals as goal

pub returns-in_err-write_out-clause-err : goal.returns-in_err-write_out-clause-err
returns-in_err-write_out-clause-err g c =
    let old = g.W.Write.contents c.args.writer.now in
    let new = g.W.Write.contents c.write_out.new.writer in
    OnErr-by _ (AppendsBeginning old new (c.args.self.now ++ c.args.bytes.now)) (begin-more old new c.args.self.now c.args.bytes.now c.in_err-write_out.ensures.err)

pub returns-clause-ok : goal.returns-clause-ok
returns-clause-ok g c =
    let old = g.W.Write.contents c.args.writer.now in
    let new = g.W.Write.contents c.write_all.new.writer in
    let all = c.args.self.now ++ c.args.bytes.now in
    OnOk-to _ _ (AppendsBut old new all c.write_out.new.self) c.write_all.ensures.ok (λ appended.
    subst (AppendsBut old new all) (sym c.in_ok-write_out.ensures.empty) (but-all old new all (Appends-trans old _ new _ _ c.in_ok-write_out.ensures.ok appended)))
