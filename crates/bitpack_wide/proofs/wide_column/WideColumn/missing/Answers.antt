-- The set has the positions of the missing values.
use Rattle.std.proofs.Common.{◌^◌, ap, arith, sym}
use Rattle.bitpack_sets.specs.Opened.{ids}
use Rattle.bitpack_sets.specs.Reads.{ids_in}
use Rattle.bitpack_wide.proofs.WideAbsent.{missing_is}
use Rattle.bitpack_wide.proofs.WideSame.{set_rises}
use Rattle.bitpack_wide.proofs.wide_column.WideColumn.missing.Goals as goal

pub returns : goal.returns
returns c =
    let self = c.args.self.now in
    sym (missing_is self.bytes.now self.count self.rest.now (2 ^ 32) (ids self.missing) self.states (ap ids_in self.is_missing) (set_rises self.missing) (omega (arith, self.states.few)))
