use Rattle.std.proofs.Common.{sym, arith}
use Rattle.mls_text.proofs.Writing.{line_writes}
use Rattle.mls_bins.proofs.CellLines.{line_of_none, line_of_some}
use Rattle.mls_bins.proofs.lines.put_bins.Goals as goal

pub returns-then-groups-eq0 : goal.returns-then-groups-eq0
returns-then-groups-eq0 g c = line_writes _ _ _ _ _ (sym (line_of_none c.args.groups c.args.counts.now (omega arith))) c.put_no_bins.ensures

pub returns : goal.returns
returns g c = line_writes _ _ _ _ _ (sym (line_of_some c.args.groups c.args.counts.now (omega arith))) c.put_some_bins.ensures
