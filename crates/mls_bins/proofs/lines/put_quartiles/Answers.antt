use Rattle.std.proofs.Common.{sym, arith}
use Rattle.mls_hist.specs.Quartiles.{bracket_in}
use Rattle.mls_text.proofs.Writing.{line_writes}
use Rattle.mls_bins.proofs.CellLines.{quartiles_of_none, quartiles_of_some}
use Rattle.mls_bins.proofs.lines.put_quartiles.Goals as goal

pub returns-then-groups-eq0 : goal.returns-then-groups-eq0
returns-then-groups-eq0 g c = line_writes _ _ _ _ _ (sym (quartiles_of_none c.args.signed c.args.groups (bracket_in c.args.counts.now) (omega arith))) c.put_no_quartiles.ensures

pub returns : goal.returns
returns g c = line_writes _ _ _ _ _ (sym (quartiles_of_some c.args.signed c.args.groups (bracket_in c.args.counts.now) (omega arith))) (line_writes _ _ _ _ _ c.quartiles_of.ensures c.put.ensures)
