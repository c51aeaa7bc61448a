use Rattle.std.proofs.Common.{◌++◌, ap, sym, ◌∙◌, arith}
use Rattle.std.proofs.lemmas.List.{append-nil}
use Rattle.mls_bins.proofs.CellLines.{bin_none, bin_some}
use Rattle.mls_bins.proofs.lines.add_bin.Goals as goal

pub returns-then-count-gt0-clause-text : goal.returns-then-count-gt0-clause-text
returns-then-count-gt0-clause-text c = c.add_count.ensures.text ∙ ap (λ t. c.args.line.now ++ t) (sym (bin_some c.args.bin c.args.count (omega arith)))

pub returns-else-count-gt0-clause-text : goal.returns-else-count-gt0-clause-text
returns-else-count-gt0-clause-text c = sym (ap (λ t. c.args.line.now ++ t) (bin_none c.args.bin c.args.count (omega arith)) ∙ append-nil c.args.line.now)
