use Rattle.mls_orders.proofs.SameLines.{lines_of_taken, lines_of_complete, lines_of_plain}
use Rattle.mls_orders.proofs.result_lines.cell_lines_are_the_same.Goals as goal

pub returns : goal.returns
returns c = record { taken = lines_of_taken; complete = lines_of_complete; plain = lines_of_plain }
