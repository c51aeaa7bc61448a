use Rattle.mls_orders.proofs.SameLines.{row_of_taken}
use Rattle.mls_orders.proofs.tape_rows.rows_are_the_tapes.Goals as goal

pub returns : goal.returns
returns c = row_of_taken
