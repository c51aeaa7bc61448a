use Rattle.mls_orders.proofs.CellTexts.{cell_same}
use Rattle.mls_orders.proofs.permuted_rows.text_of_permuted_rows.Goals as goal

pub returns : goal.returns
returns c = cell_same
