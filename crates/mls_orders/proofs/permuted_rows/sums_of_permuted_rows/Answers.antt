use Rattle.mls_orders.proofs.KeptSums.{kept_same}
use Rattle.mls_orders.proofs.permuted_rows.sums_of_permuted_rows.Goals as goal

pub returns : goal.returns
returns c = kept_same
