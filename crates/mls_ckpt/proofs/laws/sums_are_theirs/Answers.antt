use Rattle.mls_ckpt.proofs.WholeStates.{sums_same}
use Rattle.mls_ckpt.proofs.laws.sums_are_theirs.Goals as goal

pub returns : goal.returns
returns c s rank marks xs ys sizes few xs_valid ys_valid same = sums_same s rank marks xs ys sizes few xs_valid ys_valid same
