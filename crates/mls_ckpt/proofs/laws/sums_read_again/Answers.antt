use Rattle.mls_ckpt.proofs.WholeStates.{sums_again}
use Rattle.mls_ckpt.proofs.laws.sums_read_again.Goals as goal

pub returns : goal.returns
returns c s rank marks bytes sizes few valid = sums_again s rank marks bytes sizes few valid
