use Rattle.mls_ckpt.proofs.WholeStates.{states_read_again}
use Rattle.mls_ckpt.proofs.laws.states_read_again.Goals as goal

pub returns : goal.returns
returns c read s rank version state sizes within known valid = states_read_again read s rank version state sizes within known valid
