use Rattle.mls_ckpt.proofs.WholeStates.{saved_states_read_again}
use Rattle.mls_ckpt.proofs.laws.saved_states_read_again.Goals as goal

pub returns : goal.returns
returns c s rank version state sizes within known valid = saved_states_read_again s rank version state sizes within known valid
