use Rattle.mls_ckpt.proofs.WholeStates.{saved_states_are_spelled}
use Rattle.mls_ckpt.proofs.laws.saved_states_are_spelled.Goals as goal

pub returns : goal.returns
returns c s rank bytes state sizes are is = saved_states_are_spelled s rank bytes state sizes are is
