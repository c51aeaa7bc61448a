use Rattle.mls_ckpt.proofs.WholeStates.{states_are_spelled}
use Rattle.mls_ckpt.proofs.laws.states_are_spelled.Goals as goal

pub returns : goal.returns
returns c read reads s rank bytes state sizes are is = states_are_spelled read reads s rank bytes state sizes are is
