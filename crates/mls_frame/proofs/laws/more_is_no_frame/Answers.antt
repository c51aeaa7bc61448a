use Rattle.mls_frame.proofs.Theorems.{more_begins}
use Rattle.mls_frame.proofs.laws.more_is_no_frame.Goals as goal

pub returns : goal.returns
returns c = more_begins
