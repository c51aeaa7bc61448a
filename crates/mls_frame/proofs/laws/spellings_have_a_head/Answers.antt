use Rattle.mls_frame.proofs.Within.{spelling-some}
use Rattle.mls_frame.proofs.laws.spellings_have_a_head.Goals as goal

pub returns : goal.returns
returns c = spelling-some
