use Rattle.mls_frame.proofs.Again.{seen_again}
use Rattle.mls_frame.proofs.Theorems.{whole_spelled}
use Rattle.mls_frame.proofs.laws.whole_is_spelled.Goals as goal

pub returns : goal.returns
returns c = record { spelled = whole_spelled; seen = seen_again }
