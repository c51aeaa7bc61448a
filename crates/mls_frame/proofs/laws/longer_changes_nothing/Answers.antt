use Rattle.mls_frame.proofs.Steady.{bad_stays}
use Rattle.mls_frame.proofs.Theorems.{whole_stays}
use Rattle.mls_frame.proofs.laws.longer_changes_nothing.Goals as goal

pub returns : goal.returns
returns c = record { whole = whole_stays; bad = bad_stays }
