use Rattle.mls_frame.proofs.Theorems.{one_front}
use Rattle.mls_frame.proofs.laws.no_spelling_begins_another.Goals as goal

pub returns : goal.returns
returns c = one_front
