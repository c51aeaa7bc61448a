use Rattle.mls_laws.proofs.Completing.{completed_at_some_place}
use Rattle.mls_laws.proofs.completion.completed_somewhere.Goals as goal

pub returns : goal.returns
returns c = completed_at_some_place
