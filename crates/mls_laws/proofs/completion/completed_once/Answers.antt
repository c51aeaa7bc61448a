use Rattle.mls_laws.proofs.Completing.{completed_once, completed_at_one_place}
use Rattle.mls_laws.proofs.completion.completed_once.Goals as goal

pub returns : goal.returns
returns c = record { none_after = completed_once; one_place = completed_at_one_place }
