use Rattle.mls_laws.proofs.Completing.{accepted_completed, accepted_apart}
use Rattle.mls_laws.proofs.completion.accepted_once.Goals as goal

pub returns : goal.returns
returns c = record { completed = accepted_completed; apart = accepted_apart }
