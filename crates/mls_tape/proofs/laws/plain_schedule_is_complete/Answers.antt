use Rattle.mls_tape.proofs.Complete.{plain_complete, plain_legal}
use Rattle.mls_tape.proofs.laws.plain_schedule_is_complete.Goals as goal

pub returns : goal.returns
returns c = record { complete = plain_complete; legal = plain_legal }
