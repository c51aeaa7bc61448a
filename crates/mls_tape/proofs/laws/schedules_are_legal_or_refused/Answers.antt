use Rattle.mls_tape.proofs.Decided.{is_schedule, is_legal_schedule, is_refused}
use Rattle.mls_tape.proofs.laws.schedules_are_legal_or_refused.Goals as goal

pub returns : goal.returns
returns c = record { read = is_schedule; legal = is_legal_schedule; refused = is_refused }
