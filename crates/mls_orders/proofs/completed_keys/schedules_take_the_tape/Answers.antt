use Rattle.mls_orders.proofs.TapePieces.{complete_takes, plain_takes}
use Rattle.mls_orders.proofs.completed_keys.schedules_take_the_tape.Goals as goal

pub returns : goal.returns
returns c = record { complete = complete_takes; plain = plain_takes }
