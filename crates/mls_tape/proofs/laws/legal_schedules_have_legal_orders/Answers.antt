use Rattle.mls_tape.proofs.Complete.{legal_order, legal_count}
use Rattle.mls_tape.proofs.laws.legal_schedules_have_legal_orders.Goals as goal

pub returns : goal.returns
returns c = record { orders = legal_order; count = legal_count }
