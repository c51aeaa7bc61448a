use Rattle.mls_orders.proofs.TapePieces.{no_crash_taken, no_crash_behind}
use Rattle.mls_orders.proofs.completed_keys.no_rank_crashes.Goals as goal

pub returns : goal.returns
returns c = record { none = no_crash_taken; none_after_save = no_crash_behind }
