use Rattle.mls_tape.proofs.LaneLemmas.{lane_events}
use Rattle.mls_tape.proofs.laws.lane_events_are_found.Goals as goal

pub returns : goal.returns
returns c = lane_events
