use Rattle.mls_tape.proofs.LaneLemmas.{same_events}
use Rattle.mls_tape.proofs.laws.lane_events_are_unique.Goals as goal

pub returns : goal.returns
returns c = same_events
