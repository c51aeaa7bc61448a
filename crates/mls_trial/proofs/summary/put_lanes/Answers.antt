use Rattle.std.proofs.Common.{◌∙◌}
use Rattle.mls_text.proofs.Writing.{line_writes}
use Rattle.mls_trial.proofs.Counts.{lanes_said}
use Rattle.mls_trial.proofs.summary.put_lanes.Goals as goal

pub returns : goal.returns
returns g c = line_writes _ _ _ _ _ (c.lanes_line.ensures ∙ lanes_said c.args.tape.now.lanes c.lane_count.result c.tape_events.result c.lane_count.ensures c.tape_events.ensures) c.put.ensures
