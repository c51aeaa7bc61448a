use Rattle.std.proofs.Common.{◌≡◌, ◌*◌, ◌≤◌, take}
use Rattle.mls_design.specs.Trial.{lane_events}
use Rattle.mls_trial.proofs.counted.tape_events.Given as goal

abbrev pub invariant-loop-lane : goal.invariant-loop-lane
invariant-loop-lane l = record { are_events : l.events ≡ lane_events (take l.lane l.tape.lanes); few : l.events ≤ 4294967295 * l.lane }
