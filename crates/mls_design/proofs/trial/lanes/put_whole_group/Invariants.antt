use Rattle.std.proofs.Common.{◌≡◌, ◌++◌}
use Rattle.mls_design.specs.Trial.{life_pieces, frame_bytes}
use Rattle.mls_design.proofs.trial.lanes.put_whole_group.Given as goal

abbrev pub invariant-loop-step : goal.invariant-loop-step
invariant-loop-step l = l.out.items ≡ l.fn.out.items ++ frame_bytes (life_pieces l.study l.route l.group 3 l.step)
