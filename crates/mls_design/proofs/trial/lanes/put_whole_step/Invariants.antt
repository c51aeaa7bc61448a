use Rattle.std.proofs.Common.{◌≡◌, ◌++◌, map}
use Rattle.mls_model.specs.Numbers.{below}
use Rattle.mls_model.specs.Frames.{piece}
use Rattle.mls_model.specs.Designs.{solved_piece}
use Rattle.mls_design.specs.Trial.{frame_bytes}
use Rattle.mls_design.proofs.trial.lanes.put_whole_step.Given as goal

abbrev pub invariant-loop-field : goal.invariant-loop-field
invariant-loop-field l = l.out.items ≡ l.fn.out.items ++ frame_bytes (map (λ field. piece (solved_piece l.study l.group 3 l.step field l.route.rank l.route.client)) (below l.field))
