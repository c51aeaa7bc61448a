use Rattle.std.proofs.Common.{◌≡◌, ◌++◌}
use Rattle.std.specs.List.{flat_map}
use Rattle.mls_model.specs.Numbers.{below}
use Rattle.mls_design.specs.Trial.{life_pieces, frame_bytes}
use Rattle.mls_design.proofs.trial.lanes.put_resent.Given as goal

abbrev pub invariant-loop-group : goal.invariant-loop-group
invariant-loop-group l = l.out.items ≡ l.fn.out.items ++ frame_bytes (flat_map (λ group. life_pieces l.study l.route group 3 l.study.sizes.steps) (below l.group))
