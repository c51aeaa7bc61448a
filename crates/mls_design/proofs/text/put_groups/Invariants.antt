use Rattle.std.proofs.Common.{drop}
use Rattle.std.specs.List.{flat_map}
use Rattle.mls_model.specs.Numbers.{below}
use Rattle.mls_model.specs.Designs.{group_lines}
use Rattle.mls_text.specs.Writing.{sink_seen}
use Rattle.mls_text.proofs.Writing.{IsFrontOut}
use Rattle.mls_design.proofs.text.put_groups.Given as goal

abbrev pub invariant-loop-group : goal.invariant-loop-group
invariant-loop-group g l = IsFrontOut (flat_map (λ group. group_lines l.study group) (drop l.group (below l.groups))) (flat_map (λ group. group_lines l.study group) (below l.groups)) (sink_seen g.O.Sink.told g.O.Sink.faults g.O.Sink.sure l.fn.out) (sink_seen g.O.Sink.told g.O.Sink.faults g.O.Sink.sure l.out)
