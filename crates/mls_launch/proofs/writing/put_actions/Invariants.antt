use Rattle.std.proofs.Common.{drop}
use Rattle.std.specs.List.{flat_map}
use Rattle.mls_model.specs.declared.launcher.Timed.{Timed}
use Rattle.mls_model.specs.WatchText.{action_line}
use Rattle.mls_text.specs.Writing.{sink_seen}
use Rattle.mls_text.proofs.Writing.{IsFrontOut}
use Rattle.mls_launch.proofs.writing.put_actions.Given as goal

abbrev pub invariant-loop-timed : goal.invariant-loop-timed
invariant-loop-timed g l = IsFrontOut (flat_map (λ (t : Timed). action_line t.time t.action) (drop l.timed-index l.all)) (flat_map (λ (t : Timed). action_line t.time t.action) l.all) (sink_seen g.O.Sink.told g.O.Sink.faults g.O.Sink.sure l.fn.out) (sink_seen g.O.Sink.told g.O.Sink.faults g.O.Sink.sure l.out)
