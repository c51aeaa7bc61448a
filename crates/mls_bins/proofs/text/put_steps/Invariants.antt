use Rattle.std.proofs.Common.{drop}
use Rattle.std.specs.List.{flat_map}
use Rattle.mls_model.specs.Numbers.{below}
use Rattle.mls_model.specs.ResultText.{step_text}
use Rattle.mls_bins.specs.Folding.{kept_said}
use Rattle.mls_text.specs.Writing.{sink_seen}
use Rattle.mls_text.proofs.Writing.{IsFrontOut}
use Rattle.mls_bins.proofs.text.put_steps.Given as goal

abbrev pub invariant-loop-step : goal.invariant-loop-step
invariant-loop-step g l = IsFrontOut (flat_map (λ step. step_text l.study (kept_said l.study l.cores step)) (drop l.step (below l.steps))) (flat_map (λ step. step_text l.study (kept_said l.study l.cores step)) (below l.steps)) (sink_seen g.O.Sink.told g.O.Sink.faults g.O.Sink.sure l.fn.out) (sink_seen g.O.Sink.told g.O.Sink.faults g.O.Sink.sure l.out)
