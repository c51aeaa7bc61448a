use Rattle.std.proofs.Common.{drop}
use Rattle.std.specs.List.{flat_map}
use Rattle.mls_model.specs.Numbers.{below}
use Rattle.mls_model.specs.ResultText.{field_text}
use Rattle.mls_bins.specs.Folding.{kept_said}
use Rattle.mls_text.specs.Writing.{sink_seen}
use Rattle.mls_text.proofs.Writing.{IsFrontOut}
use Rattle.mls_bins.proofs.text.put_fields.Given as goal

abbrev pub invariant-loop-field : goal.invariant-loop-field
invariant-loop-field g l = IsFrontOut (flat_map (λ field. field_text l.study (kept_said l.study l.cores l.step field)) (drop l.field (below l.fields))) (flat_map (λ field. field_text l.study (kept_said l.study l.cores l.step field)) (below l.fields)) (sink_seen g.O.Sink.told g.O.Sink.faults g.O.Sink.sure l.fn.out) (sink_seen g.O.Sink.told g.O.Sink.faults g.O.Sink.sure l.out)
