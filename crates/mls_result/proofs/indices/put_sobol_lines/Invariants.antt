use Rattle.std.proofs.Common.{drop}
use Rattle.std.specs.List.{flat_map, enumerate_from}
use Rattle.mls_model.specs.CellSums.{CellSums}
use Rattle.mls_field.specs.Kept.{HasProducts}
use Rattle.mls_text.specs.Writing.{sink_seen}
use Rattle.mls_text.proofs.Writing.{IsFrontOut}
use Rattle.mls_result.proofs.Parameters.{parameter_line}
use Rattle.mls_result.proofs.indices.put_sobol_lines.Given as goal

abbrev pub invariant-loop-k : goal.invariant-loop-k
invariant-loop-k g l = (sums : CellSums) → HasProducts l.study.sizes.parameters sums l.sums → IsFrontOut (flat_map (parameter_line sums) (drop l.k (enumerate_from 0 l.study.parameters))) (flat_map (parameter_line sums) (enumerate_from 0 l.study.parameters)) (sink_seen g.O.Sink.told g.O.Sink.faults g.O.Sink.sure l.fn.out) (sink_seen g.O.Sink.told g.O.Sink.faults g.O.Sink.sure l.out)
