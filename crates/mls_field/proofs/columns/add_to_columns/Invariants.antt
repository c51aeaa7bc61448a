use Rattle.std.proofs.Common.{◌+◌, ◌*◌}
use Rattle.mls_field.specs.Walk.{Walk}
use Rattle.mls_field.proofs.FourSums.{steps_of}
use Rattle.mls_field.proofs.columns.add_to_columns.Given as goal

abbrev pub invariant-loop-k : goal.invariant-loop-k
invariant-loop-k l = Walk l.row (4 + 4 * l.k) l.places l.from (l.from + l.count) l.fn.words l.words (steps_of l.parameters l.places l.samples l.start)
