use Rattle.std.proofs.Common.{◌+◌}
use Rattle.mls_field.specs.OutputSteps.{numbers_step}
use Rattle.mls_field.specs.Gathered.{row_behind}
use Rattle.mls_field.specs.Walk.{Walk}
use Rattle.mls_field.proofs.columns.add_to_numbers.Given as goal

abbrev pub invariant-loop-c : goal.invariant-loop-c
invariant-loop-c l = Walk l.row l.c l.places 0 l.places l.fn.numbers l.numbers (λ c i g n. numbers_step l.shape.thresholds c (row_behind (l.shape.parameters + 2) l.places l.samples l.start i g) n)
