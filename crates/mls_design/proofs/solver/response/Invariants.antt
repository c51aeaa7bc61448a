use Rattle.mls_design.proofs.Inputs.{Summed}
use Rattle.mls_design.proofs.solver.response.Given as goal

abbrev pub invariant-loop-place : goal.invariant-loop-place
invariant-loop-place l = Summed l.shift l.inputs l.place l.sum
