use Rattle.std.proofs.Common.{◌≡◌}
use Rattle.mls_cov.specs.Standing.{count_of, parameters_of}
use Rattle.tests_of_sums.proofs.cov.summed.Given as goal

abbrev pub invariant-loop-row : goal.invariant-loop-row
invariant-loop-row l = (parameters_of l.sums ≡ 1) × (count_of l.sums ≡ l.row-index)
