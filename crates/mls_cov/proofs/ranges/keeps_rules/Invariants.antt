use Rattle.std.proofs.Common.{ℕ, ◌<◌}
use Rattle.mls_cov.specs.Rules.{KeepsColumn}
use Rattle.mls_cov.proofs.ranges.keeps_rules.Given as goal

abbrev pub invariant-loop-k : goal.invariant-loop-k
invariant-loop-k l = (k : ℕ) → k < l.k → KeepsColumn l.count k l.sums
