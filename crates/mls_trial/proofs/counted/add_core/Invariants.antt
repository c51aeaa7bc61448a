use Rattle.std.proofs.Common.{ℕ, List, ◌++◌, map}
use Rattle.mls_model.specs.Numbers.{below}
use Rattle.mls_power.specs.ExtremaStanding.{ExtremaStandFor}
use Rattle.mls_rank.specs.Cores.{mark_count}
use Rattle.mls_trial.proofs.counted.add_core.Given as goal

abbrev pub invariant-loop-plane : goal.invariant-loop-plane
invariant-loop-plane l = (numbers : List ℕ) → ExtremaStandFor l.fn.ends numbers → ExtremaStandFor l.ends (numbers ++ map (mark_count l.core) (below l.plane))
