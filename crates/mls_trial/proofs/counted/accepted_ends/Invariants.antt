use Rattle.std.proofs.Common.{take}
use Rattle.std.specs.List.{flat_map}
use Rattle.mls_power.specs.ExtremaStanding.{ExtremaStandFor}
use Rattle.mls_trial.specs.Kept.{core_groups}
use Rattle.mls_trial.proofs.counted.accepted_ends.Given as goal

abbrev pub invariant-loop-core : goal.invariant-loop-core
invariant-loop-core l = ExtremaStandFor l.ends (flat_map (core_groups l.study.sizes) (take l.core-index l.cores))
