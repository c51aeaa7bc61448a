use Rattle.std.proofs.Common.{◌≡◌, map, take}
use Rattle.mls_study.specs.StudyFile.{shift}
use Rattle.mls_study.proofs.keys.shifted_values.Given as goal

abbrev pub invariant-loop-value : goal.invariant-loop-value
invariant-loop-value l = l.shifted.items ≡ map (shift l.signed) (take l.value-index l.values)
