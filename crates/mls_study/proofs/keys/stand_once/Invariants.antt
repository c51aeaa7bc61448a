use Rattle.std.proofs.Common.{◌≡◌, drop}
use Rattle.mls_model.specs.Studies.{each_once}
use Rattle.mls_study.proofs.keys.stand_once.Given as goal

abbrev pub invariant-loop-i : goal.invariant-loop-i
invariant-loop-i l = each_once (drop l.i l.list) ≡ each_once l.list
