use Rattle.std.proofs.Common.{◌≡◌, map, drop, string_bytes}
use Rattle.mls_model.specs.Studies.{are_distinct}
use Rattle.mls_study.proofs.keys.differ.Given as goal

abbrev pub invariant-loop-i : goal.invariant-loop-i
invariant-loop-i l = are_distinct (map string_bytes (drop l.i l.texts)) ≡ are_distinct (map string_bytes l.texts)
