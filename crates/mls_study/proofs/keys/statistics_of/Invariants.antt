use Rattle.std.proofs.Common.{◌≡◌, map, drop, string_bytes, []}
use Rattle.mls_study.specs.StudyFile.{statistics_from}
use Rattle.mls_study.proofs.keys.statistics_of.Given as goal

abbrev pub invariant-loop-text : goal.invariant-loop-text
invariant-loop-text l = statistics_from l.found.items (map string_bytes (drop l.text-index l.texts)) ≡ statistics_from [] (map string_bytes l.texts)
