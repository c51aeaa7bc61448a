use Rattle.std.proofs.Common.{◌≡◌, map, drop, string_bytes}
use Rattle.std.specs.List.{list_all}
use Rattle.mls_model.specs.Studies.{is_name}
use Rattle.mls_study.proofs.keys.all_are_names.Given as goal

abbrev pub invariant-loop-text : goal.invariant-loop-text
invariant-loop-text l = list_all is_name (map string_bytes (drop l.text-index l.texts)) ≡ list_all is_name (map string_bytes l.texts)
