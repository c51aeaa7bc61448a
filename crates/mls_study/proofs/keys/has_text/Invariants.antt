use Rattle.std.proofs.Common.{◌≡◌, map, drop, string_bytes}
use Rattle.std.specs.List.{list_any}
use Rattle.mls_model.specs.Numbers.{same_bytes}
use Rattle.mls_study.proofs.keys.has_text.Given as goal

abbrev pub invariant-loop-other : goal.invariant-loop-other
invariant-loop-other l = list_any (same_bytes l.text) (map string_bytes (drop l.other-index l.texts)) ≡ list_any (same_bytes l.text) (map string_bytes l.texts)
