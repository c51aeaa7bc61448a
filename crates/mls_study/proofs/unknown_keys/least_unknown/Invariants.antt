use Rattle.std.proofs.Common.{◌≡◌, None, map, option_map, string_bytes}
use Rattle.toml.specs.View.{table_view}
use Rattle.mls_study.specs.UnknownKeys.{member_keys}
use Rattle.mls_study.proofs.LeastKey.{least_with}
use Rattle.mls_study.proofs.unknown_keys.least_unknown.Given as goal

abbrev pub invariant-loop-key : goal.invariant-loop-key
invariant-loop-key l = least_with l.kind (option_map (λ s. s.now) l.least) (map string_bytes l.key-iterator) ≡ least_with l.kind None (member_keys (table_view l.table))
