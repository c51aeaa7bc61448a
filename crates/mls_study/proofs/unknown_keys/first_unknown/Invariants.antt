use Rattle.std.proofs.Common.{◌≡◌, drop}
use Rattle.toml.specs.View.{items_view}
use Rattle.mls_study.specs.UnknownKeys.{first_unknown}
use Rattle.mls_study.proofs.unknown_keys.first_unknown.Given as goal

abbrev pub invariant-loop-item : goal.invariant-loop-item
invariant-loop-item l = first_unknown (items_view (drop l.item-index l.items)) ≡ first_unknown (items_view l.items)
