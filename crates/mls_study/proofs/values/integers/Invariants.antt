use Rattle.std.proofs.Common.{◌≡◌, drop, []}
use Rattle.toml.specs.View.{items_view}
use Rattle.mls_study.specs.Values.{integers_from}
use Rattle.mls_study.proofs.values.integers.Given as goal

abbrev pub invariant-loop-item : goal.invariant-loop-item
invariant-loop-item l = integers_from l.key l.numbers.items (items_view (drop l.item-index l.items)) ≡ integers_from l.key [] (items_view l.items)
