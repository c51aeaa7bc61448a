use Rattle.std.proofs.Common.{◌≡◌, map, drop, string_bytes, []}
use Rattle.toml.specs.View.{items_view}
use Rattle.mls_study.specs.Values.{strings_from}
use Rattle.mls_study.proofs.values.strings.Given as goal

abbrev pub invariant-loop-item : goal.invariant-loop-item
invariant-loop-item l = strings_from l.key (map string_bytes l.texts.items) (items_view (drop l.item-index l.items)) ≡ strings_from l.key [] (items_view l.items)
