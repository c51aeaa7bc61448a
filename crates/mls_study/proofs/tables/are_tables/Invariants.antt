use Rattle.std.proofs.Common.{◌≡◌, drop}
use Rattle.toml.specs.View.{items_view}
use Rattle.mls_study.specs.StudyFile.{all_tables}
use Rattle.mls_study.proofs.tables.are_tables.Given as goal

abbrev pub invariant-loop-item : goal.invariant-loop-item
invariant-loop-item l = all_tables (items_view (drop l.item-index l.items)) ≡ all_tables (items_view l.items)
