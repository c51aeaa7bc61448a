use Rattle.std.proofs.Common.{◌≡◌, drop, length, []}
use Rattle.toml.specs.View.{items_view}
use Rattle.mls_study.specs.StudyFile.{parameters_from}
use Rattle.mls_study.specs.Parameters.{all_seen}
use Rattle.mls_study.proofs.tables.parameters.Given as goal

abbrev pub invariant-loop-place : goal.invariant-loop-place
invariant-loop-place l = record {
  counted : length l.found.items ≡ l.place;
  same : parameters_from (all_seen l.found.items) (items_view (drop l.place l.items)) ≡ parameters_from [] (items_view l.items);
}
