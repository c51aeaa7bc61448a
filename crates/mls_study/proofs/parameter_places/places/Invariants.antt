use Rattle.std.proofs.Common.{◌≡◌, ℕ, List, [], take, drop}
use Rattle.indexmap.specs.IndexMap.{get_by_text}
use Rattle.mls_study.specs.Names.{place_in, duplicate_from}
use Rattle.mls_study.specs.Parameters.{all_seen}
use Rattle.mls_study.proofs.parameter_places.places.Given as goal

abbrev pub invariant-loop-place : goal.invariant-loop-place
invariant-loop-place l = record {
  found : (name : List ℕ) → get_by_text l.places name ≡ place_in name (all_seen (take l.place l.parameters));
  same : duplicate_from (all_seen (take l.place l.parameters)) (all_seen (drop l.place l.parameters)) ≡ duplicate_from [] (all_seen l.parameters);
}
