-- A study as the code keeps it.
use Rattle.std.specs.Prelude.{◌≡◌, ℕ, List, map, option_map, string_bytes}
use Rattle.indexmap.specs.IndexMap.{get_by_text}
use Rattle.mls_model.specs.Studies.{Study, IsStudy}
use Rattle.mls_study.specs.declared.study.Study.TheInside.{Inside}
use Rattle.mls_study.specs.Names.{place_in}
use Rattle.mls_study.specs.Parameters.{all_seen}

abbrev pub kept_study : Inside → Study
kept_study a = record { sizes = a.shape; seed = a.seed; field_names = option_map (λ names. map string_bytes names.items) a.field_names; statistics = a.statistics.items; parameters = all_seen a.parameters.items }

-- the study is valid, and the map has the parameters' places
pub record KeepsStudy (a : Inside) : Type 0 where
  pub study : IsStudy (kept_study a)
  pub places : (name : List ℕ) → get_by_text a.places name ≡ place_in name (all_seen a.parameters.items)
