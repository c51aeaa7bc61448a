-- What the keys from seed to thresholds say.
use Rattle.std.specs.Prelude.{ℕ, Bool, List, map, length, Option, option_map, unwrap_or, string_bytes}
use Rattle.mls_model.specs.declared.studies.Statistic.{Statistic}
use Rattle.mls_study.specs.declared.keys.Choices.{Choices as Kept}

pub record Choices : Type 0 where
  pub seed : ℕ
  pub signed : Bool
  pub field_names : Option (List (List ℕ))
  pub statistics : List Statistic
  pub thresholds : List ℕ

-- the number of fields
abbrev pub field_count : Choices → ℕ
field_count choices = unwrap_or (option_map length choices.field_names) 1

-- as the code keeps them
abbrev pub chosen : Kept → Choices
chosen c = record { seed = c.seed; signed = c.signed; field_names = option_map (λ names. map string_bytes names.items) c.field_names; statistics = c.statistics.items; thresholds = c.thresholds.items }
