-- What a study is.
use Rattle.std.specs.Prelude.{◌≡◌, ℕ, ◌+◌, ◌*◌, ◌^◌, ◌<◌, ◌≤◌, Bool, true, false, ◌&&◌, ◌||◌, cond, List, [], ◌∷◌, length, Option, None, IfSome, ℤ, pos, negsuc, ◌-ℤ◌, ◌≤ℤ◌, nat_lt, nat_le, ◌==◌, IsTrue, map}
use Rattle.std.specs.List.{list_any, list_all, AllByRecursion}
use Rattle.mls_model.specs.declared.studies.Statistic.{Statistic}
use Rattle.mls_model.specs.declared.studies.Statistic.TheVariants.{Power, Extrema, Exceed, Sobol}
use Rattle.mls_model.specs.Numbers.{same_bytes}

-- The numbers of a study that its ranks work by. The thresholds are shifted values.
pub record Sizes : Type 0 where
  pub cells : ℕ
  pub steps : ℕ
  pub groups : ℕ
  pub parameters : ℕ
  pub ranks : ℕ
  pub clients : ℕ
  pub slots : ℕ
  pub silence : ℕ
  pub lives : ℕ
  pub thresholds : List ℕ
  pub signed : Bool
  pub fields : ℕ

-- a plane is a pair of a step and a field
abbrev pub planes : Sizes → ℕ
planes s = s.steps * s.fields

-- the number of the plane of a step and a field
abbrev pub plane_of : Sizes → ℕ → ℕ → ℕ
plane_of s step field = step * s.fields + field

-- each number is below the one after it
abbrev pub rises : List ℕ → Bool
rises [] = true
rises (x ∷ []) = true
rises (x ∷ y ∷ ys) = nat_lt x y && rises (y ∷ ys)

-- the numbers are within the ranges of a study file
pub record AreSizes (s : Sizes) : Type 0 where
  pub some_cells : 1 ≤ s.cells
  pub cells : s.cells ≤ 1048576
  pub some_steps : 1 ≤ s.steps
  pub steps : s.steps ≤ 4096
  pub some_groups : 1 ≤ s.groups
  pub groups : s.groups ≤ 65535
  pub some_parameters : 1 ≤ s.parameters
  pub parameters : s.parameters ≤ 16
  pub some_ranks : 1 ≤ s.ranks
  pub ranks : s.ranks ≤ 64
  pub ranks_have_cells : s.ranks ≤ s.cells
  pub some_clients : 1 ≤ s.clients
  pub clients : s.clients ≤ 64
  pub clients_have_cells : s.clients ≤ s.cells
  pub some_slots : 1 ≤ s.slots
  pub slots : s.slots ≤ 65535
  pub some_silence : 1 ≤ s.silence
  pub silence : s.silence ≤ 86400
  pub some_lives : 1 ≤ s.lives
  pub lives : s.lives ≤ 255
  pub thresholds : length s.thresholds ≤ 8
  pub thresholds_rise : IsTrue (rises s.thresholds)
  pub thresholds_fit : IsTrue (list_all (λ t. nat_le t 65535) s.thresholds)
  pub some_fields : 1 ≤ s.fields
  pub fields : s.fields ≤ 4
  pub mesh : s.cells * s.steps * s.fields ≤ 1048576
  pub marks : s.groups * s.steps * s.fields * s.ranks ≤ 1073741824

-- a parameter with its range
pub record Parameter : Type 0 where
  pub name : List ℕ
  pub low : ℤ
  pub high : ℤ

-- A study: the ranks' numbers, and what only its readers use. Without the key fields there is one field that has no name.
pub record Study : Type 0 where
  pub sizes : Sizes
  pub seed : ℕ
  pub field_names : Option (List (List ℕ))
  pub statistics : List Statistic
  pub parameters : List Parameter

-- an ASCII letter, a digit, _ or -
abbrev pub is_name_byte : ℕ → Bool
is_name_byte b = (nat_le 65 b && nat_le b 90) || (nat_le 97 b && nat_le b 122) || (nat_le 48 b && nat_le b 57) || (b == 95) || (b == 45)

-- 1 to 32 such bytes
abbrev pub is_name : List ℕ → Bool
is_name name = nat_le 1 (length name) && nat_le (length name) 32 && list_all is_name_byte name

-- no two names are the same
abbrev pub are_distinct : List (List ℕ) → Bool
are_distinct [] = true
are_distinct (name ∷ names) = cond (list_any (same_bytes name) names) false (are_distinct names)

abbrev pub is_same_statistic : Statistic → Statistic → Bool
is_same_statistic Power Power = true
is_same_statistic Extrema Extrema = true
is_same_statistic Exceed Exceed = true
is_same_statistic Sobol Sobol = true
is_same_statistic _ _ = false

-- whether the study shows a statistic
abbrev pub shows : Study → Statistic → Bool
shows study statistic = list_any (is_same_statistic statistic) study.statistics

-- no statistic stands twice
abbrev pub each_once : List Statistic → Bool
each_once [] = true
each_once (s ∷ rest) = cond (list_any (is_same_statistic s) rest) false (each_once rest)

-- a parameter's name and range are those of a study file
pub record IsParameter (p : Parameter) : Type 0 where
  pub name : IsTrue (is_name p.name)
  pub low : negsuc 4294967295 ≤ℤ p.low
  pub ordered : p.low ≤ℤ p.high
  pub high : p.high ≤ℤ pos 4294967295
  pub width : (p.high -ℤ p.low) ≤ℤ pos 4294967295

-- all parts are within the ranges of a study file
pub record IsStudy (study : Study) : Type 0 where
  pub sizes : AreSizes study.sizes
  pub seed : study.seed < 2 ^ 63
  pub unnamed : study.field_names ≡ None → study.sizes.fields ≡ 1
  pub named : IfSome study.field_names (λ names. (length names ≡ study.sizes.fields) × IsTrue (list_all is_name names) × IsTrue (are_distinct names))
  pub some_statistics : 1 ≤ length study.statistics
  pub statistics : IsTrue (each_once study.statistics)
  pub count : length study.parameters ≡ study.sizes.parameters
  pub parameters : AllByRecursion IsParameter study.parameters
  pub names : IsTrue (are_distinct (map (λ (p : Parameter). p.name) study.parameters))
