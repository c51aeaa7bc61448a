-- The study that bytes spell, or their first fault. The keys are tried in the order of a study file's table.
use Rattle.std.specs.Prelude.{ℕ, ◌+◌, ◌*◌, Bool, true, false, not, ◌&&◌, List, [], ◌∷◌, ◌++◌, length, map, min, codes, bytes_eq, ℤ, pos, negsuc, ◌+ℤ◌, ◌-ℤ◌, int_le, nat_abs, nat_le, nat_lt, Option, Some, None, is_some, option_and_then, Result, Ok, Err, ok_or, if◌then◌else◌}
use Rattle.std.specs.List.{list_all}
use Rattle.std.specs.Str.{is_utf8}
use Rattle.toml.specs.Data.{Data, Items, no_items, item, Members, get, get_member, as_str, as_array, as_table}
use Rattle.toml.specs.Parse.{parse_document}
use Rattle.mls_model.specs.Studies.{Sizes, Study, Parameter, rises, is_name, are_distinct, each_once}
use Rattle.mls_model.specs.declared.studies.Key.{Key}
use Rattle.mls_model.specs.declared.studies.Key.TheVariants.{Cells, Steps, Groups, Ranks, Clients, Seed, Samples, Fields, Statistics, Thresholds, Slots, Silence, Lives, Parameters, ParamName, ParamLow, ParamHigh}
use Rattle.mls_model.specs.declared.studies.Statistic.{Statistic}
use Rattle.mls_model.specs.declared.studies.Statistic.TheVariants.{Power, Extrema, Exceed, Sobol}
use Rattle.mls_model.specs.declared.studies.Product.TheVariants.{CellsSteps, GroupsStepsRanks}
use Rattle.mls_study.specs.declared.fault.StudyFault.{StudyFault}
use Rattle.mls_study.specs.declared.fault.StudyFault.TheVariants.{NotToml, Kind, Range, Duplicate, Extra, Product}
use Rattle.mls_study.specs.declared.keys.Counts.{Counts}
use Rattle.mls_study.specs.declared.keys.Launch.{Launch}
use Rattle.mls_study.specs.Choices.{Choices, field_count}
use Rattle.mls_study.specs.Faults.{◌>>=◌}
use Rattle.mls_study.specs.Names.{duplicate_from}
use Rattle.mls_study.specs.UnknownKeys.{least_unknown, first_unknown}
use Rattle.mls_study.specs.declared.unknown_keys.TableKind.TheVariants as TableKind
use Rattle.mls_study.specs.Values.{needed, given_or, integer_in, number_in, strings_from, integers_from}

-- the table that the bytes write
unfoldable pub document_of : List ℕ → Result Members StudyFault
document_of bytes = if is_utf8 bytes then ok_or (parse_document bytes) NotToml else Err NotToml

unfoldable pub counts_of : Members → Result Counts StudyFault
counts_of ms = do
  cells ← needed Cells (number_in Cells 1 1048576) (get_member (codes "cells") ms)
  steps ← needed Steps (number_in Steps 1 4096) (get_member (codes "steps") ms)
  groups ← needed Groups (number_in Groups 1 65535) (get_member (codes "groups") ms)
  ranks ← given_or 1 (number_in Ranks 1 (min cells 64)) (get_member (codes "ranks") ms)
  clients ← given_or 1 (number_in Clients 1 (min cells 64)) (get_member (codes "clients") ms)
  Ok (record { cells = cells; steps = steps; groups = groups; ranks = ranks; clients = clients })

unfoldable pub seed_in : Data → Result ℕ StudyFault
seed_in d = do
  z ← integer_in Seed (pos 0) (pos 9223372036854775807) d
  Ok (nat_abs z)

-- whether the samples stand for signed values
unfoldable pub samples_in : Data → Result Bool StudyFault
samples_in d = do
  text ← ok_or (as_str d) (Kind Samples)
  if bytes_eq text (codes "u16") then Ok false else if bytes_eq text (codes "i16") then Ok true else Err (Range Samples)

-- one to four names, none twice
abbrev pub are_field_names : List (List ℕ) → Bool
are_field_names names = nat_le 1 (length names) && nat_le (length names) 4 && list_all is_name names && are_distinct names

unfoldable pub fields_in : Data → Result (Option (List (List ℕ))) StudyFault
fields_in d = do
  items ← ok_or (as_array d) (Kind Fields)
  names ← strings_from Fields [] items
  if are_field_names names then Ok (Some names) else Err (Range Fields)

unfoldable pub statistic_of : List ℕ → Option Statistic
statistic_of text =
    if bytes_eq text (codes "power") then Some Power
    else if bytes_eq text (codes "extrema") then Some Extrema
    else if bytes_eq text (codes "exceed") then Some Exceed
    else if bytes_eq text (codes "sobol") then Some Sobol
    else None

-- the statistics of these texts, after those found, where each is one
unfoldable pub statistics_from : List Statistic → List (List ℕ) → Option (List Statistic)
statistics_from found [] = Some found
statistics_from found (text ∷ texts) = option_and_then (λ s. statistics_from (found ++ s ∷ []) texts) (statistic_of text)

-- one to four statistics, none twice
abbrev pub are_statistics : List Statistic → Bool
are_statistics found = nat_le 1 (length found) && nat_le (length found) 4 && each_once found

unfoldable pub statistics_in : Data → Result (List Statistic) StudyFault
statistics_in d = do
  items ← ok_or (as_array d) (Kind Statistics)
  texts ← strings_from Statistics [] items
  found ← ok_or (statistics_from [] texts) (Range Statistics)
  if are_statistics found then Ok found else Err (Range Statistics)

abbrev pub all_statistics : List Statistic
all_statistics = Power ∷ Extrema ∷ Exceed ∷ Sobol ∷ []

-- from 0 to 65,535, or from −32,768 to 32,767 where the samples are signed
abbrev pub is_value : Bool → ℤ → Bool
is_value false z = int_le (pos 0) z && int_le z (pos 65535)
is_value true z = int_le (negsuc 32767) z && int_le z (pos 32767)

-- the shifted value of a value
abbrev pub shift : Bool → ℤ → ℕ
shift false z = nat_abs z
shift true z = nat_abs (z +ℤ pos 32768)

-- up to eight values, strictly rising
abbrev pub are_thresholds : Bool → List ℤ → Bool
are_thresholds signed values = nat_le (length values) 8 && list_all (is_value signed) values && rises (map (shift signed) values)

-- the thresholds as shifted values
unfoldable pub thresholds_in : Bool → Data → Result (List ℕ) StudyFault
thresholds_in signed d = do
  items ← ok_or (as_array d) (Kind Thresholds)
  values ← integers_from Thresholds [] items
  if are_thresholds signed values then Ok (map (shift signed) values) else Err (Range Thresholds)

unfoldable pub choices_of : Members → Result Choices StudyFault
choices_of ms = do
  seed ← given_or 0 seed_in (get_member (codes "seed") ms)
  signed ← given_or false samples_in (get_member (codes "samples") ms)
  names ← given_or None fields_in (get_member (codes "fields") ms)
  statistics ← given_or all_statistics statistics_in (get_member (codes "statistics") ms)
  thresholds ← given_or [] (thresholds_in signed) (get_member (codes "thresholds") ms)
  Ok (record { seed = seed; signed = signed; field_names = names; statistics = statistics; thresholds = thresholds })

unfoldable pub launch_of : Members → Result Launch StudyFault
launch_of ms = do
  slots ← given_or 1 (number_in Slots 1 65535) (get_member (codes "slots") ms)
  silence ← given_or 300 (number_in Silence 1 86400) (get_member (codes "silence") ms)
  lives ← given_or 3 (number_in Lives 1 255) (get_member (codes "lives") ms)
  Ok (record { slots = slots; silence = silence; lives = lives })

-- each item is a table
abbrev pub all_tables : Items → Bool
all_tables no_items = true
all_tables (item d ds) = is_some (as_table d) && all_tables ds

abbrev pub item_count : Items → ℕ
item_count no_items = 0
item_count (item d ds) = item_count ds + 1

-- one to sixteen tables
unfoldable pub tables_in : Data → Result Items StudyFault
tables_in d = do
  items ← ok_or (as_array d) (Kind Parameters)
  if not (all_tables items) then Err (Kind Parameters) else if nat_le 1 (item_count items) && nat_le (item_count items) 16 then Ok items else Err (Range Parameters)

unfoldable pub name_in : Key → Data → Result (List ℕ) StudyFault
name_in key d = do
  text ← ok_or (as_str d) (Kind key)
  if is_name text then Ok text else Err (Range key)

-- an integer from low to 4294967295 that is at most 4294967295 above low
unfoldable pub high_in : Key → ℤ → Data → Result ℤ StudyFault
high_in key low d = do
  z ← integer_in key low (pos 4294967295) d
  if int_le (z -ℤ low) (pos 4294967295) then Ok z else Err (Range key)

-- the parameter of a table, at its place
unfoldable pub parameter_in : ℕ → Data → Result Parameter StudyFault
parameter_in place d = do
  name ← needed (ParamName place) (name_in (ParamName place)) (get (codes "name") d)
  low ← needed (ParamLow place) (integer_in (ParamLow place) (negsuc 4294967295) (pos 4294967295)) (get (codes "low") d)
  high ← needed (ParamHigh place) (high_in (ParamHigh place) low) (get (codes "high") d)
  Ok (record { name = name; low = low; high = high })

-- the parameters of the tables, after those found
unfoldable pub parameters_from : List Parameter → Items → Result (List Parameter) StudyFault
parameters_from found no_items = Ok found
parameters_from found (item d ds) = do
  parameter ← parameter_in (length found) d
  parameters_from (found ++ parameter ∷ []) ds

-- no fault, or the one that f makes
abbrev pub refuse : {A : Type 0} → (A → StudyFault) → Option A → Result (Unit {0}) StudyFault
refuse f None = Ok tt
refuse f (Some x) = Err (f x)

-- the sizes of these parts, with this number of parameters
abbrev pub sizes_with : Counts → Choices → Launch → ℕ → Sizes
sizes_with counts choices launch parameters = record { cells = counts.cells; steps = counts.steps; groups = counts.groups; parameters = parameters; ranks = counts.ranks; clients = counts.clients; slots = launch.slots; silence = launch.silence; lives = launch.lives; thresholds = choices.thresholds; signed = choices.signed; fields = field_count choices }

abbrev pub study_with : Counts → Choices → Launch → List Parameter → Study
study_with counts choices launch parameters = record { sizes = sizes_with counts choices launch (length parameters); seed = choices.seed; field_names = choices.field_names; statistics = choices.statistics; parameters = parameters }

-- the study of these parts, where no product of its numbers is too large
unfoldable pub whole : Counts → Choices → Launch → List Parameter → Result Study StudyFault
whole counts choices launch parameters =
    if nat_lt 1048576 (counts.cells * counts.steps * field_count choices) then Err (Product CellsSteps)
    else if nat_lt 1073741824 (counts.groups * counts.steps * field_count choices * counts.ranks) then Err (Product GroupsStepsRanks)
    else Ok (study_with counts choices launch parameters)

-- the study of these parts and of the parameters that the table writes
unfoldable pub study_with_parameters : Counts → Choices → Launch → Members → Result Study StudyFault
study_with_parameters counts choices launch ms = do
  tables ← needed Parameters tables_in (get_member (codes "parameters") ms)
  parameters ← parameters_from [] tables
  distinct ← refuse Duplicate (duplicate_from [] parameters)
  known ← refuse Extra (least_unknown TableKind.Study ms)
  all_known ← refuse Extra (first_unknown tables)
  whole counts choices launch parameters

-- the study that the table writes
unfoldable pub study_in : Members → Result Study StudyFault
study_in ms = do
  counts ← counts_of ms
  choices ← choices_of ms
  launch ← launch_of ms
  study_with_parameters counts choices launch ms

-- the study that the bytes spell, or their first fault
unfoldable pub study_of : List ℕ → Result Study StudyFault
study_of bytes = do
  ms ← document_of bytes
  study_in ms
