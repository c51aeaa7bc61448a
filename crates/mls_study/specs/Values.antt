-- How the value of one key is read, by the kinds and ranges that many keys share.
use Rattle.std.specs.Prelude.{ℕ, ◌&&◌, List, [], ◌∷◌, ◌++◌, ℤ, pos, nat_abs, int_le, Option, Some, None, Result, Ok, Err, ok_or, if◌then◌else◌}
use Rattle.toml.specs.Data.{Data, Items, no_items, item, as_integer, as_str}
use Rattle.mls_model.specs.declared.studies.Key.{Key}
use Rattle.mls_study.specs.declared.fault.StudyFault.{StudyFault}
use Rattle.mls_study.specs.declared.fault.StudyFault.TheVariants.{Missing, Kind, Range}
use Rattle.mls_study.specs.Faults.{◌>>=◌}

-- a key that a file must have
abbrev pub needed : {A : Type 0} → Key → (Data → Result A StudyFault) → Option Data → Result A StudyFault
needed key read None = Err (Missing key)
needed key read (Some d) = read d

-- a key that may be absent
abbrev pub given_or : {A : Type 0} → A → (Data → Result A StudyFault) → Option Data → Result A StudyFault
given_or default read None = Ok default
given_or default read (Some d) = read d

-- an integer from least to most
unfoldable pub integer_in : Key → ℤ → ℤ → Data → Result ℤ StudyFault
integer_in key least most d = do
  z ← ok_or (as_integer d) (Kind key)
  if int_le least z && int_le z most then Ok z else Err (Range key)

-- the same, where least is no negative number
unfoldable pub number_in : Key → ℕ → ℕ → Data → Result ℕ StudyFault
number_in key least most d = do
  z ← integer_in key (pos least) (pos most) d
  Ok (nat_abs z)

-- the strings of an array, after those found
unfoldable pub strings_from : Key → List (List ℕ) → Items → Result (List (List ℕ)) StudyFault
strings_from key found no_items = Ok found
strings_from key found (item d ds) = do
  text ← ok_or (as_str d) (Kind key)
  strings_from key (found ++ text ∷ []) ds

-- the integers of an array, after those found
unfoldable pub integers_from : Key → List ℤ → Items → Result (List ℤ) StudyFault
integers_from key found no_items = Ok found
integers_from key found (item d ds) = do
  z ← ok_or (as_integer d) (Kind key)
  integers_from key (found ++ z ∷ []) ds
