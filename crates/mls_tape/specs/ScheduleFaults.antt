-- Why bytes are no legal schedule of a tape.
use Rattle.std.specs.Prelude.{◌≡◌, ℕ, List, Result, Ok, Err, MatchResult}
use Rattle.mls_model.specs.Lanes.{Lane}
use Rattle.mls_tape.specs.declared.faults.SchedFault.{SchedFault}
use Rattle.mls_tape.specs.declared.faults.SchedFault.TheVariants.{Bad, Memory}
use Rattle.mls_tape.specs.ScheduleLines.{IsRefusedAt}
use Rattle.mls_tape.specs.ScheduleReading.{LineRefusal}

-- the first line that is refused with its reason, or want of memory
abbrev pub IsRefused : SchedFault → ℕ → List Lane → List ℕ → Type 0
IsRefused (Bad line why) ranks lanes bytes = IsRefusedAt ranks lanes bytes line why
IsRefused Memory ranks lanes bytes = Unit {0}

-- the fault is what reading the bytes gives
abbrev pub IsExact : {A : Type 0} → SchedFault → Result A LineRefusal → Type 0
IsExact (Bad line why) right = right ≡ Err (record { line = line; why = why })
IsExact Memory right = Unit {0}

-- What a function returned, seen by view, is what reading the bytes gives, unless memory ran out.
abbrev pub ReadsLists : {A : Type 0} → (A → List (List ℕ)) → Result A SchedFault → Result (List (List ℕ)) LineRefusal → Type 0
ReadsLists view result right = MatchResult result (λ lists. right ≡ Ok (view lists)) (λ fault. IsExact fault right)
