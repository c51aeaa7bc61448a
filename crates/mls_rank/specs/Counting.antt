-- Words on outcomes and counts.
use Rattle.std.specs.Prelude.{◌≢◌, Bool, true, false}
use Rattle.mls_model.specs.declared.outcomes.Outcome.{Outcome}
use Rattle.mls_model.specs.declared.outcomes.Outcome.TheVariants.{Accepted, Kept, Quiet, Save, Crash}
use Rattle.mls_model.specs.declared.outcomes.Counts.{Counts}

-- the counts before any event
abbrev pub no_counts : Counts
no_counts = record { accepted = 0; kept = 0; replay = 0; stale = 0; repeated = 0; f1 = 0; f2 = 0; f3 = 0; f4 = 0; f5 = 0; f6 = 0 }

-- outcomes that change nothing, not even a count
abbrev pub is_idle : Outcome → Bool
is_idle Quiet = true
is_idle Save = true
is_idle Crash = true
is_idle _ = false

abbrev pub is_saved : Outcome → Bool
is_saved Save = true
is_saved _ = false

abbrev pub is_crashed : Outcome → Bool
is_crashed Crash = true
is_crashed _ = false

-- outcomes that leave the pending pieces as they are
abbrev pub IsUnkept : Outcome → Type 0
IsUnkept o = (o ≢ Accepted) × (o ≢ Kept)
