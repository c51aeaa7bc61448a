-- Why bytes are no events file.
use Rattle.std.specs.Prelude.{◌≡◌, ℕ, List, Result, Err}
use Rattle.mls_model.specs.declared.launcher.Event.{Event}
use Rattle.mls_launch.specs.declared.reading.EventFault.{EventFault}
use Rattle.mls_launch.specs.declared.reading.EventFault.TheVariants.{Line, Memory}
use Rattle.mls_launch.specs.EventsText.{IsRefusedAt}

-- the first line that is the line of no event, or want of memory
abbrev pub IsRefused : EventFault → List ℕ → Type 0
IsRefused (Line line) bytes = IsRefusedAt bytes line
IsRefused Memory bytes = Unit {0}

-- the fault is what the events of the bytes are refused for
abbrev pub IsExact : EventFault → Result (List Event) ℕ → Type 0
IsExact (Line line) right = right ≡ Err line
IsExact Memory right = Unit {0}
