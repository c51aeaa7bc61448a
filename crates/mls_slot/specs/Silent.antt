-- A disk that tells nothing.
use Rattle.std.specs.Prelude.{[]}
use Rattle.mls_slot.specs.Disks.{View}

-- stands where nothing is told, and is never asked
abbrev pub silent : View
silent = record { seen = λ area. []; may_leave = λ area bytes. Unit {0}; moment = 0; left_since = λ t image. Unit {0} }
