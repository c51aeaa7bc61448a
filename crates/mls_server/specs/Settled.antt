-- Which fault of a server is answered.
use Rattle.std.specs.Prelude.{◌≡◌, Bool, true, List, ⊤}
use Rattle.mls_desk.specs.Books.{WireBook, IsReported}
use Rattle.mls_server.specs.declared.faults.ServeFault.{ServeFault}
use Rattle.mls_server.specs.declared.faults.ServeFault.TheVariants.{DoorFault, Rank, Memory}

-- The fault is want of memory, or it is shown: a failed accept by the door, a rank's fault by its book.
abbrev pub IsShown : {K : Type 0} → List (WireBook K) → (failed : Bool) → ServeFault → Type 0
IsShown books failed DoorFault = failed ≡ true
IsShown books failed (Rank fault) = IsReported books fault
IsShown books failed Memory = ⊤
