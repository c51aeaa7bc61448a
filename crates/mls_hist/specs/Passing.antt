-- What an answer without a value says of what is read from bytes.
use Rattle.std.specs.Prelude.{◌≡◌, Result, Ok, Err}
use Rattle.mls_ckpt.specs.declared.faults.RecoverFault.{RecoverFault}
use Rattle.mls_ckpt.specs.Reading.{Cursor, Read, Refuses}

-- It has read what it should, and the place is behind it. A fault other than want of memory is the refusal.
abbrev pub Passes : Cursor → Result (Unit {0}) RecoverFault → Read Cursor → Type 0
Passes new (Ok done) read = read ≡ Ok new
Passes new (Err fault) read = Refuses fault read
