use Rattle.mls_tape.proofs.Readings.{tape_is_spelled}
use Rattle.mls_tape.proofs.Spellings.{tape_is_read}
use Rattle.mls_tape.proofs.laws.tapes_are_spelled.Goals as goal

pub returns : goal.returns
returns c = record { spelled = tape_is_spelled; read = tape_is_read }
