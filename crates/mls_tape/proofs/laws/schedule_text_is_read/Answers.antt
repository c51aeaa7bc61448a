use Rattle.mls_tape.proofs.ReadBack.{text_is_read}
use Rattle.mls_tape.proofs.laws.schedule_text_is_read.Goals as goal

pub returns : goal.returns
returns c = text_is_read
