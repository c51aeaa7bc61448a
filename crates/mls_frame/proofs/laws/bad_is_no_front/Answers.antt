use Rattle.mls_frame.proofs.Theorems.{bad_begins, bad_front}
use Rattle.mls_frame.proofs.laws.bad_is_no_front.Goals as goal

pub returns : goal.returns
returns c = record { begins = bad_begins; front = bad_front }
