use Rattle.mls_examples.proofs.Computing.{of_bytes}
use Rattle.std.proofs.Common.{refl}
use Rattle.mls_examples.proofs.lanes.spelled_tapes.Goals as goal

pub returns-clause-no_lane : goal.returns-clause-no_lane
unfolding of_bytes
returns-clause-no_lane c = refl

pub returns-clause-signed : goal.returns-clause-signed
unfolding of_bytes
returns-clause-signed c = refl

pub returns-clause-size : goal.returns-clause-size
unfolding of_bytes
returns-clause-size c = refl

pub returns-clause-read : goal.returns-clause-read
unfolding of_bytes
returns-clause-read c = refl

pub returns-clause-read_signed : goal.returns-clause-read_signed
unfolding of_bytes
returns-clause-read_signed c = refl

pub returns-clause-old_version : goal.returns-clause-old_version
unfolding of_bytes
returns-clause-old_version c = refl

pub returns-clause-other_samples : goal.returns-clause-other_samples
unfolding of_bytes
returns-clause-other_samples c = refl

pub returns-clause-spelled : goal.returns-clause-spelled
unfolding of_bytes
returns-clause-spelled c = refl
