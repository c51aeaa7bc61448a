use Rattle.mls_examples.proofs.Computing.{of_bytes}
use Rattle.std.proofs.Common.{refl}
use Rattle.mls_examples.proofs.samples.other_sample_kind.Goals as goal

pub returns-clause-version : goal.returns-clause-version
unfolding of_bytes
returns-clause-version c = refl

pub returns-clause-samples : goal.returns-clause-samples
unfolding of_bytes
returns-clause-samples c = refl
