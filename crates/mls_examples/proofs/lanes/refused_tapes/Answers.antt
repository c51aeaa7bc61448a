use Rattle.mls_examples.proofs.Computing.{of_bytes}
use Rattle.std.proofs.Common.{refl}
use Rattle.mls_examples.proofs.lanes.refused_tapes.Goals as goal

pub returns-clause-empty : goal.returns-clause-empty
unfolding of_bytes
returns-clause-empty c = refl

pub returns-clause-magic : goal.returns-clause-magic
unfolding of_bytes
returns-clause-magic c = refl

pub returns-clause-no_version : goal.returns-clause-no_version
unfolding of_bytes
returns-clause-no_version c = refl

pub returns-clause-version : goal.returns-clause-version
unfolding of_bytes
returns-clause-version c = refl

pub returns-clause-lanes : goal.returns-clause-lanes
unfolding of_bytes
returns-clause-lanes c = refl

pub returns-clause-trailing : goal.returns-clause-trailing
unfolding of_bytes
returns-clause-trailing c = refl

pub returns-clause-kind : goal.returns-clause-kind
unfolding of_bytes
returns-clause-kind c = refl

pub returns-clause-rank : goal.returns-clause-rank
unfolding of_bytes
returns-clause-rank c = refl

pub returns-clause-length : goal.returns-clause-length
unfolding of_bytes
returns-clause-length c = refl

pub returns-clause-bytes : goal.returns-clause-bytes
unfolding of_bytes
returns-clause-bytes c = refl
