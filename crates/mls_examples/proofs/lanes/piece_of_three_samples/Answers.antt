use Rattle.mls_examples.proofs.Computing.{of_bytes}
use Rattle.std.proofs.Common.{refl}
use Rattle.mls_examples.proofs.lanes.piece_of_three_samples.Goals as goal

pub returns-clause-spelling : goal.returns-clause-spelling
unfolding of_bytes
returns-clause-spelling c = refl

pub returns-clause-sight : goal.returns-clause-sight
unfolding of_bytes
returns-clause-sight c = refl

pub returns-clause-prefixes : goal.returns-clause-prefixes
unfolding of_bytes
returns-clause-prefixes c = refl
