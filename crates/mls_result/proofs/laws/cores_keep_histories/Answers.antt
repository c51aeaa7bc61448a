use Rattle.mls_result.proofs.ValueSums.{keep_histories}
use Rattle.mls_result.proofs.laws.cores_keep_histories.Goals as goal

pub returns : goal.returns
returns c = keep_histories
