use Rattle.mls_num.proofs.Index.{millionths_within, millionths_greatest}
use Rattle.mls_num.proofs.laws.millionths_are_greatest.Goals as goal

pub returns-clause-within : goal.returns-clause-within
returns-clause-within c = λ n v w _. millionths_within n v w

pub returns-clause-greatest : goal.returns-clause-greatest
returns-clause-greatest c = millionths_greatest
