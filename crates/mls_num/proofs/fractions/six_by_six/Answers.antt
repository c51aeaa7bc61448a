use Rattle.std.proofs.Common.{arith}
use Rattle.mls_num.proofs.Division.{six_and_six, at_most_one}
use Rattle.mls_num.proofs.fractions.six_by_six.Goals as goal

pub overflow_cast-result : goal.overflow_cast-result
overflow_cast-result c = omega (arith, six_and_six c.args.num c.args.den c.requires.some, at_most_one c.args.num c.args.den c.requires.within c.requires.some)

pub returns : goal.returns
returns c = six_and_six c.args.num c.args.den c.requires.some
