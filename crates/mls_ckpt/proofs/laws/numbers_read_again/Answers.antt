use Rattle.mls_ckpt.proofs.Numbers.{number_again}
use Rattle.mls_ckpt.proofs.laws.numbers_read_again.Goals as goal

pub returns : goal.returns
returns c w most n at rest fits few = number_again w most n at rest fits few
