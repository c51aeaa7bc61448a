use Rattle.mls_ckpt.proofs.Numbers.{number_taken}
use Rattle.mls_ckpt.proofs.laws.numbers_are_spelled.Goals as goal

pub returns : goal.returns
returns c w most n old new bytes is =
    let read = number_taken w most old (n, new) bytes is in
    (read.stands, read.valid.few)
