-- What sending a group answers and leaves.
use Rattle.std.proofs.lemmas.Result.{err_from_is_err_and}
use Rattle.mls_live.proofs.Carrying.{nothing_sent}
use Rattle.mls_live.proofs.group.send.Goals as goal

pub returns-in_err-design : goal.returns-in_err-design
returns-in_err-design g c =
    let p = err_from_is_err_and c.from_residual.result c.from_residual.ensures.1 in
    rw (p.1, p.2) (nothing_sent _ _)
