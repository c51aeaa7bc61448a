-- The plain schedule is legal.
use Rattle.mls_tape.proofs.Complete.{plain_legal}
use Rattle.mls_cli.proofs.fold_inputs.plain_schedule.Goals as goal

pub returns-in-Ok-clause-legal : goal.returns-in-Ok-clause-legal
returns-in-Ok-clause-legal c =
    rw (c.in-Ok.ensures) (plain_legal c.args.tape.now.ranks c.args.tape.now.lanes)
