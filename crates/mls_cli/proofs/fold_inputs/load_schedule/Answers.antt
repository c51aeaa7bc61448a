-- Without a name nothing is loaded.
use Rattle.mls_cli.proofs.InputSteps.{loads_nothing}
use Rattle.mls_cli.proofs.fold_inputs.load_schedule.Goals as goal

pub returns-in-None-clause-loads : goal.returns-in-None-clause-loads
returns-in-None-clause-loads g c =
    rw (c.in-None.is) (loads_nothing (λ s. s) _ _ c.plain_schedule.result c.plain_schedule.ensures.right c.plain_schedule.ensures.content)
