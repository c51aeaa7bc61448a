-- What a watch answers is right.
use Rattle.mls_cli.specs.Tasks.{nothing, saves_none}
use Rattle.mls_cli.proofs.Carrying.{carried_out, carried_refused, fits_nothing, no_usage}
use Rattle.mls_cli.proofs.watch.run_watch.Goals as goal

pub returns-in-Ok-clause-carried : goal.returns-in-Ok-clause-carried
returns-in-Ok-clause-carried g c = λ keepers.
    rw (c.out_status.ensures) (carried_out _ _ _ _ _ _ keepers c.in-Ok.inputs c.write_inputs-answer.result c.in-Ok.ensures c.write_inputs-answer.ensures)

pub returns-in-Err-clause-carried : goal.returns-in-Err-clause-carried
returns-in-Err-clause-carried g c = λ keepers.
    rw (c.into.ensures) (carried_refused saves_none _ _ _ (λ held. nothing) _ _ _ keepers c.in-Err.refusal (λ held is. is) (λ held is. fits_nothing c.in-Err.refusal) c.in-Err.ensures)

pub returns-in-Err-clause-no_usage : goal.returns-in-Err-clause-no_usage
returns-in-Err-clause-no_usage g c = rw (c.into.ensures) (no_usage c.in-Err.refusal)
