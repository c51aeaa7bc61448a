-- What a run answers is right.
use Rattle.mls_live.proofs.Carrying.{no_usage}
use Rattle.mls_live.proofs.Tasks.{carries_ran, carries_unloaded}
use Rattle.mls_live.proofs.running.run_run.Goals as goal

pub returns-in-Ok-clause-carried : goal.returns-in-Ok-clause-carried
returns-in-Ok-clause-carried g c = λ door. carries_ran _ _ _ _ _ _ _ _ _ door c.in-Ok.inputs _ (c.in-Ok.ensures.loads c.args.name.now) c.run_tape.ensures.ran c.run_tape.ensures.called

pub returns-in-Err-clause-carried : goal.returns-in-Err-clause-carried
returns-in-Err-clause-carried g c = λ door. rw (c.into.ensures) (carries_unloaded _ _ _ _ _ _ door c.in-Err.refusal (c.in-Err.ensures.loads c.args.name.now))

pub returns-in-Err-clause-no_usage : goal.returns-in-Err-clause-no_usage
returns-in-Err-clause-no_usage g c = rw (c.into.ensures) (no_usage c.in-Err.refusal)
