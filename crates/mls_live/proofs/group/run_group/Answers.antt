-- What a group answers is right.
use Rattle.mls_live.proofs.Carrying.{carried_loaded, carried_refused, no_usage}
use Rattle.mls_live.proofs.group.run_group.Goals as goal

pub returns-in-Ok-clause-carried : goal.returns-in-Ok-clause-carried
returns-in-Ok-clause-carried g c = carried_loaded _ _ _ _ _ _ _ c.in-Ok.study _ c.in-Ok.ensures c.send_of.ensures

pub returns-in-Err-clause-carried : goal.returns-in-Err-clause-carried
returns-in-Err-clause-carried g c = rw (c.into.ensures) (carried_refused _ _ _ _ _ _ c.in-Err.refusal c.in-Err.ensures)

pub returns-in-Err-clause-no_usage : goal.returns-in-Err-clause-no_usage
returns-in-Err-clause-no_usage g c = rw (c.into.ensures) (no_usage c.in-Err.refusal)
