-- What was made is what is right of the study and the number.
use Rattle.std.proofs.Common.{refl}
use Rattle.mls_design.specs.Trial.{trial_bytes}
use Rattle.mls_cli.proofs.trial.made_of.Goals as goal

pub returns-in-Ok-clause-right : goal.returns-in-Ok-clause-right
returns-in-Ok-clause-right c = rw (c.in-Ok.ensures.fits, c.in-Ok.ensures.lanes, c.in-Ok.ensures.schedule) refl

pub returns-in-Ok-clause-tape : goal.returns-in-Ok-clause-tape
unfolding trial_bytes
returns-in-Ok-clause-tape c = rw (c.in-Ok.ensures.bytes, c.in-Ok.ensures.lanes) refl

pub returns-in-Ok-clause-legal : goal.returns-in-Ok-clause-legal
returns-in-Ok-clause-legal c = c.complete_schedules_are_legal.ensures _ _ _ c.in-Ok.ensures.complete

pub returns-in-Ok-clause-groups : goal.returns-in-Ok-clause-groups
returns-in-Ok-clause-groups c = c.trials_accept_all_groups.ensures.line _ _ _ c.valid.ensures.sizes c.in-Ok.ensures.accepts

pub returns-in-Err-TooLarge-clause-right : goal.returns-in-Err-TooLarge-clause-right
returns-in-Err-TooLarge-clause-right c = rw (c.in-Err-TooLarge.ensures.too_large c.in-Err-TooLarge.field-0-is) refl
