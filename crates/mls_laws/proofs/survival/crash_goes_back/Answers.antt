use Rattle.mls_laws.proofs.Surviving.{surviving_crash, before_last_save_more}
use Rattle.mls_laws.proofs.survival.crash_goes_back.Goals as goal

pub returns : goal.returns
returns c = record { crash = surviving_crash; save = before_last_save_more }
