use Rattle.mls_laws.proofs.Surviving.{no_last_save, no_save_before, last_save_more, crash_after_save_more}
use Rattle.mls_laws.proofs.survival.what_was_saved.Goals as goal

pub returns : goal.returns
returns c = record { none = no_last_save; nothing = no_save_before; last = last_save_more; crash = crash_after_save_more }
