use Rattle.mls_laws.proofs.Surviving.{surviving_all, surviving_more, survives_at}
use Rattle.mls_laws.proofs.survival.what_survives.Goals as goal

pub returns : goal.returns
returns c = record { no_crash = surviving_all; one_more = surviving_more; after_last_crash = survives_at }
