use Rattle.mls_laws.proofs.Outcomes.{few_counts, save_uncounted}
use Rattle.mls_laws.proofs.survival.few_are_counted.Goals as goal

pub returns : goal.returns
returns c = record { few = few_counts; save = save_uncounted }
