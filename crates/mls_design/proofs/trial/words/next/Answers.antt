use Rattle.mls_design.proofs.TrialLanes.{word_next}
use Rattle.mls_design.proofs.trial.words.next.Goals as goal

pub returns : goal.returns
returns c = λ number n h. word_next number n _ _ _ h c.next_word.ensures
