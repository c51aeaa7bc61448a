use Rattle.std.proofs.Common.{refl}
use Rattle.mls_examples.proofs.ComputingBins.{of_bins, of_saved_bins}
use Rattle.mls_examples.proofs.histograms.bins_of_save_crash_replay.Goals as goal

pub returns-clause-text : goal.returns-clause-text
unfolding of_bins
returns-clause-text c = refl

pub returns-clause-saved : goal.returns-clause-saved
unfolding of_saved_bins
returns-clause-saved c = refl
