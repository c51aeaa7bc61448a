use Rattle.std.proofs.Common.{refl}
use Rattle.mls_examples.proofs.ComputingBins.{of_bins}
use Rattle.mls_examples.proofs.histograms.bins_of_signed_samples.Goals as goal

pub returns : goal.returns
unfolding of_bins
returns c = refl
