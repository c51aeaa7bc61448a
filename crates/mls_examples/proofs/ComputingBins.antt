-- The definitions by which the bins text is computed.
use Rattle.mls_model.specs.ResultText.{field_text, step_text, cells_text}
use Rattle.mls_hist.specs.Bins.{count_in, bins_of}
use Rattle.mls_hist.specs.Quartiles.{numbered, quartile, bracket}
use Rattle.mls_hist.specs.BinsText.{bins_title, bin_words, count_words, bins_line, bracket_words, quartiles_line, cell_bins, whole_bins, history_bins, bins_text}
use Rattle.mls_hist.specs.HistPart.{counts_text, hist_text, counts_of, hist_part}
use Rattle.mls_examples.proofs.Computing.{of_texts}
use Rattle.mls_examples.proofs.ComputingStates.{of_states}

-- what is printed of histograms
unfoldable pub of_bins : Unit {0}
unfolding of_texts field_text step_text cells_text count_in bins_of numbered quartile bracket bins_title bin_words count_words bins_line bracket_words quartiles_line cell_bins whole_bins history_bins bins_text
of_bins = tt

-- what is saved of histograms
unfoldable pub of_saved_bins : Unit {0}
unfolding of_states count_in bins_of counts_text hist_text counts_of hist_part
of_saved_bins = tt
