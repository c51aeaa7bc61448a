-- The definitions by which checkpoints are computed.
use Rattle.mls_ckpt.specs.Reading.{spelled, front, number_at, fixed_at, end_at}
use Rattle.mls_ckpt.specs.States.{marked, overlapping}
use Rattle.mls_ckpt.specs.Spellings.{head_numbers, head_text, counts_text, marks_text, share_text, key_text, pending_text, spelled_state}
use Rattle.mls_ckpt.specs.Checkpoints.{head_at, counts_at, marks_row_at, marks_at, share_at, key_at, pending_at, checkpoint_of}
use Rattle.mls_ckpt.specs.CellParts.{powers_text, extrema_text, cell_text, cells_text, cells_of, sums_part, powers_at, extrema_at, above_at, totals_at, column_at, columns_at, cell_at, plane_at, cells_at, part_at}
use Rattle.mls_ckpt.specs.Histories.{row_of, marks_of, pending_of, greatest_life, pending_life, pending_samples, state_after, checkpoint}
use Rattle.mls_examples.proofs.Computing.{of_events}

-- what a state is spelled by, and what bytes are read as
unfoldable pub of_states : Unit {0}
unfolding of_events spelled front number_at fixed_at end_at marked overlapping head_numbers head_text counts_text marks_text share_text key_text pending_text spelled_state head_at counts_at marks_row_at marks_at share_at key_at pending_at checkpoint_of powers_text extrema_text cell_text cells_text cells_of sums_part powers_at extrema_at above_at totals_at column_at columns_at cell_at plane_at cells_at part_at row_of marks_of pending_of greatest_life pending_life pending_samples state_after checkpoint
of_states = tt
