-- The block that the pieces of a key lend.
use Rattle.std.specs.Prelude.{ℕ, ◌+◌, Option}
use Rattle.mls_model.specs.Studies.{Sizes}
use Rattle.mls_model.specs.Blocks.{block, width}
use Rattle.mls_assembly.specs.declared.pending_rows.PendingRows.{PendingRows}
use Rattle.mls_assembly.specs.Shares.{Share, block_sample}
use Rattle.mls_assembly.specs.KeyShares.{share_in}

-- the study's numbers, the rank, and each client's share
abbrev pub sizes_of : PendingRows → Sizes
sizes_of r = r.shape

abbrev pub rank_of : PendingRows → ℕ
rank_of r = r.rank

abbrev pub shares_of : PendingRows → ℕ → Option Share
shares_of r = share_in r.pieces.now

abbrev pub row_count : PendingRows → ℕ
row_count r = (sizes_of r).parameters + 2

abbrev pub place_count : PendingRows → ℕ
place_count r = width (block (sizes_of r) (rank_of r))

abbrev pub sample : PendingRows → ℕ → ℕ → ℕ
sample r = block_sample (sizes_of r) (rank_of r) (shares_of r)
