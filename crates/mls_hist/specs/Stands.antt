-- When the counts of a rank's block stand for lists of rows.
use Rattle.std.specs.Prelude.{ℕ, List, slice_index}
use Rattle.mls_model.specs.Studies.{Sizes}
use Rattle.mls_model.specs.Standing.{Table}
use Rattle.mls_field.specs.ShiftedRows.{with_rows}
use Rattle.mls_field.specs.PlaneCounts.{IsOneMore}
use Rattle.mls_hist.specs.declared.hist.Hist.{Hist}
use Rattle.mls_hist.specs.Histograms.{HoldsTable, count_at, counts_at}

-- the study's numbers, the rank whose block it is, and how many rows were added to a plane
abbrev pub shape_of : Hist → Sizes
shape_of h = h.shape

abbrev pub rank_of : Hist → ℕ
rank_of h = h.rank

abbrev pub row_count : Hist → ℕ → ℕ
row_count h plane = slice_index h.counts.items plane

abbrev pub StandsFor : Hist → Table → Type 0
StandsFor h table = HoldsTable h.shape h.places h.counts.items h.waiting.items h.bins.items h.samples.items table

-- how many samples of the cell at a place of a plane a bin holds, and how many each bin, with the rows that wait
abbrev pub bin_count : Hist → ℕ → ℕ → ℕ → ℕ
bin_count h plane place bin = count_at h.places h.waiting.items h.bins.items h.samples.items plane place bin

abbrev pub bin_counts : Hist → ℕ → ℕ → List ℕ
bin_counts h plane place = counts_at h.places h.waiting.items h.bins.items h.samples.items plane place

-- one row more was added to a plane, and none to another
abbrev pub CountsOneMore : Hist → Hist → ℕ → Type 0
CountsOneMore old new step = IsOneMore (row_count old) (row_count new) step

-- where it stood for lists of rows, it stands for these with a row more at each place of a plane
abbrev pub StandsForMore : Hist → Hist → ℕ → ℕ → (ℕ → ℕ → ℕ) → Type 0
StandsForMore old new step rows sample =
    (t : Table) → StandsFor old t → StandsFor new (with_rows (shape_of old) (rank_of old) t step rows sample)
