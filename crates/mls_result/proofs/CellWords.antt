-- What is said of a cell, from what was read of its rank's core.
use Rattle.std.proofs.Common.{◌≡◌, List, ℕ, ◌-◌, ◌++◌, ◌<◌, length, get_or, Some, sym, ◌∙◌, ap}
use Rattle.mls_model.specs.declared.blocks.Span.{Span}
use Rattle.mls_model.specs.Studies.{Study, plane_of}
use Rattle.mls_model.specs.Blocks.{block, rank_of}
use Rattle.mls_model.specs.ResultText.{step_line}
use Rattle.mls_model.specs.SumsText.{sums_statistics, sums_text}
use Rattle.mls_field.specs.declared.fold.RowFold.{Ghosts}
use Rattle.mls_field.specs.declared.field.Field.{Field}
use Rattle.mls_field.specs.Kept.{sums_at}
use Rattle.mls_rank.specs.declared.rank_core.RankCore.{RankCore}
use Rattle.mls_rank.specs.Cores.{sizes_of, rank_of as core_rank, fold_of}
use Rattle.mls_result.specs.Histories.{core_sums, kept_said}
use Rattle.mls_result.proofs.States.{kept_at}

-- a step line and statistics of the sums at a plane and a place are what is said of the cell
pub cell_is : {T : Ghosts Field} (study : Study) (core : RankCore Field T) (sums : Field) (own : Span) (plane step field cell rows : ℕ) → own ≡ block (sizes_of core) (core_rank core) → plane ≡ plane_of study.sizes step field → sums ≡ fold_of core → (sums_at sums plane (cell - own.first)).rows ≡ rows → step_line study step field cell rows ++ sums_statistics study (sums_at sums plane (cell - own.first)) ≡ sums_text study step field cell (core_sums core (plane_of study.sizes step field) cell)
cell_is study core sums own plane step field cell rows is_block is_plane is_fold counted =
    let same : sums_at sums plane (cell - own.first) ≡ core_sums core (plane_of study.sizes step field) cell = λ i. sums_at (is_fold i) (is_plane i) (cell - (is_block i).first) in
    (λ i. step_line study step field cell (sym counted i) ++ sums_statistics study (sums_at sums plane (cell - own.first)))
    ∙ ap (sums_text study step field cell) same

-- what is said of a cell from the core of the rank whose block holds it is what the cores say
pub cell_said_of : {T : Ghosts Field} (study : Study) (cores : List (RankCore Field T)) (step field cell rank : ℕ) (core : RankCore Field T) → rank_of study.sizes cell ≡ Some rank → rank < length cores → core ≡ get_or cores rank core → sums_text study step field cell (core_sums core (plane_of study.sizes step field) cell) ≡ kept_said study cores step field cell
cell_said_of study cores step field cell rank core found here is =
    let plane = plane_of study.sizes step field in
    ap (sums_text study step field cell) (ap (λ d. core_sums d plane cell) is ∙ sym (kept_at study.sizes cores rank plane cell core found here))
