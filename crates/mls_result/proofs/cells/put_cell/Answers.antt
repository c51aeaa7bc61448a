use Rattle.std.proofs.Common.{◌≡◌, ◌-◌, ◌∙◌, ap}
use Rattle.mls_model.specs.Studies.{plane_of}
use Rattle.mls_model.specs.Blocks.{block}
use Rattle.mls_rank.specs.Cores.{sizes_of, rank_of as core_rank}
use Rattle.mls_text.proofs.Writing.{first_failed, failed_writes, line_writes, writes_after}
use Rattle.mls_result.proofs.CellWords.{cell_is}
use Rattle.mls_result.proofs.cells.put_cell.Goals as goal

pub returns-in_err-put_step : goal.returns-in_err-put_step
returns-in_err-put_step g c =
    let is_block : c.block.result ≡ block (sizes_of c.args.core.now) (core_rank c.args.core.now) = c.block.ensures.value ∙ (λ i. block (c.shape-shape.ensures i) (c.rank.ensures.value i)) in
    let is_plane = c.plane-plane.ensures.value ∙ ap (λ z. plane_of z c.args.step c.args.field) (c.shape-shape.ensures ∙ c.requires.sizes) in
    line_writes _ _ _ _ _ (cell_is c.args.study.now c.args.core.now c.folded-sums.result.now c.block.result c.plane-plane.result c.args.step c.args.field c.args.cell _ is_block is_plane c.folded-sums.ensures.value (c.rows.ensures.kept (c.args.cell - c.block.result.first)))
    (failed_writes _ _ _ _ _ c.from_residual.ensures.1 (first_failed _ _ _ _ c.in_err-put_step.ensures))

pub returns : goal.returns
returns g c =
    let is_block : c.block.result ≡ block (sizes_of c.args.core.now) (core_rank c.args.core.now) = c.block.ensures.value ∙ (λ i. block (c.shape-shape.ensures i) (c.rank.ensures.value i)) in
    let is_plane = c.plane-plane.ensures.value ∙ ap (λ z. plane_of z c.args.step c.args.field) (c.shape-shape.ensures ∙ c.requires.sizes) in
    line_writes _ _ _ _ _ (cell_is c.args.study.now c.args.core.now c.folded-sums.result.now c.block.result c.plane-plane.result c.args.step c.args.field c.args.cell _ is_block is_plane c.folded-sums.ensures.value (c.rows.ensures.kept (c.args.cell - c.block.result.first)))
    (writes_after _ _ _ _ _ _ c.in_ok-put_step.ensures c.put_statistics.ensures)
