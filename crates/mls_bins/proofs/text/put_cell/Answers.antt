use Rattle.std.proofs.Common.{◌≡◌, ◌∙◌, ap}
use Rattle.mls_model.specs.Studies.{Sizes, plane_of}
use Rattle.mls_model.specs.Blocks.{block}
use Rattle.mls_rank.specs.Cores.{sizes_of, rank_of as core_rank}
use Rattle.mls_text.proofs.Writing.{first_failed, later_failed, failed_writes, line_writes, writes_after}
use Rattle.mls_bins.proofs.Cells.{said_of_core}
use Rattle.mls_bins.proofs.text.put_cell.Goals as goal

pub returns-in_err-put_step : goal.returns-in_err-put_step
returns-in_err-put_step g c =
    let study = c.args.study.now in
    let is_block : c.block.result ≡ block (sizes_of c.args.core.now) (core_rank c.args.core.now) = c.block.ensures.value ∙ (λ i. block (c.shape-shape.ensures i) (c.rank.ensures.value i)) in
    let is_plane = c.plane-plane.ensures.value ∙ ap (λ z. plane_of z c.args.step c.args.field) (c.shape-shape.ensures ∙ c.requires.sizes) in
    let is_signed = ap (λ (z : Sizes). z.signed) (c.shape-shape.ensures ∙ c.requires.sizes) in
    line_writes _ _ _ _ _ (said_of_core study c.args.core.now c.folded-hist.result.now c.block.result _ c.plane-plane.result c.args.step c.args.field c.args.cell c.rows-groups.result c.whole_counts-counts.result is_block is_plane c.folded-hist.ensures.value is_signed c.rows-groups.ensures.value c.whole_counts-counts.ensures.kept)
    (failed_writes _ _ _ _ _ c.from_residual.ensures.1 (first_failed _ _ _ _ c.in_err-put_step.ensures))

pub returns-in_err-put_bins : goal.returns-in_err-put_bins
returns-in_err-put_bins g c =
    let study = c.args.study.now in
    let is_block : c.block.result ≡ block (sizes_of c.args.core.now) (core_rank c.args.core.now) = c.block.ensures.value ∙ (λ i. block (c.shape-shape.ensures i) (c.rank.ensures.value i)) in
    let is_plane = c.plane-plane.ensures.value ∙ ap (λ z. plane_of z c.args.step c.args.field) (c.shape-shape.ensures ∙ c.requires.sizes) in
    let is_signed = ap (λ (z : Sizes). z.signed) (c.shape-shape.ensures ∙ c.requires.sizes) in
    line_writes _ _ _ _ _ (said_of_core study c.args.core.now c.folded-hist.result.now c.block.result _ c.plane-plane.result c.args.step c.args.field c.args.cell c.rows-groups.result c.whole_counts-counts.result is_block is_plane c.folded-hist.ensures.value is_signed c.rows-groups.ensures.value c.whole_counts-counts.ensures.kept)
    (failed_writes _ _ _ _ _ c.from_residual-in_err-put_bins.ensures.1 (later_failed _ _ _ _ _ c.in_ok-put_step.ensures (first_failed _ _ _ _ c.in_err-put_bins.ensures)))

pub returns : goal.returns
returns g c =
    let study = c.args.study.now in
    let is_block : c.block.result ≡ block (sizes_of c.args.core.now) (core_rank c.args.core.now) = c.block.ensures.value ∙ (λ i. block (c.shape-shape.ensures i) (c.rank.ensures.value i)) in
    let is_plane = c.plane-plane.ensures.value ∙ ap (λ z. plane_of z c.args.step c.args.field) (c.shape-shape.ensures ∙ c.requires.sizes) in
    let is_signed = c.signed.ensures.value ∙ ap (λ (z : Sizes). z.signed) (c.shape-shape.ensures ∙ c.requires.sizes) in
    line_writes _ _ _ _ _ (said_of_core study c.args.core.now c.folded-hist.result.now c.block.result c.signed.result c.plane-plane.result c.args.step c.args.field c.args.cell c.rows-groups.result c.whole_counts-counts.result is_block is_plane c.folded-hist.ensures.value is_signed c.rows-groups.ensures.value c.whole_counts-counts.ensures.kept)
    (writes_after _ _ _ _ _ _ c.in_ok-put_step.ensures (writes_after _ _ _ _ _ _ c.in_ok-put_bins.ensures c.put_quartiles.ensures))
