use Rattle.std.proofs.Common.{◌≡◌, ◌<◌, ◌-◌, length, sym, ◌∙◌, ap, subst, arith}
use Rattle.mls_model.specs.Studies.{Sizes}
use Rattle.mls_model.specs.declared.blocks.Span.{Span}
use Rattle.mls_model.specs.Blocks.{block, rank_of}
use Rattle.mls_model.specs.CellSums.{CellSums}
use Rattle.mls_model.specs.SumsText.{height}
use Rattle.mls_field.specs.declared.field.Field.{Field}
use Rattle.mls_field.specs.Kept.{HasValuePowers, sums_at}
use Rattle.mls_rank.specs.Cores.{sizes_of}
use Rattle.mls_trial.proofs.Sums.{kept_at}
use Rattle.mls_trial.proofs.added.cell_powers.Goals as goal

pub returns : goal.returns
returns c =
    let s = c.args.study.now.sizes in
    let cores = c.args.cores.now in
    let cell = c.args.cell in
    let plane = c.args.plane in
    let rank = c.rank_of-rank.result in
    let core = c.index-cores-rank.result in
    let powers = c.powers.result in
    let here : rank < length cores = omega (arith, c.requires.cores.count, c.rank_of-rank.ensures.within, ap (λ (z : Sizes). z.ranks) c.shape-shape.ensures) in
    let found = ap (λ z. rank_of z cell) (sym c.shape-shape.ensures) ∙ c.rank_of-rank.ensures.value in
    let sizes = c.folded.ensures.sizes ∙ ap sizes_of c.index-cores-rank.is ∙ c.requires.cores.sizes rank core here in
    let own : c.block.result ≡ block s rank = c.block.ensures.value ∙ ap (λ z. block z rank) c.shape-shape.ensures in
    let kept = kept_at s cores rank plane cell core c.requires.cores found here c.index-cores-rank.is in
    let same =
    ap (λ (span : Span). sums_at c.folded.result.now plane (cell - span.first)) own
    ∙ ap (λ (f : Field). sums_at f plane (cell - (block s rank).first)) c.folded.ensures.value
    ∙ kept in
    subst (λ (sums : CellSums). HasValuePowers (height s.signed) sums powers) same (subst (λ (z : Sizes). HasValuePowers (height z.signed) (sums_at c.folded.result.now plane (cell - c.block.result.first)) powers) sizes c.powers.ensures.kept)
