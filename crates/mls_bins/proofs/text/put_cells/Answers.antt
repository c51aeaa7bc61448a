use Rattle.std.proofs.Common.{arith, ◌≡◌, ◌<◌, ◌≤◌, ◌∙◌, ap, sym, subst, length}
use Rattle.std.specs.List.{flat_map}
use Rattle.mls_model.specs.Numbers.{below}
use Rattle.mls_model.specs.Studies.{Sizes}
use Rattle.mls_model.specs.Blocks.{block, rank_of}
use Rattle.mls_model.specs.ResultText.{field_text}
use Rattle.mls_rank.specs.Cores.{sizes_of, rank_of as core_rank}
use Rattle.mls_text.proofs.Writing.{line_out, line_failed, failed_writes}
use Rattle.mls_bins.specs.Folding.{kept_said}
use Rattle.mls_text.proofs.Counted.{number_more, number_failed, number_all}
use Rattle.mls_bins.proofs.Cells.{kept_of_core}
use Rattle.mls_bins.proofs.text.put_cells.Goals as goal

pub put_cell-requires-clause-sizes : goal.put_cell-requires-clause-sizes
put_cell-requires-clause-sizes g c =
    let in_ranks : c.rank_of-rank.result < length c.args.cores.now = omega (arith, c.requires.cores.count, c.rank_of-rank.ensures.within, ap (λ (z : Sizes). z.ranks) c.shape-shape.ensures) in
    ap sizes_of c.index-cores-rank.is ∙ c.requires.cores.sizes c.rank_of-rank.result c.index-cores-rank.result in_ranks

pub put_cell-requires-clause-first : goal.put_cell-requires-clause-first
put_cell-requires-clause-first g c =
    let rank = c.rank_of-rank.result in
    let in_ranks : rank < length c.args.cores.now = omega (arith, c.requires.cores.count, c.rank_of-rank.ensures.within, ap (λ (z : Sizes). z.ranks) c.shape-shape.ensures) in
    let own : core_rank c.index-cores-rank.result ≡ rank = ap core_rank c.index-cores-rank.is ∙ c.requires.cores.ranks rank c.index-cores-rank.result in_ranks in
    subst (λ r. (block c.args.study.now.sizes r).first ≤ c.loop-cell.cell) (sym own) (subst (λ z. (block z rank).first ≤ c.loop-cell.cell) c.shape-shape.ensures c.rank_of-rank.ensures.first)

pub put_cell-requires-clause-end : goal.put_cell-requires-clause-end
put_cell-requires-clause-end g c =
    let rank = c.rank_of-rank.result in
    let in_ranks : rank < length c.args.cores.now = omega (arith, c.requires.cores.count, c.rank_of-rank.ensures.within, ap (λ (z : Sizes). z.ranks) c.shape-shape.ensures) in
    let own : core_rank c.index-cores-rank.result ≡ rank = ap core_rank c.index-cores-rank.is ∙ c.requires.cores.ranks rank c.index-cores-rank.result in_ranks in
    subst (λ r. c.loop-cell.cell < (block c.args.study.now.sizes r).end) (sym own) (subst (λ z. c.loop-cell.cell < (block z rank).end) c.shape-shape.ensures c.rank_of-rank.ensures.end)

pub returns-in_err-put_cell : goal.returns-in_err-put_cell
unfolding field_text
returns-in_err-put_cell g c =
    let study = c.args.study.now in
    let in_ranks : c.rank_of-rank.result < length c.args.cores.now = omega (arith, c.requires.cores.count, c.rank_of-rank.ensures.within, ap (λ (z : Sizes). z.ranks) c.shape-shape.ensures) in
    let found = ap (λ z. rank_of z c.loop-cell.cell) (sym c.shape-shape.ensures) ∙ c.rank_of-rank.ensures.value in
    let same = kept_of_core study c.args.cores.now c.args.step c.args.field c.loop-cell.cell c.rank_of-rank.result c.index-cores-rank.result found in_ranks c.index-cores-rank.is in
    let said = kept_said study c.args.cores.now c.args.step c.args.field in
    failed_writes _ _ _ _ _ c.from_residual.ensures.1
    (line_failed _ _ _ _ (ap (λ n. flat_map said (below n)) c.requires.cells)
    (number_failed said c.loop-cell.cell c.args.cells _ _ _ _ c.loop-cell-test.true c.loop-cell.invariant (line_failed _ _ _ _ same c.in_err-put_cell.ensures)))

pub loop-cell-preserved : goal.loop-cell-preserved
loop-cell-preserved g c =
    let study = c.args.study.now in
    let in_ranks : c.rank_of-rank.result < length c.args.cores.now = omega (arith, c.requires.cores.count, c.rank_of-rank.ensures.within, ap (λ (z : Sizes). z.ranks) c.shape-shape.ensures) in
    let found = ap (λ z. rank_of z c.loop-cell.cell) (sym c.shape-shape.ensures) ∙ c.rank_of-rank.ensures.value in
    let same = kept_of_core study c.args.cores.now c.args.step c.args.field c.loop-cell.cell c.rank_of-rank.result c.index-cores-rank.result found in_ranks c.index-cores-rank.is in
    let said = kept_said study c.args.cores.now c.args.step c.args.field in
    number_more said c.loop-cell.cell c.args.cells _ _ _ _ c.loop-cell-test.true c.loop-cell.invariant (line_out _ _ _ _ same c.in_ok-put_cell.ensures)

pub returns : goal.returns
unfolding field_text
returns g c =
    let said = kept_said c.args.study.now c.args.cores.now c.args.step c.args.field in
    line_out _ _ _ _ (ap (λ n. flat_map said (below n)) c.requires.cells) (number_all said c.loop-cell.cell c.args.cells _ _ _ c.loop-cell-test.false c.loop-cell.invariant)
