use Rattle.std.proofs.Common.{◌≡◌, [], cond, sym, ◌∙◌, subst}
use Rattle.std.proofs.lemmas.Bool.{cond-true, cond-false}
use Rattle.mls_model.specs.declared.studies.Statistic.TheVariants.{Sobol}
use Rattle.mls_model.specs.Studies.{Sizes, shows}
use Rattle.mls_model.specs.SumsText.{sums_indices}
use Rattle.mls_field.specs.Kept.{sums_at, HasProducts}
use Rattle.mls_text.proofs.Writing.{none_out, line_out, line_writes}
use Rattle.mls_result.proofs.cells.put_indices.Goals as goal

pub returns-then-shows : goal.returns-then-shows
returns-then-shows g c =
    let study = c.args.cell.now.study.now in
    let sums = sums_at c.args.cell.now.field.now c.args.cell.now.plane c.args.cell.now.place in
    let shown : cond (shows study Sobol) (sums_indices study sums) [] ≡ sums_indices study sums = cond-true _ _ _ (sym c.shows.ensures ∙ c.if-shows.true) in
    let has : HasProducts study.sizes.parameters sums c.martinez-sums.result = subst (λ (z : Sizes). HasProducts z.parameters sums c.martinez-sums.result) c.args.cell.now.sizes c.martinez-sums.ensures.kept in
    line_writes _ _ _ _ _ (sym shown) (c.put_sobol_lines.ensures sums has)

pub returns : goal.returns
returns g c =
    let hidden : cond (shows c.args.cell.now.study.now Sobol) (sums_indices c.args.cell.now.study.now (sums_at c.args.cell.now.field.now c.args.cell.now.plane c.args.cell.now.place)) [] ≡ [] = cond-false _ _ _ (sym c.shows.ensures ∙ c.if-shows.false) in
    line_out _ _ _ _ (sym hidden) (none_out _)
