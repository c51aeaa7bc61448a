use Rattle.std.proofs.Common.{◌≡◌, [], cond, sym, ◌∙◌, ap}
use Rattle.std.proofs.lemmas.Bool.{cond-true, cond-false}
use Rattle.mls_model.specs.declared.studies.Statistic.TheVariants.{Extrema}
use Rattle.mls_model.specs.Studies.{Sizes, shows}
use Rattle.mls_model.specs.SumsText.{sums_extrema}
use Rattle.mls_field.specs.Stands.{shape_of}
use Rattle.mls_field.specs.Kept.{sums_at}
use Rattle.mls_text.proofs.Writing.{none_out, line_out, line_writes}
use Rattle.mls_result.proofs.cells.put_extrema.Goals as goal

pub returns-then-shows : goal.returns-then-shows
returns-then-shows g c =
    let study = c.args.cell.now.study.now in
    let sums = sums_at c.args.cell.now.field.now c.args.cell.now.plane c.args.cell.now.place in
    let shown : cond (shows study Extrema) (sums_extrema study.sizes.signed sums) [] ≡ sums_extrema (shape_of c.args.cell.now.field.now).signed sums = cond-true _ _ _ (sym c.shows.ensures ∙ c.if-shows.true) ∙ ap (λ (z : Sizes). sums_extrema z.signed sums) (sym c.args.cell.now.sizes) in
    line_writes _ _ _ _ _ (sym shown) c.put_extrema_line.ensures

pub returns : goal.returns
returns g c =
    let hidden : cond (shows c.args.cell.now.study.now Extrema) (sums_extrema c.args.cell.now.study.now.sizes.signed (sums_at c.args.cell.now.field.now c.args.cell.now.plane c.args.cell.now.place)) [] ≡ [] = cond-false _ _ _ (sym c.shows.ensures ∙ c.if-shows.false) in
    line_out _ _ _ _ (sym hidden) (none_out _)
