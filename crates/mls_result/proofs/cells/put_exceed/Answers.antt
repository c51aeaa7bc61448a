use Rattle.std.proofs.Common.{length, sym, ◌∙◌, ap}
use Rattle.std.proofs.lemmas.Bool.{cond-true, cond-false}
use Rattle.mls_model.specs.Studies.{Sizes}
use Rattle.mls_field.specs.Kept.{sums_at}
use Rattle.mls_text.proofs.Writing.{none_out, line_out, line_writes}
use Rattle.mls_result.proofs.cells.put_exceed.Goals as goal

pub returns-then-has_exceed_line : goal.returns-then-has_exceed_line
returns-then-has_exceed_line g c =
    let sums = sums_at c.args.cell.now.field.now c.args.cell.now.plane c.args.cell.now.place in
    let shown = cond-true _ _ _ (sym c.has_exceed_line.ensures ∙ c.if-has_exceed_line.true) in
    let count = c.thresholds-thresholds.ensures.value ∙ ap (λ (z : Sizes). length z.thresholds) (c.shape.ensures ∙ sym c.args.cell.now.sizes) in
    let line = c.exceed_line.ensures sums.above (c.exceed.ensures.kept.long ∙ sym count) c.exceed.ensures.kept.numbers in
    line_writes _ _ _ _ _ (sym shown) (line_writes _ _ _ _ _ line c.put.ensures)

pub returns : goal.returns
returns g c =
    let hidden = cond-false _ _ _ (sym c.has_exceed_line.ensures ∙ c.if-has_exceed_line.false) in
    line_out _ _ _ _ (sym hidden) (none_out _)
