use Rattle.std.proofs.Common.{arith, ◌<◌, ◌∙◌, sym}
use Rattle.mls_field.specs.Stands.{shape_of}
use Rattle.mls_field.specs.Kept.{sums_at}
use Rattle.mls_result.proofs.Powers.{lines_of_none, lines_of_some}
use Rattle.mls_text.proofs.Writing.{line_writes}
use Rattle.mls_result.proofs.cells.put_power_lines.Goals as goal

pub returns : goal.returns
returns g c =
    let some : 0 < c.rows-rows.result = omega arith in
    let lines = lines_of_some (shape_of c.args.field.now).signed (sums_at c.args.field.now c.args.step c.args.cell) c.rows-rows.result c.powers-powers.result c.moments_of-moments.result.variance c.moments_of-moments.result.third (c.rows-rows.ensures.kept c.args.cell) some c.powers-powers.ensures.kept c.moments_of-moments.ensures.variance c.moments_of-moments.ensures.third in
    line_writes _ _ _ _ _ (sym lines) (line_writes _ _ _ _ _ c.power_lines.ensures c.put.ensures)

pub returns-then-rows-eq0 : goal.returns-then-rows-eq0
returns-then-rows-eq0 g c =
    let none = c.rows-rows.ensures.kept c.args.cell ∙ omega arith in
    line_writes _ _ _ _ _ (sym (lines_of_none (shape_of c.args.field.now).signed (sums_at c.args.field.now c.args.step c.args.cell) none)) c.put_no_powers.ensures
