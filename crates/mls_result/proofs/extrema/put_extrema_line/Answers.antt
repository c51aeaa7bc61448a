use Rattle.std.proofs.Common.{◌≡◌, ◌<◌, sym, ◌∙◌, ap, arith, to_z, of_z}
use Rattle.std.specs.Int.{w32}
use Rattle.std.proofs.lemmas.Int.{ints}
use Rattle.mls_model.specs.Studies.{Sizes}
use Rattle.mls_model.specs.Samples.{unshifted}
use Rattle.mls_field.specs.Stands.{shape_of}
use Rattle.mls_field.specs.Kept.{sums_at}
use Rattle.mls_text.proofs.Writing.{line_writes}
use Rattle.mls_result.specs.Words.{extrema_words}
use Rattle.mls_result.proofs.Ends.{ends_of_none, ends_of_some}
use Rattle.mls_result.proofs.extrema.put_extrema_line.Goals as goal

pub returns-then-rows-eq0 : goal.returns-then-rows-eq0
returns-then-rows-eq0 g c =
    let none = c.rows-rows.ensures.kept c.args.cell ∙ omega arith in
    line_writes _ _ _ _ _ (sym (ends_of_none (shape_of c.args.field.now).signed (sums_at c.args.field.now c.args.step c.args.cell) none)) c.put_no_ends.ensures

pub returns : goal.returns
returns g c =
    let signed = (shape_of c.args.field.now).signed in
    let sums = sums_at c.args.field.now c.args.step c.args.cell in
    let some : 0 < sums.rows = omega (arith, c.rows-rows.ensures.kept c.args.cell) in
    let same : c.signed-signed.result ≡ signed = c.signed-signed.ensures.value ∙ ap (λ (z : Sizes). z.signed) (sym c.requires.shape) in
    let least = c.unshifted-least.ensures ∙ (λ i. unshifted (same i) ((c.least.ensures.value ∙ c.extrema-extrema.ensures.kept.least) i)) in
    let greatest = c.unshifted-greatest.ensures ∙ (λ i. unshifted (same i) ((c.greatest.ensures.value ∙ c.extrema-extrema.ensures.kept.greatest) i)) in
    let least_back : to_z w32 (of_z w32 c.unshifted-least.result) ≡ c.unshifted-least.result = omega (arith, ints) in
    let greatest_back : to_z w32 (of_z w32 c.unshifted-greatest.result) ≡ c.unshifted-greatest.result = omega (arith, ints) in
    line_writes _ _ _ _ _ (sym (ends_of_some signed sums some ∙ (λ i. extrema_words (sym (least_back ∙ least) i) (sym (greatest_back ∙ greatest) i)))) (line_writes _ _ _ _ _ c.extrema_line.ensures c.put.ensures)
