use Rattle.std.proofs.Common.{◌+◌, ◌*◌, length, ap, ◌∙◌, sym}
use Rattle.mls_model.specs.Studies.{planes}
use Rattle.mls_field.proofs.Whole.{columns_fit}
use Rattle.mls_field.proofs.stored.store.Goals as goal

pub put_sums-requires-clause-columns : goal.put_sums-requires-clause-columns
put_sums-requires-clause-columns c =
    let s = c.args.shape.now in
    columns_fit (8 + 4 * c.parameters.result) c.args.places c.args.plane (planes s) (length c.args.sums.now) c.requires.plane_in (c.requires.sums_long ∙ ap (λ p. planes s * (8 + 4 * p) * c.args.places) (sym c.parameters.ensures.value))

pub put_numbers-requires-clause-columns : goal.put_numbers-requires-clause-columns
put_numbers-requires-clause-columns c =
    let s = c.args.shape.now in
    columns_fit c.thresholds-size.result c.args.places c.args.plane (planes s) (length c.args.numbers.now) c.requires.plane_in (c.requires.numbers_long ∙ ap (λ t. planes s * t * c.args.places) (sym c.thresholds-size.ensures.value))
