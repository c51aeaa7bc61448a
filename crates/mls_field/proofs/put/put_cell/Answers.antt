use Rattle.std.proofs.Common.{ℕ, ◌+◌, ◌*◌, [], length, take, refl, ap, ◌∙◌, subst, arith}
use Rattle.mls_field.specs.ColumnSums.{sums_size}
use Rattle.mls_field.specs.Copied.{copied}
use Rattle.mls_field.specs.PackedCells.{kept_cell}
use Rattle.mls_field.specs.PutBytes.{Grown, powers_of_sums}
use Rattle.mls_field.proofs.Texts.{cell_put}
use Rattle.mls_field.proofs.PutAt.{front_copied}
use Rattle.mls_field.proofs.put.put_cell.Goals as goal

pub returns-clause-text : goal.returns-clause-text
returns-clause-text c = λ n.
    let p = c.args.shape.now.parameters in
    let place = c.args.place in
    let sums = c.args.sums.now in
    let numbers = c.args.numbers.now in
    let cell = kept_cell p n (copied (sums_size p) sums place) (copied 2 c.args.ends.now place) (copied (length c.args.shape.now.thresholds) numbers place) in
    let powers = subst (λ (q : ℕ). Grown [] (take 48 c.put_powers.new.bytes) (powers_of_sums q (copied (sums_size q) sums place))) c.parameters-parameters.ensures.value c.put_powers.ensures in
    cell_put cell _ _ _ _ _ _ _ _ [] (take 48 c.put_powers.new.bytes) (take 52 c.put_ends.new.bytes) (take (52 + 4 * c.thresholds-thresholds.result) c.put_numbers.new.bytes) (take (52 + 4 * c.thresholds-thresholds.result + 8 * (4 + 4 * c.parameters-parameters.result)) c.put_products.new.bytes)
    refl refl refl refl refl refl (ap (λ (t : ℕ). copied t numbers place) c.thresholds-thresholds.ensures.value)
    (ap (λ (q : ℕ). copied (4 + 4 * q) sums place) c.parameters-parameters.ensures.value ∙ front_copied (4 + 4 * p) (sums_size p) place sums (omega arith))
    powers c.put_ends.ensures c.put_numbers.ensures c.put_products.ensures
