-- Which sums stand in which columns.
use Rattle.std.proofs.Common.{◌≡◌, ℕ, ◌+◌, ◌-◌, ◌*◌, ◌/◌, ◌%◌, ◌<◌, List, slice_index, ap, ◌∙◌, arith}
use Rattle.std.proofs.lemmas.Bool.{lt-ltb, le-ltb, cond-true, cond-false}
use Rattle.std.proofs.lemmas.Nat.{div-add-mod', mod_below}
use Rattle.mls_field.specs.ColumnSums.{Column, of_column, products_column, powers_column, column_at, sums_step, sums_size}

quarters : (k j n : ℕ) → j < 4 → n ≡ 4 * k + j → (n / 4 ≡ k) × (n % 4 ≡ j)
quarters k j n small e =
    let whole = div-add-mod' n 4 in
    let rest = mod_below n 4 (omega arith) in
    (omega (arith, whole, rest, e, small), omega (arith, whole, rest, e, small))

pub product_there : (p k j n : ℕ) → k < p + 1 → j < 4 → n ≡ 4 * k + j → column_at p n ≡ products_column k j
product_there p k j n inside small e =
    let q = quarters k j n small e in
    cond-true _ _ _ (lt-ltb n (4 + 4 * p) (omega (arith, e, small, inside))) ∙ (ap (λ (i : ℕ). products_column i (n % 4)) q.0 ∙ ap (products_column k) q.1)

pub power_there : (p j n : ℕ) → n ≡ 4 + 4 * p + j → column_at p n ≡ powers_column j
power_there p j n e = cond-false _ _ _ (le-ltb n (4 + 4 * p) (omega (arith, e))) ∙ ap powers_column (let f : n - (4 + 4 * p) ≡ j = omega (arith, e) in f)

-- what a row makes of the sums, where it adds to each what the column's name says
pub record StepsSums (p : ℕ) (old new row : List ℕ) : Type 0 where
  pub each : (c : ℕ) → c < sums_size p → slice_index new c ≡ sums_step p c row (slice_index old c)

pub product_more : (p k j n : ℕ) (old new row : List ℕ) → StepsSums p old new row → k < p + 1 → j < 4 → n ≡ 4 * k + j → slice_index new n ≡ slice_index old n + of_column (products_column k j) row
product_more p k j n old new row steps inside small e =
    steps.each n (omega (arith, e, small, inside)) ∙ ap (λ (column : Column). slice_index old n + of_column column row) (product_there p k j n inside small e)

pub power_more : (p j n : ℕ) (old new row : List ℕ) → StepsSums p old new row → j < 4 → n ≡ 4 + 4 * p + j → slice_index new n ≡ slice_index old n + of_column (powers_column j) row
power_more p j n old new row steps small e =
    steps.each n (omega (arith, small, e)) ∙ ap (λ (column : Column). slice_index old n + of_column column row) (power_there p j n e)
