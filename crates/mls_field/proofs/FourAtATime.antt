-- Four sums of a cell at a time.
use Rattle.std.proofs.Common.{◌≡◌, ℕ, zero, suc, ◌+◌, ◌-◌, ◌*◌, ◌<◌, ◌≤◌, List, slice_index, inl, inr, ap, ◌∙◌, refl, sym, subst, arith}
use Rattle.std.proofs.lemmas.Bool.{cases_lt}
use Rattle.mls_field.specs.ColumnSums.{Column, sums_size, of_column, most_added, products_column, powers_column, column_at, sums_step}
use Rattle.mls_field.specs.OneCell.{IsRowAt, Stepped}
use Rattle.mls_field.proofs.ColumnPlaces.{product_there, power_there}

-- what holds of four numbers holds of each below four
pub four : (P : ℕ → Type 0) → P 0 → P 1 → P 2 → P 3 → (d : ℕ) → d < 4 → P d
four P first second third fourth zero _ = first
four P first second third fourth (suc zero) _ = second
four P first second third fourth (suc (suc zero)) _ = third
four P first second third fourth (suc (suc (suc zero))) _ = fourth
four P first second third fourth (suc (suc (suc (suc d)))) low = absurd (omega (arith, low))

-- four sums more have the row
pub four_stepped : (p at : ℕ) (old mid new more row : List ℕ) → Stepped (sums_step p) at row old mid → ((c : ℕ) → at ≤ c → slice_index mid c ≡ slice_index old c) → ((d : ℕ) → d < 4 → slice_index new (at + d) ≡ slice_index mid (at + d) + slice_index more d) → ((i : ℕ) → i < at → slice_index new i ≡ slice_index mid i) → ((d : ℕ) → d < 4 → slice_index more d ≡ of_column (column_at p (at + d)) row) → Stepped (sums_step p) (at + 4) row old new
four_stepped p at old mid new more row done rest grew before is = record {
  each = λ c below. elim (cases_lt c at) [
    | inl low ↦ before c low ∙ done.each c low
    | inr not ↦ (
        let d = c - at in
        let d_in : d < 4 = omega (arith, below, not) in
        let e : at + d ≡ c = omega (arith, not) in
        subst (λ (i : ℕ). slice_index new i ≡ sums_step p i row (slice_index old i)) e
        (grew d d_in ∙ (ap (λ (n : ℕ). n + slice_index more d) (rest (at + d) (omega arith)) ∙ ap (λ (n : ℕ). slice_index old (at + d) + n) (is d d_in)))
        )
  ];
}

-- a sample of a row
pub in_row_at : (n places at : ℕ) (samples row : List ℕ) (r j : ℕ) → IsRowAt n places at samples row → r < n → j ≡ at + r * places → slice_index row r ≡ slice_index samples j
in_row_at n places at samples row r j is low e = is.each r low ∙ ap (slice_index samples) (sym e)

-- what is added to the four sums of a parameter, or of A and B, and to those of powers
pub products_are : (p k at : ℕ) (more row : List ℕ) → k < p + 1 → at ≡ 4 * k → ((d : ℕ) → d < 4 → slice_index more d ≡ of_column (products_column k d) row) → (d : ℕ) → d < 4 → slice_index more d ≡ of_column (column_at p (at + d)) row
products_are p k at more row k_in e is d low = is d low ∙ ap (λ (column : Column). of_column column row) (sym (product_there p k d (at + d) k_in low (omega (arith, e))))

pub powers_are : (p at : ℕ) (more row : List ℕ) → at ≡ 4 + 4 * p → ((d : ℕ) → d < 4 → slice_index more d ≡ of_column (powers_column d) row) → (d : ℕ) → d < 4 → slice_index more d ≡ of_column (column_at p (at + d)) row
powers_are p at more row e is d low = is d low ∙ ap (λ (column : Column). of_column column row) (sym (power_there p d (at + d) (omega (arith, e))))

-- there is room for it
most_of_product : (k d : ℕ) → d < 4 → most_added (products_column k d) ≡ 8589934590
most_of_product zero d low = four (λ i. most_added (products_column 0 i) ≡ 8589934590) refl refl refl refl d low
most_of_product (suc k) d low = four (λ i. most_added (products_column (suc k) i) ≡ 8589934590) refl refl refl refl d low

abbrev pub HasRoom : ℕ → List ℕ → Type 0
HasRoom p sums = (c : ℕ) → c < sums_size p → slice_index sums c + most_added (column_at p c) < 18446744073709551616

pub products_fit : (p k at : ℕ) (sums : List ℕ) → k < p + 1 → at ≡ 4 * k → HasRoom p sums → (d : ℕ) → d < 4 → slice_index sums (at + d) + 8589934590 < 18446744073709551616
products_fit p k at sums k_in e room d low =
    subst (λ (m : ℕ). slice_index sums (at + d) + m < 18446744073709551616) (ap most_added (product_there p k d (at + d) k_in low (omega (arith, e))) ∙ most_of_product k d low) (room (at + d) (omega (arith, e, k_in, low)))

pub powers_fit : (p at : ℕ) (sums : List ℕ) → at ≡ 4 + 4 * p → HasRoom p sums → (d : ℕ) → d < 4 → slice_index sums (at + d) + most_added (powers_column d) < 18446744073709551616
powers_fit p at sums e room d low =
    subst (λ (m : ℕ). slice_index sums (at + d) + m < 18446744073709551616) (ap most_added (power_there p d (at + d) (omega (arith, e)))) (room (at + d) (omega (arith, e, low)))
