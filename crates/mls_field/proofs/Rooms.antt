-- How large the sums of a cell are.
use Rattle.std.proofs.Common.{◌≡◌, ℕ, zero, suc, ◌+◌, ◌-◌, ◌*◌, ◌/◌, ◌%◌, ◌^◌, ◌<◌, ◌≤◌, List, slice_index, inl, inr, refl, sym, subst, arith}
use Rattle.std.proofs.lemmas.Bool.{cases_lt}
use Rattle.std.proofs.lemmas.Nat.{div-add-mod', mod_below}
use Rattle.mls_cov.specs.Steps.{HasSpace}
use Rattle.mls_cov.proofs.Bounds.{space_from_room}
use Rattle.mls_field.specs.ColumnSums.{Column, Samples, Products, Cubes, LowFourths, HighFourths, products_column, powers_column, column_at, sums_size, most_before, most_added}
use Rattle.mls_field.specs.Kinds.{SumsWithin, PowersWithin}
use Rattle.mls_field.proofs.ColumnPlaces.{product_there, power_there}

-- the sum of a column of m rows is at most this
abbrev pub most_of : ℕ → Column → ℕ
most_of m (Samples x) = 9223372036854775807
most_of m (Products x y) = 9223372036854775807
most_of m (Cubes x) = 281462092005375 * m
most_of m LowFourths = 9223372036854775807
most_of m HighFourths = 9223372036854775807

pub before_eight : (m : ℕ) (column : Column) → m ≤ 65527 → most_of m column ≤ most_before column
before_eight m (Samples x) h = omega arith
before_eight m (Products x y) h = omega arith
before_eight m (Cubes x) h = omega (arith, h)
before_eight m LowFourths h = omega arith
before_eight m HighFourths h = omega arith

pub before_one : (m : ℕ) (column : Column) → m ≤ 65534 → most_of m column + most_added column < 2 ^ 64
before_one m (Samples x) h = omega arith
before_one m (Products x y) h = omega arith
before_one m (Cubes x) h = omega (arith, h)
before_one m LowFourths h = omega arith
before_one m HighFourths h = omega arith

plain : (m k j : ℕ) → most_of m (products_column k j) ≡ 9223372036854775807
plain m zero zero = refl
plain m zero (suc zero) = refl
plain m zero (suc (suc zero)) = refl
plain m zero (suc (suc (suc j))) = refl
plain m (suc k) zero = refl
plain m (suc k) (suc zero) = refl
plain m (suc k) (suc (suc zero)) = refl
plain m (suc k) (suc (suc (suc j))) = refl

at_index : (sums : List ℕ) (i c : ℕ) → c ≡ i → slice_index sums i < 2 ^ 63 → slice_index sums c ≤ 9223372036854775807
at_index sums i c e h = subst (λ (n : ℕ). slice_index sums n ≤ 9223372036854775807) (sym e) (omega (arith, h))

product_small : (p : ℕ) (sums : List ℕ) → HasSpace p sums → (k j c : ℕ) → j < 4 → k < p + 1 → c ≡ 4 * k + j → slice_index sums c ≤ 9223372036854775807
product_small p sums space zero zero c small inside e = at_index sums 0 c (omega (arith, e)) space.outputs.first
product_small p sums space zero (suc zero) c small inside e = at_index sums 1 c (omega (arith, e)) space.outputs.second
product_small p sums space zero (suc (suc zero)) c small inside e = at_index sums 2 c (omega (arith, e)) space.outputs.third
product_small p sums space zero (suc (suc (suc zero))) c small inside e = at_index sums 3 c (omega (arith, e)) space.outputs.fourth
product_small p sums space (suc k) zero c small inside e = at_index sums (4 + 4 * k) c (omega (arith, e)) (space.columns k (omega (arith, inside))).first
product_small p sums space (suc k) (suc zero) c small inside e = at_index sums (4 + 4 * k + 1) c (omega (arith, e)) (space.columns k (omega (arith, inside))).second
product_small p sums space (suc k) (suc (suc zero)) c small inside e = at_index sums (4 + 4 * k + 2) c (omega (arith, e)) (space.columns k (omega (arith, inside))).third
product_small p sums space (suc k) (suc (suc (suc zero))) c small inside e = at_index sums (4 + 4 * k + 3) c (omega (arith, e)) (space.columns k (omega (arith, inside))).fourth
product_small p sums space k (suc (suc (suc (suc j)))) c small inside e = absurd (omega (arith, small))

power_small : (m p : ℕ) (sums : List ℕ) → PowersWithin p m sums → m < 65535 → (j c : ℕ) → j < 4 → c ≡ 4 + 4 * p + j → slice_index sums c ≤ most_of m (powers_column j)
power_small m p sums h few zero c small e = subst (λ (n : ℕ). slice_index sums n ≤ 281462092005375 * m) (let f : 4 + 4 * p ≡ c = omega (arith, e) in f) h.cubes_a
power_small m p sums h few (suc zero) c small e = subst (λ (n : ℕ). slice_index sums n ≤ 281462092005375 * m) (let f : 4 + 4 * p + 1 ≡ c = omega (arith, e) in f) h.cubes_b
power_small m p sums h few (suc (suc zero)) c small e = at_index sums (4 + 4 * p + 2) c (omega (arith, e)) (omega (arith, h.low, few))
power_small m p sums h few (suc (suc (suc zero))) c small e = at_index sums (4 + 4 * p + 3) c (omega (arith, e)) (omega (arith, h.high, few))
power_small m p sums h few (suc (suc (suc (suc j)))) c small e = absurd (omega (arith, small))

pub sum_small : (m p : ℕ) (sums : List ℕ) → SumsWithin p m sums → m < 65535 → (c : ℕ) → c < sums_size p → slice_index sums c ≤ most_of m (column_at p c)
sum_small m p sums h few c c_in = elim (cases_lt c (4 + 4 * p)) [
  | inl low ↦ (
      let k = c / 4 in
      let j = c % 4 in
      let whole : c ≡ 4 * k + j = omega (arith, div-add-mod' c 4) in
      let small : j < 4 = mod_below c 4 (omega arith) in
      let inside : k < p + 1 = omega (arith, whole, low) in
      let space = space_from_room p sums (record { count = m; few = few; rules = h.products }) in
      subst (λ (column : Column). slice_index sums c ≤ most_of m column) (sym (product_there p k j c inside small whole))
      (subst (λ (n : ℕ). slice_index sums c ≤ n) (sym (plain m k j)) (product_small p sums space k j c small inside whole))
      )
  | inr high ↦ (
      let j = c - (4 + 4 * p) in
      let e : c ≡ 4 + 4 * p + j = omega (arith, high) in
      subst (λ (column : Column). slice_index sums c ≤ most_of m column) (sym (power_there p j c e)) (power_small m p sums h.powers few j c (omega (arith, e, c_in)) e)
      )
]
