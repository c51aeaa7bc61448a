-- What one more row does to the numbers of a cell, kind by kind.
use Rattle.std.proofs.Common.{◌≡◌, ℕ, zero, suc, ◌+◌, ◌*◌, ◌^◌, ◌<◌, ◌≤◌, List, [], ◌∷◌, ◌++◌, length, slice_index, pos, min, max, ap, ◌∙◌, refl, sym, subst, inl, inr, arith}
use Rattle.std.specs.List.{sum_by}
use Rattle.std.specs.Prelude.{IsTrue}
use Rattle.std.proofs.lemmas.Bool.{cases_lt}
use Rattle.std.proofs.lemmas.Bool.Decides.{nat_tests}
use Rattle.mls_model.specs.Studies.{rises}
use Rattle.mls_power.specs.Extremes.{HoldsExtrema}
use Rattle.mls_power.specs.NumbersAbove.{HoldsAbove}
use Rattle.mls_power.specs.Rules.{AreNumbersAbove}
use Rattle.mls_power.proofs.Least.{least_push, most_push}
use Rattle.mls_power.proofs.Counted.{AddsPair, range_by_pair, holds_by_pair}
use Rattle.mls_field.specs.OutputSteps.{numbers_step}
use Rattle.std.proofs.lemmas.Nat.{mul-le, div-add-mod', mod_below}
use Rattle.std.proofs.lemmas.List.Sums.{sum_by_push}
use Rattle.mls_model.specs.CellSums.{sample}
use Rattle.mls_power.specs.ColumnSteps.{cube_of, fourth_of, low_half, high_half}
use Rattle.mls_cov.specs.Steps.{Grew}
use Rattle.mls_cov.proofs.Bounds.{AddsRow as AddsProducts, rules_more}
use Rattle.mls_cov.proofs.Rows.{holds_more}
use Rattle.mls_field.specs.ShiftedRows.{shifted_outputs}
use Rattle.mls_field.specs.Kinds.{ExtremaWithin, HoldExtrema, NumbersWithin, HoldNumbers, PowersWithin, SumsWithin, HoldSums, second_of, third_of, fourth_of as fourth_sum}
use Rattle.mls_field.proofs.Rows.{outputs_more}
use Rattle.mls_field.proofs.ColumnPlaces.{StepsSums, product_more, power_more}

-- ---- the products
products_grow : (p : ℕ) (old new row : List ℕ) → StepsSums p old new row → ((j : ℕ) → sample j row ≤ 65535) → AddsProducts p old new (λ j. sample j row)
products_grow p old new row steps small = record {
  samples = small;
  outputs = record {
    first = product_more p 0 0 0 old new row steps (omega arith) (omega arith) (omega arith);
    second = product_more p 0 1 1 old new row steps (omega arith) (omega arith) (omega arith);
    third = product_more p 0 2 2 old new row steps (omega arith) (omega arith) (omega arith);
    fourth = product_more p 0 3 3 old new row steps (omega arith) (omega arith) (omega arith);
  };
  columns = λ k in_p. column k in_p;
}
  where
    column : (k : ℕ) → k < p → (let a = sample 0 row in let b = sample 1 row in let c = sample (2 + k) row in Grew (4 + 4 * k) old new c (c * c) (a * c) (b * c))
    column k in_p = record {
      first = product_more p (suc k) 0 (4 + 4 * k) old new row steps (omega arith) (omega arith) (omega arith);
      second = product_more p (suc k) 1 (4 + 4 * k + 1) old new row steps (omega arith) (omega arith) (omega arith);
      third = product_more p (suc k) 2 (4 + 4 * k + 2) old new row steps (omega arith) (omega arith) (omega arith);
      fourth = product_more p (suc k) 3 (4 + 4 * k + 3) old new row steps (omega arith) (omega arith) (omega arith);
    }

-- ---- the powers
cube_small : (x : ℕ) → x ≤ 65535 → cube_of x ≤ 281462092005375
cube_small x h =
    let square : x * x ≤ 65535 * 65535 = mul-le x x 65535 65535 h h in
    let third : x * x * x ≤ 4294836225 * 65535 = mul-le (x * x) x 4294836225 65535 (omega arith) h in
    omega arith

halves_make : (n : ℕ) → low_half n + 2 ^ 32 * high_half n ≡ n
halves_make n = omega (arith, div-add-mod' n (2 ^ 32))

high_small : (x : ℕ) → x ≤ 65535 → high_half (fourth_of x) ≤ 4294967295
high_small x h =
    let square : x * x ≤ 65535 * 65535 = mul-le x x 65535 65535 h h in
    let whole : x * x * (x * x) ≤ 4294836225 * 4294836225 = mul-le (x * x) (x * x) 4294836225 4294836225 (omega arith) (omega arith) in
    omega (arith, halves_make (fourth_of x), whole)

low_small : (n : ℕ) → low_half n ≤ 4294967295
low_small n = omega (arith, mod_below n (2 ^ 32) (omega arith))

cube_by_square : (x : ℕ) → x ≤ 65535 → cube_of x ≤ 65535 * (x * x)
cube_by_square x h = let e : x * (x * x) ≤ 65535 * (x * x) = mul-le x (x * x) 65535 (x * x) h (omega arith) in omega (arith, e)

fourth_by_cube : (x : ℕ) → x ≤ 65535 → fourth_of x ≤ 65535 * cube_of x
fourth_by_cube x h = let e : x * (x * x * x) ≤ 65535 * (x * x * x) = mul-le x (x * x * x) 65535 (x * x * x) h (omega arith) in omega (arith, e)

-- the sums of third and fourth powers with a row more
pub record GrowPowers (p : ℕ) (old new : List ℕ) (a b : ℕ) : Type 0 where
  pub second : second_of new ≡ second_of old + a * a + b * b
  pub third : third_of p new ≡ third_of p old + cube_of a + cube_of b
  pub fourth : fourth_sum p new ≡ fourth_sum p old + fourth_of a + fourth_of b

powers_grow : (p : ℕ) (old new row : List ℕ) → StepsSums p old new row → GrowPowers p old new (sample 0 row) (sample 1 row)
powers_grow p old new row steps =
    let aa = product_more p 0 2 2 old new row steps (omega arith) (omega arith) (omega arith) in
    let bb = product_more p 0 3 3 old new row steps (omega arith) (omega arith) (omega arith) in
    let ca = power_more p 0 (4 + 4 * p) old new row steps (omega arith) (omega arith) in
    let cb = power_more p 1 (4 + 4 * p + 1) old new row steps (omega arith) (omega arith) in
    let low = power_more p 2 (4 + 4 * p + 2) old new row steps (omega arith) (omega arith) in
    let high = power_more p 3 (4 + 4 * p + 3) old new row steps (omega arith) (omega arith) in
    record {
      second = omega (arith, aa, bb);
      third = omega (arith, ca, cb);
      fourth = omega (arith, low, high, halves_make (fourth_of (sample 0 row)), halves_make (fourth_of (sample 1 row)));
    }

powers_within : (n p : ℕ) (old new row : List ℕ) → StepsSums p old new row → sample 0 row ≤ 65535 → sample 1 row ≤ 65535 → PowersWithin p n old → PowersWithin p (n + 1) new
powers_within n p old new row steps a b h =
    let grow = powers_grow p old new row steps in
    record {
      cubes_a = omega (arith, h.cubes_a, power_more p 0 (4 + 4 * p) old new row steps (omega arith) (omega arith), cube_small (sample 0 row) a);
      cubes_b = omega (arith, h.cubes_b, power_more p 1 (4 + 4 * p + 1) old new row steps (omega arith) (omega arith), cube_small (sample 1 row) b);
      low = omega (arith, h.low, power_more p 2 (4 + 4 * p + 2) old new row steps (omega arith) (omega arith), low_small (fourth_of (sample 0 row)), low_small (fourth_of (sample 1 row)));
      high = omega (arith, h.high, power_more p 3 (4 + 4 * p + 3) old new row steps (omega arith) (omega arith), high_small (sample 0 row) a, high_small (sample 1 row) b);
      third = omega (arith, h.third, grow.second, grow.third, cube_by_square (sample 0 row) a, cube_by_square (sample 1 row) b);
      fourth = omega (arith, h.fourth, grow.third, grow.fourth, fourth_by_cube (sample 0 row) a, fourth_by_cube (sample 1 row) b);
    }

pub sums_within : (n p : ℕ) (old new row : List ℕ) → StepsSums p old new row → ((j : ℕ) → sample j row ≤ 65535) → SumsWithin p n old → SumsWithin p (n + 1) new
sums_within n p old new row steps small h = record {
  products = rules_more n p old new (λ j. sample j row) (products_grow p old new row steps small) h.products;
  powers = powers_within n p old new row steps (small 0) (small 1) h.powers;
}

-- ---- the sums of rows
both_pushed : (f : ℕ → ℕ) (rows : List (List ℕ)) (row : List ℕ) → sum_by f (shifted_outputs (rows ++ row ∷ [])) ≡ sum_by f (shifted_outputs rows) + f (sample 0 row) + f (sample 1 row)
both_pushed f rows row =
    ap (sum_by f) (sym (outputs_more rows row (sample 0 row) (sample 1 row) refl refl)) ∙ omega (arith, sum_by_push f (shifted_outputs rows ++ sample 0 row ∷ []) (sample 1 row), sum_by_push f (shifted_outputs rows) (sample 0 row))

pub sums_hold : (p : ℕ) (old new row : List ℕ) → StepsSums p old new row → ((j : ℕ) → sample j row ≤ 65535) → length row ≡ p + 2 → (rows : List (List ℕ)) → HoldSums p old rows → HoldSums p new (rows ++ row ∷ [])
sums_hold p old new row steps small long rows h =
    let grow = powers_grow p old new row steps in
    record {
      products = holds_more p old new (λ j. sample j row) row rows (products_grow p old new row steps small) long (λ j _. refl) h.products;
      third = omega (arith, grow.third, h.third, both_pushed cube_of rows row);
      fourth = omega (arith, grow.fourth, h.fourth, both_pushed fourth_of rows row);
    }

-- ---- the least and greatest samples
pub record StepsEnds (old new row : List ℕ) : Type 0 where
  pub least : slice_index new 0 ≡ min (min (slice_index old 0) (sample 0 row)) (sample 1 row)
  pub greatest : slice_index new 1 ≡ max (max (slice_index old 1) (sample 0 row)) (sample 1 row)

pub ends_within : (n : ℕ) (old new row : List ℕ) → StepsEnds old new row → ((j : ℕ) → sample j row ≤ 65535) → ExtremaWithin n old → ExtremaWithin (n + 1) new
ends_within n old new row steps small h = record {
  rules = record {
    none_least = λ e. absurd (omega arith);
    none_greatest = λ e. absurd (omega arith);
    some = λ _. omega (arith, steps.least, steps.greatest);
  };
  least_small = omega (arith, steps.least, small 0, small 1, h.least_small);
  greatest_small = omega (arith, steps.greatest, small 0, small 1, h.greatest_small);
}

pub ends_hold : (old new row : List ℕ) → StepsEnds old new row → ((j : ℕ) → sample j row ≤ 65535) → (rows : List (List ℕ)) → HoldExtrema old rows → HoldExtrema new (rows ++ row ∷ [])
ends_hold old new row steps small rows h =
    let a = sample 0 row in
    let b = sample 1 row in
    let outputs = outputs_more rows row a b refl refl in
    subst (λ (ws : List ℕ). HoldsExtrema new ws) outputs (record {
      least = ap pos steps.least ∙ least_push (min (slice_index old 0) a) (shifted_outputs rows ++ a ∷ []) b (small 1) (least_push (slice_index old 0) (shifted_outputs rows) a (small 0) h.least);
      greatest = ap pos steps.greatest ∙ most_push (max (slice_index old 1) a) (shifted_outputs rows ++ a ∷ []) b (most_push (slice_index old 1) (shifted_outputs rows) a h.greatest);
    })

pub get_or-beyond : (xs : List ℕ) (k : ℕ) → length xs ≤ k → slice_index xs k ≡ 0
get_or-beyond [] k h = refl
get_or-beyond (x ∷ xs) zero h = absurd (omega (arith, h))
get_or-beyond (x ∷ xs) (suc k) h = get_or-beyond xs k (omega (arith, h))

-- ---- the numbers above thresholds
pub record StepsNumbers (thresholds old new row : List ℕ) : Type 0 where
  pub rises : IsTrue (rises thresholds)
  pub each : (c : ℕ) → c < length thresholds → slice_index new c ≡ numbers_step thresholds c row (slice_index old c)
  pub long : length old ≡ length thresholds
  pub long' : length new ≡ length thresholds

numbers_grow : (thresholds old new row : List ℕ) → StepsNumbers thresholds old new row → AddsPair thresholds (sample 0 row) (sample 1 row) old new
numbers_grow ts old new row steps = record {
  rises = steps.rises;
  each = λ k. elim (cases_lt k (length ts)) [
    | inl low ↦ grind (arith, nat_tests, steps.each k low)
    | inr high ↦ (let e = get_or-beyond old k (omega (arith, high, steps.long)) in let f = get_or-beyond new k (omega (arith, high, steps.long')) in grind (arith, nat_tests, e, f))
  ];
}

pub numbers_within : (n : ℕ) (thresholds old new row : List ℕ) → StepsNumbers thresholds old new row → NumbersWithin n old → NumbersWithin (n + 1) new
numbers_within n ts old new row steps h =
    subst (λ (m : ℕ). AreNumbersAbove m new) (let e : 2 * n + 2 ≡ 2 * (n + 1) = omega arith in e) (range_by_pair ts (sample 0 row) (sample 1 row) old new (numbers_grow ts old new row steps) (2 * n) h)

pub numbers_hold : (thresholds old new row : List ℕ) → StepsNumbers thresholds old new row → (rows : List (List ℕ)) → HoldNumbers thresholds old rows → HoldNumbers thresholds new (rows ++ row ∷ [])
numbers_hold ts old new row steps rows h =
    subst (λ (ws : List ℕ). HoldsAbove ts new ws) (outputs_more rows row (sample 0 row) (sample 1 row) refl refl) (holds_by_pair ts (sample 0 row) (sample 1 row) old new (numbers_grow ts old new row steps) (shifted_outputs rows) h)
