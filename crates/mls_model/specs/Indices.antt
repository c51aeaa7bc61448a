-- Martinez's indices of a list of rows, as truncated millionths.
use Rattle.std.specs.Prelude.{ℕ, ◌+◌, ◌*◌, ◌||◌, cond, List, ℤ, pos, negsuc, ◌-ℤ◌, Option, Some, None, nat_le, ◌==◌, unsigned_abs, neg_ℤ}
use Rattle.std.specs.Option.{option_map}
use Rattle.mls_model.specs.Numbers.{greatest}
use Rattle.mls_model.specs.Statistics.{column, covariance_top, spread_top}

-- the greatest whole q with q² · v · w ≤ 10^12 · c². It is at most 1,000,000 where c² ≤ v · w.
unfoldable pub millionths : ℕ → ℕ → ℕ → ℕ
millionths c v w = greatest 20 (λ q. nat_le (q * q * (v * w)) (1000000000000 * (c * c)))

-- a number with the sign of c
abbrev pub signed_as : ℤ → ℕ → ℤ
signed_as (pos c) q = pos q
signed_as (negsuc c) q = neg_ℤ (pos q)

-- the fraction c / (√v · √w) in millionths, cut off towards 0; none where v or w is 0
unfoldable pub rho6 : ℤ → ℕ → ℕ → Option ℤ
rho6 c v w = cond ((v == 0) || (w == 0)) None (Some (signed_as c (millionths (unsigned_abs c) v w)))

-- of two columns
abbrev pub correlation : List ℤ → List ℤ → Option ℤ
correlation xs ys = rho6 (covariance_top xs ys) (spread_top xs) (spread_top ys)

-- the first-order index of parameter k: of B and C^k
abbrev pub first_index : ℕ → List (List ℤ) → Option ℤ
first_index k rows = correlation (column 1 rows) (column (2 + k) rows)

-- the total index of parameter k: 1 less that of A and C^k
abbrev pub total_index : ℕ → List (List ℤ) → Option ℤ
total_index k rows = option_map (λ r. pos 1000000 -ℤ r) (correlation (column 0 rows) (column (2 + k) rows))
