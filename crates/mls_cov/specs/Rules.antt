-- What holds of the sums of n rows of samples of 16 bits.
use Rattle.std.specs.Prelude.{◌≡◌, ℕ, ◌-◌, ◌*◌, ◌<◌, ◌≤◌, List, slice_index}
use Rattle.mls_model.specs.CellSums.{place_a, place_b, place_aa, place_bb, place_c, place_cc, place_ac, place_bc}
use Rattle.std.specs.Int.{abs_diff}

-- the sum of n samples and the sum of their squares
pub record AreSums (n x xx : ℕ) : Type 0 where
  pub first : x ≤ 65535 * n
  pub second : xx ≤ 65535 * x
  pub spread : x * x ≤ n * xx

-- n² times the variance, and n² times the covariance without its sign
abbrev pub spread_top_in : ℕ → ℕ → ℕ → ℕ
spread_top_in n x xx = n * xx - x * x

abbrev pub covariance_top_in : ℕ → ℕ → ℕ → ℕ → ℕ
covariance_top_in n x y xy = abs_diff (n * xy) (x * y)

-- xy is a sum of n products of samples whose sums and sums of squares are x and xx, y and yy
pub record AreProducts (n x xx y yy xy : ℕ) : Type 0 where
  pub none : n ≡ 0 → xy ≡ 0
  pub within : covariance_top_in n x y xy * covariance_top_in n x y xy ≤ spread_top_in n x xx * spread_top_in n y yy

-- the rules of the sums of C^k
pub record KeepsColumn (n k : ℕ) (sums : List ℕ) : Type 0 where
  pub sums_in : AreSums n (slice_index sums (place_c k)) (slice_index sums (place_cc k))
  pub with_a : AreProducts n (slice_index sums place_a) (slice_index sums place_aa) (slice_index sums (place_c k)) (slice_index sums (place_cc k)) (slice_index sums (place_ac k))
  pub with_b : AreProducts n (slice_index sums place_b) (slice_index sums place_bb) (slice_index sums (place_c k)) (slice_index sums (place_cc k)) (slice_index sums (place_bc k))

-- the rules of the sums of n rows of p + 2 samples
pub record KeepsRules (n p : ℕ) (sums : List ℕ) : Type 0 where
  pub a : AreSums n (slice_index sums place_a) (slice_index sums place_aa)
  pub b : AreSums n (slice_index sums place_b) (slice_index sums place_bb)
  pub columns : (k : ℕ) → k < p → KeepsColumn n k sums

-- one more row can be added
pub record HasRoom (p : ℕ) (sums : List ℕ) : Type 0 where
  pub count : ℕ
  pub few : count < 65535
  pub rules : KeepsRules count p sums
