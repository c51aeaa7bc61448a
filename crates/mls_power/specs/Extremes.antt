-- The least and the greatest sample of a list, and the two numbers that hold them.
use Rattle.std.specs.Prelude.{◌≡◌, ℕ, List, map, pos, unwrap_or, slice_index}
use Rattle.mls_model.specs.Statistics.{least, most}

abbrev pub least_in : List ℕ → ℕ
least_in ends = slice_index ends 0

abbrev pub greatest_in : List ℕ → ℕ
greatest_in ends = slice_index ends 1

-- the first number is the least sample, and 65,535 for none, and the second is the greatest, and 0 for none
pub record HoldsExtrema (ends ws : List ℕ) : Type 0 where
  pub least : pos (least_in ends) ≡ unwrap_or (least (map pos ws)) (pos 65535)
  pub greatest : pos (greatest_in ends) ≡ unwrap_or (most (map pos ws)) (pos 0)
