-- Four sums side by side, before and after a row.
use Rattle.std.specs.Prelude.{◌≡◌, ℕ, ◌+◌, ◌*◌, ◌^◌, ◌<◌, List, slice_index}

pub record AreSmall (at : ℕ) (sums : List ℕ) : Type 0 where
  pub first : slice_index sums at < 2 ^ 63
  pub second : slice_index sums (at + 1) < 2 ^ 63
  pub third : slice_index sums (at + 2) < 2 ^ 63
  pub fourth : slice_index sums (at + 3) < 2 ^ 63

-- to every sum a product of samples can be added
pub record HasSpace (p : ℕ) (sums : List ℕ) : Type 0 where
  pub outputs : AreSmall 0 sums
  pub columns : (k : ℕ) → k < p → AreSmall (4 + 4 * k) sums

-- each of the four sums from a place on is greater by one of four numbers
pub record Grew (at : ℕ) (old new : List ℕ) (w x y z : ℕ) : Type 0 where
  pub first : slice_index new at ≡ slice_index old at + w
  pub second : slice_index new (at + 1) ≡ slice_index old (at + 1) + x
  pub third : slice_index new (at + 2) ≡ slice_index old (at + 2) + y
  pub fourth : slice_index new (at + 3) ≡ slice_index old (at + 3) + z
