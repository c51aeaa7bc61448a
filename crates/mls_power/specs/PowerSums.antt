-- The sums of the first to fourth powers of a list of samples, and the six words that hold them.
use Rattle.std.specs.Prelude.{◌≡◌, ℕ, ◌+◌, ◌*◌, ◌^◌, ◌≤◌, List, sum_by, slice_index}

-- Words 0 and 1 are the first two sums. The third and the fourth have two words each, the low one first.
abbrev pub first_in : List ℕ → ℕ
first_in words = slice_index words 0

abbrev pub second_in : List ℕ → ℕ
second_in words = slice_index words 1

abbrev pub third_in : List ℕ → ℕ
third_in words = slice_index words 2 + 2 ^ 64 * slice_index words 3

abbrev pub fourth_in : List ℕ → ℕ
fourth_in words = slice_index words 4 + 2 ^ 64 * slice_index words 5

-- the words hold the sums of the samples
pub record HoldsSums (words ws : List ℕ) : Type 0 where
  pub first : first_in words ≡ sum_by (λ w. w) ws
  pub second : second_in words ≡ sum_by (λ w. w * w) ws
  pub third : third_in words ≡ sum_by (λ w. w * w * w) ws
  pub fourth : fourth_in words ≡ sum_by (λ w. w * w * (w * w)) ws

-- what holds of the sums of n samples of 16 bits
pub record AreInRange (n : ℕ) (words : List ℕ) : Type 0 where
  pub first : first_in words ≤ 65535 * n
  pub second : second_in words ≤ 65535 * first_in words
  pub third : third_in words ≤ 65535 * second_in words
  pub fourth : fourth_in words ≤ 65535 * third_in words
  pub spread : first_in words * first_in words ≤ n * second_in words
