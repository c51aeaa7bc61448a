-- Columns of numbers, one number for each place, to which the samples of several rows are added.
use Rattle.std.specs.Prelude.{◌≡◌, ℕ, zero, suc, ◌+◌, ◌<◌, ◌≤◌, List, slice_index}

-- what so many rows make of a number, where `step g n` is what row g makes of n
unfoldable pub after : (ℕ → ℕ → ℕ) → ℕ → ℕ → ℕ
after step zero start = start
after step (suc g) start = step g (after step g start)

-- Each number of a column at so many places from `at` on is what a number of rows made of it, where `step k g n` is what row g makes of n at place k. The other numbers stay.
pub record Walked (at count groups : ℕ) (old new : List ℕ) (step : ℕ → ℕ → ℕ → ℕ) : Type 0 where
  pub there : (k : ℕ) → k < count → slice_index new (at + k) ≡ after (step k) groups (slice_index old (at + k))
  pub before : (i : ℕ) → i < at → slice_index new i ≡ slice_index old i
  pub behind : (i : ℕ) → at + count ≤ i → slice_index new i ≡ slice_index old i
