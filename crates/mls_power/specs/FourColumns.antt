-- Four columns of numbers, each so far behind the one before, to which the samples of several rows are added.
use Rattle.std.specs.Prelude.{◌≡◌, ℕ, ◌+◌, ◌*◌, ◌<◌, ◌≤◌, List, slice_index}
use Rattle.mls_power.specs.Columns.{after}

-- Each number of the four columns at so many places from `at` on is what a number of rows made of it, where `first k g n` is what row g makes of n at place k of the first column, and so on. The other numbers stay.
pub record FourWalked (at apart count groups : ℕ) (old new : List ℕ) (first second third fourth : ℕ → ℕ → ℕ → ℕ) : Type 0 where
  pub in_first : (k : ℕ) → k < count → slice_index new (at + k) ≡ after (first k) groups (slice_index old (at + k))
  pub in_second : (k : ℕ) → k < count → slice_index new (at + apart + k) ≡ after (second k) groups (slice_index old (at + apart + k))
  pub in_third : (k : ℕ) → k < count → slice_index new (at + 2 * apart + k) ≡ after (third k) groups (slice_index old (at + 2 * apart + k))
  pub in_fourth : (k : ℕ) → k < count → slice_index new (at + 3 * apart + k) ≡ after (fourth k) groups (slice_index old (at + 3 * apart + k))
  pub before : (i : ℕ) → i < at → slice_index new i ≡ slice_index old i
  pub behind_first : (i : ℕ) → at + count ≤ i → i < at + apart → slice_index new i ≡ slice_index old i
  pub behind_second : (i : ℕ) → at + apart + count ≤ i → i < at + 2 * apart → slice_index new i ≡ slice_index old i
  pub behind_third : (i : ℕ) → at + 2 * apart + count ≤ i → i < at + 3 * apart → slice_index new i ≡ slice_index old i
  pub behind : (i : ℕ) → at + 3 * apart + count ≤ i → slice_index new i ≡ slice_index old i
