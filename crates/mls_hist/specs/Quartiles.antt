-- The quartiles of a list of samples, and the bins that hold them.
use Rattle.std.specs.Prelude.{◌≡◌, ℕ, ◌+◌, ◌-◌, ◌*◌, ◌/◌, ◌≤◌, ◌==◌, Bool, ◌&&◌, cond, List, length, take, sum, count_by, find, get_or, Option, Some, None, nat_lt, nat_le}
use Rattle.std.specs.List.{position_or_len}
use Rattle.std.specs.List.Sorted.{IsPermutation, IsNonDecreasing}
use Rattle.std.specs.Option.{option_map}
use Rattle.mls_model.specs.Numbers.{below}
use Rattle.mls_hist.specs.Bins.{bin_of}

-- the number of quartile j among N sorted samples, from 1: N · j / 4, rounded up
abbrev pub quartile_number : ℕ → ℕ → ℕ
quartile_number n j = (n * j + 3) / 4

-- Whether a sample has a number, from 1, in the sorted list: fewer than so many are smaller, and at least so many are at most it.
abbrev pub has_number : List ℕ → ℕ → ℕ → Bool
has_number xs k v = nat_lt (count_by (λ x. nat_lt x v) xs) k && nat_le k (count_by (λ x. nat_le x v) xs)

-- the sample with a number, where there are so many
unfoldable pub numbered : List ℕ → ℕ → Option ℕ
numbered xs k = find (has_number xs k) xs

unfoldable pub quartile : List ℕ → ℕ → Option ℕ
quartile xs j = numbered xs (quartile_number (length xs) j)

-- the bin that holds quartile j, where there is a sample
unfoldable pub bracket : List ℕ → ℕ → Option ℕ
bracket xs j = option_map bin_of (quartile xs j)

-- whether a bin and those before it hold so many samples, from the counts of all bins
abbrev pub reaches : List ℕ → ℕ → ℕ → Bool
reaches counts k bin = nat_le k (sum (take (bin + 1) counts))

-- the first bin that does, and the last where none before it does
unfoldable pub first_bin : List ℕ → ℕ → ℕ
first_bin counts k = position_or_len (reaches counts k) (below 63)

-- the bin of quartile j, from the counts of all bins
unfoldable pub bracket_in : List ℕ → ℕ → Option ℕ
bracket_in counts j = cond (sum counts == 0) None (Some (first_bin counts (quartile_number (sum counts) j)))

-- the sample with a number is the one at its place of the list when it is sorted
abbrev pub NumbersAreSorted : Type 0
NumbersAreSorted = (xs sorted : List ℕ) (k : ℕ) → IsPermutation xs sorted → IsNonDecreasing sorted → 1 ≤ k → k ≤ length xs →
    numbered xs k ≡ Some (get_or sorted (k - 1) 0)
