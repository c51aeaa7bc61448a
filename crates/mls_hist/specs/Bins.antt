-- Sixty-four bins over shifted values: bin i holds those from 1024 · i to 1024 · i + 1023.
use Rattle.std.specs.Prelude.{ℕ, ◌+◌, ◌*◌, ◌/◌, ◌==◌, Bool, List, map, count_by}
use Rattle.mls_model.specs.Numbers.{below}

-- the bin that holds a shifted value
abbrev pub bin_of : ℕ → ℕ
bin_of x = x / 1024

-- the least and the greatest shifted value of a bin
abbrev pub least_in : ℕ → ℕ
least_in bin = 1024 * bin

abbrev pub greatest_in : ℕ → ℕ
greatest_in bin = 1024 * bin + 1023

abbrev pub is_in : ℕ → ℕ → Bool
is_in bin x = bin_of x == bin

-- how many samples of a list a bin holds, and how many each bin
unfoldable pub count_in : ℕ → List ℕ → ℕ
count_in bin xs = count_by (is_in bin) xs

unfoldable pub bins_of : List ℕ → List ℕ
bins_of xs = map (λ bin. count_in bin xs) (below 64)
