-- Samples that wait: of each plane up to eight rows, one after the other, in each row first the samples of A at all places, then those of B, and so on.
use Rattle.std.specs.Prelude.{ℕ, ◌+◌, ◌*◌, List, map, slice_index}
use Rattle.mls_model.specs.Numbers.{below}

-- row g of n samples at a place behind a start, where each kind of samples has so many places
abbrev pub row_behind : ℕ → ℕ → List ℕ → ℕ → ℕ → ℕ → List ℕ
row_behind n places samples start place g = map (λ r. slice_index samples (n * places * g + (start + r * places + place))) (below n)

-- where the samples of a plane begin
abbrev pub plane_start : ℕ → ℕ → ℕ → ℕ
plane_start n places plane = plane * (8 * (n * places))

abbrev pub waiting_row : ℕ → ℕ → List ℕ → ℕ → ℕ → ℕ → List ℕ
waiting_row n places samples plane place g = row_behind n places samples (plane_start n places plane) place g
