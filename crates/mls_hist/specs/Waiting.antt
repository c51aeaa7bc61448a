-- Samples that wait: of each plane up to sixteen, two for each row, A before B, each at all places before the next.
use Rattle.std.specs.Prelude.{ℕ, ◌+◌, ◌*◌, List, map, slice_index}
use Rattle.mls_model.specs.Numbers.{below}

-- n samples of a list from a place on, each so many places behind the one before it
unfoldable pub column : ℕ → List ℕ → ℕ → ℕ → List ℕ
column places samples at n = map (λ k. slice_index samples (at + k * places)) (below n)

-- where the samples of a plane begin
abbrev pub plane_start : ℕ → ℕ → ℕ
plane_start places plane = plane * (16 * places)
