use Rattle.std.proofs.Common.{◌≡◌, ℕ, ◌+◌, ◌*◌, ◌<◌, ◌≤◌, slice_index}
use Rattle.mls_hist.specs.Bins.{count_in}
use Rattle.mls_hist.specs.Waiting.{column}
use Rattle.mls_hist.proofs.adding.add_plane.Given as goal

-- the samples of the places before the loop's were added
abbrev pub invariant-loop-place : goal.invariant-loop-place
invariant-loop-place l = record {
  counts : (place bin : ℕ) → place < l.place → bin < 64 → slice_index l.bins ((l.first + place) * 64 + bin) ≡ slice_index l.fn.bins ((l.first + place) * 64 + bin) + count_in bin (column l.places l.samples (l.start + place) 16);
  before : (j : ℕ) → j < l.first * 64 → slice_index l.bins j ≡ slice_index l.fn.bins j;
  behind : (j : ℕ) → (l.first + l.place) * 64 ≤ j → slice_index l.bins j ≡ slice_index l.fn.bins j;
}
