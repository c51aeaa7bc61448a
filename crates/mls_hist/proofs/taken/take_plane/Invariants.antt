use Rattle.std.proofs.Common.{◌≡◌, ℕ, ◌-◌, ◌*◌, ◌<◌, slice_index}
use Rattle.std.specs.Prelude.{sum}
use Rattle.mls_ckpt.specs.Reading.{many}
use Rattle.mls_ckpt.specs.States.{after_one}
use Rattle.mls_ckpt.specs.Places.{cursor_of}
use Rattle.mls_field.specs.Answered.{before}
use Rattle.mls_hist.specs.HistPart.{counts_at}
use Rattle.mls_hist.specs.Histograms.{cell_start}
use Rattle.mls_hist.specs.Packed.{counts_from, packed_plane}
use Rattle.mls_hist.proofs.taken.take_plane.Given as goal

-- the cells so far were read and stand at their places, and what stands before the plane is as it was
abbrev pub invariant-loop-place : goal.invariant-loop-place
invariant-loop-place l = record {
  read : before (packed_plane l.places l.bins l.plane l.place) (many (λ i from. counts_at l.n from) after_one (l.places - l.place) l.place (cursor_of l.from)) ≡ many (λ i from. counts_at l.n from) after_one l.places 0 (cursor_of l.fn.from);
  whole : (place : ℕ) → place < l.place → sum (counts_from l.bins (cell_start l.places l.plane place)) ≡ 2 * l.n;
  earlier : (j : ℕ) → j < l.plane * l.places * 64 → slice_index l.bins j ≡ slice_index l.fn.bins j;
}
