use Rattle.std.proofs.Common.{◌≡◌, ℕ, ◌-◌, ◌*◌, ◌<◌, length, slice_index}
use Rattle.std.specs.Prelude.{sum}
use Rattle.mls_model.specs.Studies.{Sizes}
use Rattle.mls_model.specs.Blocks.{block, width}
use Rattle.mls_ckpt.specs.Reading.{many}
use Rattle.mls_ckpt.specs.States.{after_one}
use Rattle.mls_ckpt.specs.Places.{cursor_of}
use Rattle.mls_field.specs.Answered.{before}
use Rattle.mls_hist.specs.HistPart.{plane_at}
use Rattle.mls_hist.specs.Histograms.{cell_start}
use Rattle.mls_hist.specs.Packed.{counts_from, packed_cells}
use Rattle.mls_hist.proofs.taken.take_planes.Given as goal

-- the planes so far were read and stand at their places
abbrev pub invariant-loop-plane : goal.invariant-loop-plane
invariant-loop-plane l = record {
  read : (s : Sizes) (rank : ℕ) → width (block s rank) ≡ l.places → before (packed_cells l.places l.bins l.plane) (many (λ plane from. plane_at s rank (slice_index l.counts plane) from) after_one (length l.counts - l.plane) l.plane (cursor_of l.from)) ≡ many (λ plane from. plane_at s rank (slice_index l.counts plane) from) after_one (length l.counts) 0 (cursor_of l.fn.from);
  whole : (plane place : ℕ) → plane < l.plane → place < l.places → sum (counts_from l.bins (cell_start l.places plane place)) ≡ 2 * slice_index l.counts plane;
}
