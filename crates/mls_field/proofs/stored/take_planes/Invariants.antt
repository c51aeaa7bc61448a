use Rattle.std.proofs.Common.{◌≡◌, ℕ, ◌-◌, ◌<◌, slice_index}
use Rattle.mls_model.specs.Blocks.{block, width}
use Rattle.mls_ckpt.specs.Reading.{many}
use Rattle.mls_ckpt.specs.States.{after_one}
use Rattle.mls_ckpt.specs.Places.{cursor_of}
use Rattle.mls_ckpt.specs.CellParts.{plane_at}
use Rattle.mls_model.specs.Studies.{planes}
use Rattle.mls_field.specs.Answered.{before}
use Rattle.mls_field.specs.PackedCells.{PackedWithin, packed_cells}
use Rattle.mls_field.proofs.stored.take_planes.Given as goal

-- the planes so far were read and stand at their places
abbrev pub invariant-loop-plane : goal.invariant-loop-plane
invariant-loop-plane l = record {
  read : (rank : ℕ) → width (block l.shape rank) ≡ l.places → before (packed_cells l.shape l.places l.sums l.ends l.numbers l.counts l.plane) (many (λ plane from. plane_at l.shape rank (slice_index l.counts plane) from) after_one (planes l.shape - l.plane) l.plane (cursor_of l.from)) ≡ many (λ plane from. plane_at l.shape rank (slice_index l.counts plane) from) after_one (planes l.shape) 0 (cursor_of l.fn.from);
  within : (plane place : ℕ) → plane < l.plane → place < l.places → PackedWithin l.shape l.places l.sums l.ends l.numbers (slice_index l.counts plane) plane place;
}
