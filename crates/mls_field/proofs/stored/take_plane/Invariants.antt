use Rattle.std.proofs.Common.{◌≡◌, ℕ, ◌-◌, ◌<◌}
use Rattle.mls_ckpt.specs.Reading.{many}
use Rattle.mls_ckpt.specs.States.{after_one}
use Rattle.mls_ckpt.specs.Places.{cursor_of}
use Rattle.mls_ckpt.specs.CellParts.{cell_at}
use Rattle.mls_field.specs.Answered.{before}
use Rattle.mls_field.specs.PackedCells.{PackedWithin, packed_plane}
use Rattle.mls_field.specs.StoredCells.{SameCell}
use Rattle.mls_field.proofs.stored.take_plane.Given as goal

-- the cells so far were read and stand at their places, and the planes before are as they were
abbrev pub invariant-loop-place : goal.invariant-loop-place
invariant-loop-place l = record {
  read : before (packed_plane l.shape l.places l.sums l.ends l.numbers l.n l.plane l.place) (many (λ i from. cell_at l.shape l.n from) after_one (l.places - l.place) l.place (cursor_of l.from)) ≡ many (λ i from. cell_at l.shape l.n from) after_one l.places 0 (cursor_of l.fn.from);
  within : (place : ℕ) → place < l.place → PackedWithin l.shape l.places l.sums l.ends l.numbers l.n l.plane place;
  others : (other place : ℕ) → other < l.plane → place < l.places → SameCell l.shape l.places l.fn.sums l.fn.ends l.fn.numbers l.sums l.ends l.numbers other place;
}
