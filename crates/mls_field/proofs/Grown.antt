-- Bytes that grew by the sums of a plane and of a block.
use Rattle.std.proofs.Common.{◌≡◌, ℕ, List, [], ◌++◌, map, append-nil, ap, ◌∙◌, sym, subst}
use Rattle.mls_model.specs.Numbers.{below}
use Rattle.mls_model.specs.Studies.{planes}
use Rattle.mls_model.specs.Blocks.{block, width}
use Rattle.mls_ckpt.specs.Reading.{texts}
use Rattle.mls_ckpt.specs.CellParts.{cell_text, cells_text}
use Rattle.mls_field.specs.declared.field.Field.{Field}
use Rattle.mls_field.specs.Kept.{sums_at}
use Rattle.mls_field.specs.Spelled.{cells_of_plane, cells_of_field, part_of_field}
use Rattle.mls_field.specs.PutBytes.{Grown}

pub plane_grown : (f : Field) (step n : ℕ) (old new : List ℕ) → n ≡ width (block f.shape f.rank) → Grown old new (texts cell_text (map (sums_at f step) (below n))) → Grown old new (texts cell_text (cells_of_plane f step))
unfolding cells_of_plane
plane_grown f step n old new e grown = subst (λ (m : ℕ). Grown old new (texts cell_text (map (sums_at f step) (below m)))) e grown

pub field_grown : (f : Field) (n : ℕ) (old new : List ℕ) → n ≡ planes f.shape → Grown old new (texts (texts cell_text) (map (cells_of_plane f) (below n))) → new ≡ old ++ part_of_field f
unfolding part_of_field cells_of_field cells_text
field_grown f n old new e grown = sym (append-nil new) ∙ (grown [] ∙ ap (λ m. old ++ texts (texts cell_text) (map (cells_of_plane f) (below m)) []) e)
