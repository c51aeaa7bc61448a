-- Cells that were copied from their columns, and to which the rows that wait were added.
use Rattle.std.proofs.Common.{◌≡◌, ℕ, ◌+◌, ◌*◌, ◌<◌, List, [], ◌++◌, length, slice_index, append_assoc, ap, ◌∙◌, sym, arith}
use Rattle.std.proofs.lemmas.Grind.{same_number_lists}
use Rattle.mls_ckpt.specs.CellParts.{cell_text}
use Rattle.mls_field.specs.Cells.{cell_of, with_rows}
use Rattle.mls_field.specs.Copied.{copied, AreCopied}
use Rattle.mls_field.specs.EightRows.{AddsRows}
use Rattle.mls_field.specs.OneCell.{SameFront}
use Rattle.mls_field.specs.Kept.{sums_in_cell, ends_in_cell, numbers_in_cell, sums_at}
use Rattle.mls_field.specs.PackedCells.{kept_cell}
use Rattle.mls_field.specs.PutBytes.{Grown}
use Rattle.mls_field.specs.declared.field.Field.{Field}
use Rattle.mls_field.proofs.FourCopied.{entry, length-copied}
use Rattle.mls_field.proofs.WholeCells.{entry-cell, length-with_rows}

-- what was copied is the cell in its columns
pub copy_is : (size places plane row from count k : ℕ) (words held columns : List ℕ) → held ≡ words → row ≡ plane * size → k < count → AreCopied row size places from count held columns → SameFront size (copied size columns k) (cell_of size places words plane (from + k))
copy_is size places plane row from count k words held columns same e k_in are = record {
  each = λ c h.
      entry size k columns c h ∙ (are.each c k h k_in ∙ ((λ i. slice_index (same i) ((e i + c) * places + (from + k))) ∙ sym (entry-cell size places words plane (from + k) c h)));
}

-- what was copied, with the rows that wait, is the cell with these rows
pub copy_whole : (step : ℕ → List ℕ → ℕ → ℕ) (size waiting k : ℕ) (row : ℕ → List ℕ) (old new cell : List ℕ) → length cell ≡ size → SameFront size (copied size old k) cell → AddsRows step size row waiting (copied size old k) (copied size new k) → copied size new k ≡ with_rows step row waiting cell
copy_whole step size waiting k row old new cell long same adds =
    let all = adds cell long same in
    let length_new = length-copied size k new in
    same_number_lists (copied size new k) (with_rows step row waiting cell) (length_new ∙ sym (length-with_rows step row waiting cell ∙ long)) (λ i h. all.each i (omega (arith, h, length_new)))

-- the bytes of a cell that was copied, put behind others
pub cell_grown : (f : Field) (plane place : ℕ) (old new bytes sums ends numbers : List ℕ) → sums ≡ sums_in_cell f plane place → ends ≡ ends_in_cell f plane place → numbers ≡ numbers_in_cell f plane place → ((n : ℕ) → Grown [] bytes (cell_text (kept_cell f.shape.parameters n sums ends numbers))) → new ≡ old ++ bytes → Grown old new (cell_text (sums_at f plane place))
cell_grown f plane place old new bytes sums ends numbers es ee en spells e rest =
    ap (λ (xs : List ℕ). xs ++ rest) e ∙ (append_assoc old bytes rest ∙
    (ap (λ (xs : List ℕ). old ++ xs) (spells (slice_index f.counts.items plane) rest) ∙
    (λ i. old ++ cell_text (kept_cell f.shape.parameters (slice_index f.counts.items plane) (es i) (ee i) (en i)) rest)))
