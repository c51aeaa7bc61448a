-- The part of a checkpoint that has the counts of each cell over histograms: its spelling, its reader, and which counts are valid.
use Rattle.std.specs.Prelude.{◌≡◌, ℕ, ◌+◌, ◌*◌, List, [], length, map, sum, slice_index, Ok, ◌==◌}
use Rattle.std.specs.Int.{w32}
use Rattle.mls_model.specs.Numbers.{below}
use Rattle.mls_model.specs.Studies.{Sizes, planes}
use Rattle.mls_model.specs.Blocks.{block, width}
use Rattle.mls_model.specs.CellSums.{both}
use Rattle.mls_model.specs.Standing.{Table}
use Rattle.mls_ckpt.specs.declared.faults.CkptWhy.TheVariants as why
use Rattle.mls_ckpt.specs.Reading.{Cursor, Read, ◌>>=◌, number_at, fixed_at, rule, many, text, texts, AllFrom}
use Rattle.mls_ckpt.specs.States.{after_one}
use Rattle.mls_ckpt.specs.Checkpoints.{room_after}
use Rattle.mls_hist.specs.Bins.{bins_of}

-- the first number of the part
abbrev pub mark : ℕ
mark = 0x48495354

-- the counts of a cell, and for each plane those of the cells of the block
unfoldable pub counts_text : List ℕ → List ℕ → List ℕ
counts_text counts rest = texts (text w32) counts rest

unfoldable pub hist_text : List (List (List ℕ)) → List ℕ → List ℕ
hist_text cells rest = text w32 mark (texts (texts counts_text) cells rest)

-- the counts of a table of rows, over the samples A and B, and the part that spells them
unfoldable pub counts_of : Sizes → ℕ → Table → List (List (List ℕ))
counts_of s rank table = map (λ plane. map (λ place. bins_of (both (table plane place))) (below (width (block s rank)))) (below (planes s))

unfoldable pub hist_part : Sizes → ℕ → Table → List ℕ
hist_part s rank table = hist_text (counts_of s rank table) []

-- The 64 counts of a cell of n accepted groups: each is at most what the counts before it leave of the 2n samples, and behind the last of them nothing is left.
unfoldable pub counts_at : ℕ → Cursor → Read (List ℕ × Cursor)
counts_at n c = do
  counts ← many (number_at w32) room_after 64 (2 * n) c
  whole ← rule (sum counts.0 == 2 * n) (c.at + 4 * 63)
  Ok counts

-- the cells of a plane of n accepted groups, and those of all planes
unfoldable pub plane_at : Sizes → ℕ → ℕ → Cursor → Read (List (List ℕ) × Cursor)
plane_at s rank n c = many (λ i from. counts_at n from) after_one (width (block s rank)) 0 c

unfoldable pub cells_at : Sizes → ℕ → List ℕ → Cursor → Read (List (List (List ℕ)) × Cursor)
cells_at s rank marks c = many (λ plane from. plane_at s rank (slice_index marks plane) from) after_one (planes s) 0 c

-- the place behind the part
unfoldable pub part_at : Sizes → ℕ → List ℕ → Cursor → Read Cursor
part_at s rank marks c = do
  begun ← fixed_at why.Range w32 mark c
  cells ← cells_at s rank marks begun
  Ok cells.1

-- which counts of a cell are valid for n accepted groups
pub record IsCounts (n : ℕ) (counts : List ℕ) : Type 0 where
  pub size : length counts ≡ 64
  pub whole : sum counts ≡ 2 * n

-- the cells of a block, each of n accepted groups, and the cells of all planes
pub record IsPlane (s : Sizes) (rank n : ℕ) (cells : List (List ℕ)) : Type 0 where
  pub size : length cells ≡ width (block s rank)
  pub each : AllFrom (λ i counts. IsCounts n counts) after_one 0 cells

pub record AreCells (s : Sizes) (rank : ℕ) (marks : List ℕ) (cells : List (List (List ℕ))) : Type 0 where
  pub size : length cells ≡ planes s
  pub each : AllFrom (λ plane row. IsPlane s rank (slice_index marks plane) row) after_one 0 cells

-- bytes that spell valid counts, for so many marks of each plane
pub record IsHistPart (s : Sizes) (rank : ℕ) (marks bytes : List ℕ) : Type 0 where
  pub cells : List (List (List ℕ))
  pub valid : AreCells s rank marks cells
  pub spelled : bytes ≡ hist_text cells []
