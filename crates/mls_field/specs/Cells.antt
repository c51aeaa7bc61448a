-- How the numbers of cells lie in one list: plane after plane, each plane's in columns, where a column has a number for each place. What the numbers of a cell are is a parameter here: `step c row n` is what a row makes of number c of a cell.
use Rattle.std.specs.Prelude.{ℕ, zero, suc, ◌+◌, ◌*◌, List, length, map, slice_index}
use Rattle.mls_model.specs.Numbers.{below}
use Rattle.mls_field.specs.Gathered.{waiting_row}

-- the numbers of the cell at a place of a plane
abbrev pub cell_of : ℕ → ℕ → List ℕ → ℕ → ℕ → List ℕ
cell_of size places numbers plane place = map (λ c. slice_index numbers ((plane * size + c) * places + place)) (below size)

-- the numbers of a cell with a row more, and with so many rows more
abbrev pub with_row : (ℕ → List ℕ → ℕ → ℕ) → List ℕ → List ℕ → List ℕ
with_row step row cell = map (λ c. step c row (slice_index cell c)) (below (length cell))

unfoldable pub with_rows : (ℕ → List ℕ → ℕ → ℕ) → (ℕ → List ℕ) → ℕ → List ℕ → List ℕ
with_rows step row zero cell = cell
with_rows step row (suc g) cell = with_row step (row g) (with_rows step row g cell)

-- the numbers of a cell with the rows that wait
abbrev pub whole_cell : (ℕ → List ℕ → ℕ → ℕ) → ℕ → ℕ → List ℕ → ℕ → List ℕ → ℕ → ℕ → ℕ → List ℕ
whole_cell step size places numbers n samples waiting plane place = with_rows step (waiting_row n places samples plane place) waiting (cell_of size places numbers plane place)
