-- The numbers of cells with rows that wait.
use Rattle.std.proofs.Common.{◌≡◌, ◌≢◌, ℕ, zero, suc, ◌+◌, ◌*◌, ◌<◌, ◌≤◌, List, [], ◌∷◌, ◌++◌, length, slice_index, inl, inr, ap, ◌∙◌, refl, sym, subst, arith}
use Rattle.std.proofs.lemmas.Bool.{cases_order}
use Rattle.std.proofs.lemmas.Grind.{same_number_lists}
use Rattle.std.proofs.lemmas.List.{length-map}
use Rattle.mls_model.specs.Numbers.{below}
use Rattle.mls_model.specs.CellSums.{sample}
use Rattle.mls_power.specs.Columns.{after}
use Rattle.mls_field.specs.Cells.{cell_of, with_row, with_rows}
use Rattle.mls_field.specs.Walk.{Walk}
use Rattle.mls_field.proofs.Rows.{length-below, entry_of, same_entries}
use Rattle.mls_field.proofs.Grid.{plane_before}
use Rattle.mls_field.proofs.Walks.{apart_rows}

-- ---- entries
pub length-cell : (size places : ℕ) (numbers : List ℕ) (plane place : ℕ) → length (cell_of size places numbers plane place) ≡ size
length-cell size places numbers plane place = length-map (below size) (λ c. slice_index numbers ((plane * size + c) * places + place)) ∙ length-below size

pub entry-cell : (size places : ℕ) (numbers : List ℕ) (plane place c : ℕ) → c < size → slice_index (cell_of size places numbers plane place) c ≡ slice_index numbers ((plane * size + c) * places + place)
entry-cell size places numbers plane place c h = entry_of (λ d. slice_index numbers ((plane * size + d) * places + place)) size c h

pub length-with_row : (step : ℕ → List ℕ → ℕ → ℕ) (row cell : List ℕ) → length (with_row step row cell) ≡ length cell
length-with_row step row cell = length-map (below (length cell)) (λ c. step c row (slice_index cell c)) ∙ length-below (length cell)

pub entry-with_row : (step : ℕ → List ℕ → ℕ → ℕ) (row cell : List ℕ) (c : ℕ) → c < length cell → slice_index (with_row step row cell) c ≡ step c row (slice_index cell c)
entry-with_row step row cell c h = entry_of (λ d. step d row (slice_index cell d)) (length cell) c h

pub rows_none : (step : ℕ → List ℕ → ℕ → ℕ) (row : ℕ → List ℕ) (cell : List ℕ) → with_rows step row 0 cell ≡ cell
unfolding with_rows
rows_none step row cell = refl

rows_suc : (step : ℕ → List ℕ → ℕ → ℕ) (row : ℕ → List ℕ) (g : ℕ) (cell : List ℕ) → with_rows step row (suc g) cell ≡ with_row step (row g) (with_rows step row g cell)
unfolding with_rows
rows_suc step row g cell = refl

pub rows_more : (step : ℕ → List ℕ → ℕ → ℕ) (row : ℕ → List ℕ) (g : ℕ) (cell : List ℕ) → with_rows step row (g + 1) cell ≡ with_row step (row g) (with_rows step row g cell)
rows_more step row g cell = ap (λ (m : ℕ). with_rows step row m cell) (let e : g + 1 ≡ suc g = omega arith in e) ∙ rows_suc step row g cell

pub length-with_rows : (step : ℕ → List ℕ → ℕ → ℕ) (row : ℕ → List ℕ) (g : ℕ) (cell : List ℕ) → length (with_rows step row g cell) ≡ length cell
length-with_rows step row zero cell = ap length (rows_none step row cell)
length-with_rows step row (suc g) cell = ap length (rows_suc step row g cell) ∙ (length-with_row step (row g) (with_rows step row g cell) ∙ length-with_rows step row g cell)

-- the same rows, the same cell
pub same_rows : (step : ℕ → List ℕ → ℕ → ℕ) (row other : ℕ → List ℕ) (g : ℕ) (cell : List ℕ) → ((i : ℕ) → i < g → row i ≡ other i) → with_rows step row g cell ≡ with_rows step other g cell
same_rows step row other zero cell same = rows_none step row cell ∙ sym (rows_none step other cell)
same_rows step row other (suc g) cell same =
    rows_suc step row g cell ∙ (ap (λ (r : List ℕ). with_row step r (with_rows step row g cell)) (same g (omega arith)) ∙
    (ap (with_row step (other g)) (same_rows step row other g cell (λ i low. same i (omega (arith, low)))) ∙ sym (rows_suc step other g cell)))

after_none' : (f : ℕ → ℕ → ℕ) (start : ℕ) → after f 0 start ≡ start
unfolding after
after_none' f start = refl

after_suc' : (f : ℕ → ℕ → ℕ) (g start : ℕ) → after f (suc g) start ≡ f g (after f g start)
unfolding after
after_suc' f g start = refl

entry-with_rows : (step : ℕ → List ℕ → ℕ → ℕ) (row : ℕ → List ℕ) (g : ℕ) (cell : List ℕ) (c : ℕ) → c < length cell → slice_index (with_rows step row g cell) c ≡ after (λ i n. step c (row i) n) g (slice_index cell c)
entry-with_rows step row zero cell c h = ap (λ (xs : List ℕ). slice_index xs c) (rows_none step row cell) ∙ sym (after_none' (λ i n. step c (row i) n) (slice_index cell c))
entry-with_rows step row (suc g) cell c h =
    ap (λ (xs : List ℕ). slice_index xs c) (rows_suc step row g cell) ∙
    (entry-with_row step (row g) (with_rows step row g cell) c (omega (arith, h, length-with_rows step row g cell)) ∙
    (ap (step c (row g)) (entry-with_rows step row g cell c h) ∙ sym (after_suc' (λ i n. step c (row i) n) g (slice_index cell c))))

-- ---- cells that were walked
pub cell_walked : (size places plane : ℕ) (old new : List ℕ) (step : ℕ → List ℕ → ℕ → ℕ) (row : ℕ → ℕ → List ℕ) → Walk (plane * size) size places 0 places old new (λ c i g n. step c (row i g) n) → (place : ℕ) → place < places → cell_of size places new plane place ≡ with_rows step (row place) 8 (cell_of size places old plane place)
cell_walked size places plane old new step row walk place here =
    let before = cell_of size places old plane place in
    let long = length-cell size places old plane place in
    same_number_lists (cell_of size places new plane place) (with_rows step (row place) 8 before) (length-cell size places new plane place ∙ sym (length-with_rows step (row place) 8 before ∙ long))
    (λ c h. let c_in : c < size = omega (arith, h, length-cell size places new plane place) in
    entry-cell size places new plane place c c_in ∙ (walk.there c place c_in (omega arith) here ∙
    (ap (after (λ i n. step c (row place i) n) 8) (sym (entry-cell size places old plane place c c_in)) ∙ sym (entry-with_rows step (row place) 8 before c (omega (arith, c_in, long))))))

pub cell_elsewhere : (size places plane : ℕ) (old new : List ℕ) (step : ℕ → ℕ → ℕ → ℕ → ℕ) → Walk (plane * size) size places 0 places old new step → (other place : ℕ) → other ≢ plane → place < places → cell_of size places new other place ≡ cell_of size places old other place
cell_elsewhere size places plane old new step walk other place apart here =
    same_entries (λ c. slice_index new ((other * size + c) * places + place)) (λ c. slice_index old ((other * size + c) * places + place)) size
    (λ c c_in. walk.rest _ (λ d i d_in _ high e. elim (cases_order other plane) [
      | inl same ↦ absurd (apart same)
      | inr (inl low) ↦ absurd (omega (arith, e, apart_rows (other * size + c) (plane * size + d) places place i (omega (arith, c_in, plane_before other plane size low)) here))
      | inr (inr high') ↦ absurd (omega (arith, e, apart_rows (plane * size + d) (other * size + c) places i place (omega (arith, d_in, plane_before plane other size high')) high))
    ]))

-- ---- kinds of numbers
-- a row of n samples of 16 bits
pub record IsRow (n : ℕ) (row : List ℕ) : Type 0 where
  pub long : length row ≡ n
  pub small : (j : ℕ) → sample j row ≤ 65535

-- one more row keeps the rules, and gives the numbers of one more row
pub record IsKind (within : ℕ → List ℕ → Type 0) (holds : List ℕ → List (List ℕ) → Type 0) (step : ℕ → List ℕ → ℕ → ℕ) (size n : ℕ) : Type 0 where
  pub more : (m : ℕ) (cell row : List ℕ) → length cell ≡ size → IsRow n row → within m cell → within (m + 1) (with_row step row cell)
  pub adds : (cell row : List ℕ) → length cell ≡ size → IsRow n row → (rows : List (List ℕ)) → holds cell rows → holds (with_row step row cell) (rows ++ row ∷ [])

pub within_rows : (within : ℕ → List ℕ → Type 0) (holds : List ℕ → List (List ℕ) → Type 0) (step : ℕ → List ℕ → ℕ → ℕ) (size n : ℕ) → IsKind within holds step size n → (row : ℕ → List ℕ) (g m : ℕ) (cell : List ℕ) → length cell ≡ size → ((i : ℕ) → IsRow n (row i)) → within m cell → within (m + g) (with_rows step row g cell)
within_rows within holds step size n kind row zero m cell long rows h = subst (λ (k : ℕ). within k (with_rows step row 0 cell)) (let e : m ≡ m + 0 = omega arith in e) (subst (λ (xs : List ℕ). within m xs) (sym (rows_none step row cell)) h)
within_rows within holds step size n kind row (suc g) m cell long rows h =
    let before = with_rows step row g cell in
    subst (λ (xs : List ℕ). within (m + suc g) xs) (sym (rows_suc step row g cell))
    (subst (λ (k : ℕ). within k (with_row step (row g) before)) (let e : m + g + 1 ≡ m + suc g = omega arith in e)
    (kind.more (m + g) before (row g) (length-with_rows step row g cell ∙ long) (rows g) (within_rows within holds step size n kind row g m cell long rows h)))
