-- A block of rows that is given to a plane, and what it does to the numbers of cells with the rows that wait.
use Rattle.std.proofs.Common.{◌≡◌, ◌≢◌, ℕ, ◌+◌, ◌*◌, ◌<◌, ◌≤◌, List, [], ◌∷◌, ◌++◌, length, slice_index, Bool, inl, inr, ap, ◌∙◌, sym, subst, arith}
use Rattle.std.proofs.lemmas.Bool.{cases_lt, cases_order}
use Rattle.std.proofs.lemmas.List.{length-map}
use Rattle.mls_model.specs.Numbers.{below}
use Rattle.mls_model.specs.Samples.{shifted}
use Rattle.mls_model.specs.CellSums.{sample}
use Rattle.mls_model.specs.Standing.{Table, with_block}
use Rattle.mls_field.specs.Cells.{cell_of, with_row, with_rows, whole_cell}
use Rattle.mls_field.specs.Fields.{HoldsPart}
use Rattle.mls_field.specs.Gathered.{plane_start, waiting_row}
use Rattle.mls_field.specs.ShiftedRows.{shifted_row}
use Rattle.mls_field.specs.Walk.{Walk}
use Rattle.mls_field.proofs.Rows.{length-below, entry_of, same_entries}
use Rattle.mls_field.proofs.Grid.{plane_before, with_block_there, with_block_elsewhere}
use Rattle.mls_field.proofs.OneRow.{get_or-beyond}
use Rattle.mls_field.proofs.WholeCells.{IsRow, IsKind, rows_none, rows_more, same_rows, cell_walked, cell_elsewhere}

-- ---- the samples that wait
-- the samples of row w of a plane are those of a block, and all others stay
pub record IsGathered (n places plane w : ℕ) (signed : Bool) (given : ℕ → ℕ → ℕ) (old new : List ℕ) : Type 0 where
  pub values : (r i : ℕ) → r < n → i < places → slice_index new (plane_start n places plane + w * (n * places) + r * places + i) ≡ shifted signed (given r i)
  pub before : (j : ℕ) → j < plane_start n places plane + w * (n * places) → slice_index new j ≡ slice_index old j
  pub behind : (j : ℕ) → plane_start n places plane + w * (n * places) + n * places ≤ j → slice_index new j ≡ slice_index old j

pub row_given : (n places plane w : ℕ) (signed : Bool) (given : ℕ → ℕ → ℕ) (old new : List ℕ) → IsGathered n places plane w signed given old new → (place : ℕ) → place < places → waiting_row n places new plane place w ≡ shifted_row signed n given place
row_given n places plane w signed given old new is place here =
    same_entries (λ r. slice_index new (n * places * w + (plane_start n places plane + r * places + place))) (λ r. shifted signed (given r place)) n
    (λ r r_in. ap (slice_index new) (let e : n * places * w + (plane_start n places plane + r * places + place) ≡ plane_start n places plane + w * (n * places) + r * places + place = omega arith in e) ∙ is.values r place r_in here)

-- rows before row w of the plane, and the rows of other planes
pub rows_before : (n places plane w : ℕ) (signed : Bool) (given : ℕ → ℕ → ℕ) (old new : List ℕ) → IsGathered n places plane w signed given old new → (place g : ℕ) → place < places → g < w → waiting_row n places new plane place g ≡ waiting_row n places old plane place g
rows_before n places plane w signed given old new is place g here low =
    same_entries _ _ n
    (λ r r_in. is.before _ (let a = plane_before r n places r_in in let b = plane_before g w (n * places) low in omega (arith, a, b, here)))

pub rows_elsewhere : (n places plane w : ℕ) (signed : Bool) (given : ℕ → ℕ → ℕ) (old new : List ℕ) → IsGathered n places plane w signed given old new → w < 8 → (other place g : ℕ) → other ≢ plane → place < places → g < 8 → waiting_row n places new other place g ≡ waiting_row n places old other place g
rows_elsewhere n places plane w signed given old new is w_in other place g apart here g_in =
    same_entries _ _ n
    (λ r r_in. let a = plane_before r n places r_in in let b = plane_before g 8 (n * places) g_in in elim (cases_order other plane) [
      | inl same ↦ absurd (apart same)
      | inr (inl low) ↦ is.before _ (let d = plane_before other plane (8 * (n * places)) low in omega (arith, a, b, d, here))
      | inr (inr high) ↦ is.behind _ (let d = plane_before plane other (8 * (n * places)) high in let f = plane_before w 8 (n * places) w_in in omega (arith, a, d, f, here))
    ])

pub row_is : (n places : ℕ) (samples : List ℕ) (plane place g : ℕ) → ((i : ℕ) → slice_index samples i ≤ 65535) → IsRow n (waiting_row n places samples plane place g)
row_is n places samples plane place g small =
    let f : ℕ → ℕ = λ r. slice_index samples (n * places * g + (plane_start n places plane + r * places + place)) in
    let long : length (waiting_row n places samples plane place g) ≡ n = length-map (below n) f ∙ length-below n in
    record {
      long = long;
      small = λ j. elim (cases_lt j n) [
        | inl low ↦ (let e : sample j (waiting_row n places samples plane place g) ≡ f j = entry_of f n j low in omega (arith, e, small (n * places * g + (plane_start n places plane + j * places + place))))
        | inr high ↦ (let e : sample j (waiting_row n places samples plane place g) ≡ 0 = get_or-beyond (waiting_row n places samples plane place g) j (omega (arith, long, high)) in omega (arith, e))
      ];
    }

-- ---- the cells
-- each cell of a plane has a row more, and all others stay
pub record Grows (step : ℕ → List ℕ → ℕ → ℕ) (places plane : ℕ) (old new : ℕ → ℕ → List ℕ) (row : ℕ → List ℕ) : Type 0 where
  pub there : (place : ℕ) → place < places → new plane place ≡ with_row step (row place) (old plane place)
  pub elsewhere : (other place : ℕ) → other ≢ plane → place < places → new other place ≡ old other place

-- the numbers that wait for each plane, before and after
pub record Waits (plane w after : ℕ) (old new : List ℕ) : Type 0 where
  pub old_here : slice_index old plane ≡ w
  pub here : slice_index new plane ≡ after
  pub elsewhere : (other : ℕ) → other ≢ plane → slice_index new other ≡ slice_index old other
  pub few : (other : ℕ) → slice_index old other ≤ 7

module _ (step : ℕ → List ℕ → ℕ → ℕ) (size places n plane w : ℕ) (signed : Bool) (given : ℕ → ℕ → ℕ) (samples samples' waiting waiting' : List ℕ) (is : IsGathered n places plane w signed given samples samples') (w_in : w < 8) where
  others : (numbers : List ℕ) (other place : ℕ) → other ≢ plane → place < places → (g : ℕ) → g ≤ 7 → whole_cell step size places numbers n samples' g other place ≡ whole_cell step size places numbers n samples g other place
  others numbers other place apart here g few = same_rows step (waiting_row n places samples' other place) (waiting_row n places samples other place) g (cell_of size places numbers other place) (λ i low. rows_elsewhere n places plane w signed given samples samples' is w_in other place i apart here (omega (arith, low, few)))

  more : (cell : List ℕ) (place : ℕ) → place < places → with_rows step (waiting_row n places samples' plane place) (w + 1) cell ≡ with_row step (shifted_row signed n given place) (with_rows step (waiting_row n places samples plane place) w cell)
  more cell place here =
      rows_more step (waiting_row n places samples' plane place) w cell ∙
      (ap (λ (r : List ℕ). with_row step r (with_rows step (waiting_row n places samples' plane place) w cell)) (row_given n places plane w signed given samples samples' is place here) ∙
      ap (with_row step (shifted_row signed n given place)) (same_rows step (waiting_row n places samples' plane place) (waiting_row n places samples plane place) w cell (λ i low. rows_before n places plane w signed given samples samples' is place i here low)))

  -- the row waits with the others
  pub waits_more : (numbers : List ℕ) → Waits plane w (w + 1) waiting waiting' → Grows step places plane (λ p place. whole_cell step size places numbers n samples (slice_index waiting p) p place) (λ p place. whole_cell step size places numbers n samples' (slice_index waiting' p) p place) (shifted_row signed n given)
  waits_more numbers waits = record {
    there = λ place here.
        ap (λ (k : ℕ). whole_cell step size places numbers n samples' k plane place) waits.here ∙
        (more (cell_of size places numbers plane place) place here ∙ ap (λ (k : ℕ). with_row step (shifted_row signed n given place) (whole_cell step size places numbers n samples k plane place)) (sym waits.old_here));
    elsewhere = λ other place apart here.
        ap (λ (k : ℕ). whole_cell step size places numbers n samples' k other place) (waits.elsewhere other apart) ∙ others numbers other place apart here (slice_index waiting other) (waits.few other);
  }

  -- all rows that wait are added, the given one with them
  pub all_added : (numbers numbers' : List ℕ) → w ≡ 7 → Waits plane w 0 waiting waiting' → Walk (plane * size) size places 0 places numbers numbers' (λ c i g m. step c (waiting_row n places samples' plane i g) m) → Grows step places plane (λ p place. whole_cell step size places numbers n samples (slice_index waiting p) p place) (λ p place. whole_cell step size places numbers' n samples' (slice_index waiting' p) p place) (shifted_row signed n given)
  all_added numbers numbers' last waits walk = record {
    there = λ place here.
        ap (λ (k : ℕ). whole_cell step size places numbers' n samples' k plane place) waits.here ∙
        (rows_none step (waiting_row n places samples' plane place) (cell_of size places numbers' plane place) ∙
        (cell_walked size places plane numbers numbers' step (λ i g. waiting_row n places samples' plane i g) walk place here ∙
        (ap (λ (k : ℕ). with_rows step (waiting_row n places samples' plane place) k (cell_of size places numbers plane place)) (let e : 8 ≡ w + 1 = omega (arith, last) in e) ∙
        (more (cell_of size places numbers plane place) place here ∙ ap (λ (k : ℕ). with_row step (shifted_row signed n given place) (whole_cell step size places numbers n samples k plane place)) (sym waits.old_here)))));
    elsewhere = λ other place apart here.
        ap (λ (k : ℕ). whole_cell step size places numbers' n samples' k other place) (waits.elsewhere other apart) ∙
        (ap (with_rows step (waiting_row n places samples' other place) (slice_index waiting other)) (cell_elsewhere size places plane numbers numbers' (λ c i g m. step c (waiting_row n places samples' plane i g) m) walk other place apart here) ∙
        others numbers other place apart here (slice_index waiting other) (waits.few other));
  }

pub part_grows : (within : ℕ → List ℕ → Type 0) (holds : List ℕ → List (List ℕ) → Type 0) (step : ℕ → List ℕ → ℕ → ℕ) (size n planes places plane : ℕ) (old new : ℕ → ℕ → List ℕ) (row : ℕ → List ℕ) (t : Table) → IsKind within holds step size n → ((place : ℕ) → length (old plane place) ≡ size) → ((place : ℕ) → place < places → IsRow n (row place)) → Grows step places plane old new row → HoldsPart holds planes places old t → HoldsPart holds planes places new (with_block t plane places row)
part_grows within holds step size n planes places plane old new row t kind long rows grows part = record {
  each = λ p place p_in here. elim (cases_order p plane) [
    | inl same ↦ subst (λ (q : ℕ). holds (new q place) (with_block t plane places row q place)) (sym same)
        (subst (λ (rs : List (List ℕ)). holds (new plane place) rs) (sym (with_block_there t plane places row place here))
        (subst (λ (xs : List ℕ). holds xs (t plane place ++ row place ∷ [])) (sym (grows.there place here))
        (kind.adds (old plane place) (row place) (long place) (rows place here) (t plane place) (part.each plane place (subst (λ (q : ℕ). q < planes) same p_in) here))))
    | inr (inl low) ↦ other p place p_in here (λ e. absurd (omega (arith, e, low)))
    | inr (inr high) ↦ other p place p_in here (λ e. absurd (omega (arith, e, high)))
  ];
}
  where
    other : (p place : ℕ) → p < planes → place < places → p ≢ plane → holds (new p place) (with_block t plane places row p place)
    other p place p_in here apart =
        subst (λ (rs : List (List ℕ)). holds (new p place) rs) (sym (with_block_elsewhere t plane places row p place apart)) (subst (λ (xs : List ℕ). holds xs (t p place)) (sym (grows.elsewhere p place apart here)) (part.each p place p_in here))

-- a row that waits lies within a plane's samples, and these within all samples
pub row_fits : (q places plane v count : ℕ) → plane < count → v < 8 → plane * (8 * (q * places)) + v * (q * places) + q * places ≤ count * (8 * (q * places))
row_fits q places plane v count inside low =
    let a = plane_before v 8 (q * places) low in
    let b = plane_before plane count (8 * (q * places)) inside in
    omega (arith, a, b)

-- the samples where the code has put a block
pub gathered_block : (n n' n'' places places' plane w : ℕ) (signed signed' : Bool) (given : ℕ → ℕ → ℕ) (items held new now : List ℕ) → n' ≡ n → n'' ≡ n → places' ≡ places → signed' ≡ signed → held ≡ items → now ≡ new
    → ((r i : ℕ) → r < n' → i < places' → slice_index new (plane * (8 * (n'' * places)) + w * (n'' * places) + r * places' + i) ≡ shifted signed' (given r i))
    → ((j : ℕ) → j < plane * (8 * (n'' * places)) + w * (n'' * places) → slice_index new j ≡ slice_index held j)
    → ((j : ℕ) → plane * (8 * (n'' * places)) + w * (n'' * places) + n' * places' ≤ j → slice_index new j ≡ slice_index held j)
    → IsGathered n places plane w signed given items now
gathered_block n n' n'' places places' plane w signed signed' given items held new now a b c d e f values before behind = record {
  values = λ r i r_in i_in.
      ap (λ (xs : List ℕ). slice_index xs (plane_start n places plane + w * (n * places) + r * places + i)) f ∙
      (ap (slice_index new) (let at : plane_start n places plane + w * (n * places) + r * places + i ≡ plane * (8 * (n'' * places)) + w * (n'' * places) + r * places' + i = rw (b, c) (omega arith) in at) ∙
      (values r i (omega (arith, a, r_in)) (omega (arith, c, i_in)) ∙ ap (λ (s : Bool). shifted s (given r i)) d));
  before = λ j low.
      ap (λ (xs : List ℕ). slice_index xs j) f ∙ (before j (rw b low) ∙ ap (λ (xs : List ℕ). slice_index xs j) e);
  behind = λ j high.
      ap (λ (xs : List ℕ). slice_index xs j) f ∙ (behind j (rw (a, b, c) high) ∙ ap (λ (xs : List ℕ). slice_index xs j) e);
}

-- the same, where the plane's samples begin at a start that the code has read
pub gathered_from : (n n' n'' places places' plane w start : ℕ) (signed signed' : Bool) (given : ℕ → ℕ → ℕ) (items held new now : List ℕ) → start ≡ plane_start n places plane → n' ≡ n → n'' ≡ n → places' ≡ places → signed' ≡ signed → held ≡ items → now ≡ new
    → ((r i : ℕ) → r < n' → i < places' → slice_index new (start + w * (n'' * places) + r * places' + i) ≡ shifted signed' (given r i))
    → ((j : ℕ) → j < start + w * (n'' * places) → slice_index new j ≡ slice_index held j)
    → ((j : ℕ) → start + w * (n'' * places) + n' * places' ≤ j → slice_index new j ≡ slice_index held j)
    → IsGathered n places plane w signed given items now
gathered_from n n' n'' places places' plane w start signed signed' given items held new now s a b c d e f values before behind =
    let at : start ≡ plane * (8 * (n'' * places)) = s ∙ ap (λ (m : ℕ). plane * (8 * (m * places))) (sym b) in
    gathered_block n n' n'' places places' plane w signed signed' given items held new now a b c d e f
    (subst (λ (x : ℕ). (r i : ℕ) → r < n' → i < places' → slice_index new (x + w * (n'' * places) + r * places' + i) ≡ shifted signed' (given r i)) at values)
    (subst (λ (x : ℕ). (j : ℕ) → j < x + w * (n'' * places) → slice_index new j ≡ slice_index held j) at before)
    (subst (λ (x : ℕ). (j : ℕ) → x + w * (n'' * places) + n' * places' ≤ j → slice_index new j ≡ slice_index held j) at behind)
