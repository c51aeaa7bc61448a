-- The numbers of a cell in the front of a list.
use Rattle.std.proofs.Common.{◌≡◌, ℕ, ◌+◌, ◌*◌, ◌<◌, ◌≤◌, List, length, slice_index, inl, inr, ap, ◌∙◌, sym, subst, arith}
use Rattle.std.proofs.lemmas.Bool.{cases_lt}
use Rattle.std.proofs.lemmas.List.{length-map}
use Rattle.mls_model.specs.Numbers.{below}
use Rattle.mls_model.specs.CellSums.{sample}
use Rattle.mls_field.specs.Cells.{with_rows}
use Rattle.mls_field.specs.Gathered.{row_behind}
use Rattle.mls_field.specs.OneCell.{IsRowAt, SameFront, Stepped}
use Rattle.mls_field.proofs.Rows.{length-below, entry_of}
use Rattle.mls_field.proofs.OneRow.{get_or-beyond}
use Rattle.mls_field.proofs.WholeCells.{length-with_rows, entry-with_row, rows_none, rows_more}

pub row_at : (n places : ℕ) (samples : List ℕ) (start place g : ℕ) → IsRowAt n places (g * (n * places) + start + place) samples (row_behind n places samples start place g)
row_at n places samples start place g = record {
  each = λ r h. entry_of (λ i. slice_index samples (n * places * g + (start + i * places + place))) n r h ∙ ap (slice_index samples) (omega arith);
}

pub small_row : (n places : ℕ) (samples : List ℕ) (start place g : ℕ) → ((i : ℕ) → slice_index samples i ≤ 65535) → (j : ℕ) → sample j (row_behind n places samples start place g) ≤ 65535
small_row n places samples start place g small j =
    let f : ℕ → ℕ = λ i. slice_index samples (n * places * g + (start + i * places + place)) in
    let long : length (row_behind n places samples start place g) ≡ n = length-map (below n) f ∙ length-below n in
    elim (cases_lt j n) [
      | inl low ↦ (let e : sample j (row_behind n places samples start place g) ≡ f j = entry_of f n j low in omega (arith, e, small (n * places * g + (start + j * places + place))))
      | inr high ↦ (let e : sample j (row_behind n places samples start place g) ≡ 0 = get_or-beyond (row_behind n places samples start place g) j (omega (arith, long, high)) in omega (arith, e))
    ]

pub none_same : (step : ℕ → List ℕ → ℕ → ℕ) (size : ℕ) (row : ℕ → List ℕ) (cell numbers : List ℕ) → SameFront size numbers cell → SameFront size numbers (with_rows step row 0 cell)
none_same step size row cell numbers same = subst (λ (xs : List ℕ). SameFront size numbers xs) (sym (rows_none step row cell)) same

pub front_more : (step : ℕ → List ℕ → ℕ → ℕ) (size : ℕ) (row : ℕ → List ℕ) (g : ℕ) (cell old new : List ℕ) → length cell ≡ size → SameFront size old (with_rows step row g cell) → Stepped step size (row g) old new → SameFront size new (with_rows step row (g + 1) cell)
front_more step size row g cell old new long same stepped = record {
  each = λ c h.
      stepped.each c h ∙ (ap (step c (row g)) (same.each c h) ∙
      (sym (entry-with_row step (row g) (with_rows step row g cell) c (omega (arith, h, long, length-with_rows step row g cell))) ∙ ap (λ (xs : List ℕ). slice_index xs c) (sym (rows_more step row g cell))));
}

-- the samples A and B of a row
pub first_at : (n places : ℕ) (samples : List ℕ) (start place g : ℕ) → 0 < n → slice_index (row_behind n places samples start place g) 0 ≡ slice_index samples (g * (n * places) + start + place)
first_at n places samples start place g h = (row_at n places samples start place g).each 0 h ∙ ap (slice_index samples) (let e : g * (n * places) + start + place + 0 * places ≡ g * (n * places) + start + place = omega arith in e)

pub second_at : (n places : ℕ) (samples : List ℕ) (start place g : ℕ) → 1 < n → slice_index (row_behind n places samples start place g) 1 ≡ slice_index samples (g * (n * places) + start + place + places)
second_at n places samples start place g h = (row_at n places samples start place g).each 1 h ∙ ap (slice_index samples) (let e : g * (n * places) + start + place + 1 * places ≡ g * (n * places) + start + place + places = omega arith in e)
