-- Rows behind a start.
use Rattle.std.proofs.Common.{◌≡◌, ℕ, ◌+◌, ◌*◌, ◌<◌, ◌≤◌, List, slice_index, ap, ◌∙◌, sym, arith}
use Rattle.mls_field.specs.Gathered.{row_behind}
use Rattle.mls_model.specs.CellSums.{sample}
use Rattle.mls_power.specs.ColumnSteps.{sample_at}
use Rattle.mls_field.proofs.Rows.{entry_of, same_entries}
use Rattle.mls_field.proofs.Grid.{plane_before}

-- a later start, and a place that is as much less
pub row_from : (n places : ℕ) (samples : List ℕ) (start from k g : ℕ) → row_behind n places samples (start + from) k g ≡ row_behind n places samples start (from + k) g
row_from n places samples start from k g =
    same_entries (λ r. slice_index samples (n * places * g + (start + from + r * places + k))) (λ r. slice_index samples (n * places * g + (start + r * places + (from + k)))) n
    (λ r _. ap (slice_index samples) (omega arith))

pub row_inside : (n places start from count bound r : ℕ) → r < n → from + count ≤ places → start + n * places * 8 ≤ bound → n * places * 7 + (start + from + r * places + count) ≤ bound
row_inside n places start from count bound r h fits long = omega (arith, fits, long, plane_before r n places h)

-- the samples of a row
pub in_row : (n places : ℕ) (samples : List ℕ) (start k g r : ℕ) → r < n → sample_at samples (n * places) (start + r * places + k) g ≡ sample r (row_behind n places samples start k g)
in_row n places samples start k g r h = sym (entry_of (λ i. slice_index samples (n * places * g + (start + i * places + k))) n r h)

pub in_first : (n places : ℕ) (samples : List ℕ) (start k g : ℕ) → 0 < n → sample_at samples (n * places) (start + k) g ≡ sample 0 (row_behind n places samples start k g)
in_first n places samples start k g h = ap (λ i. sample_at samples (n * places) i g) (let e : start + k ≡ start + 0 * places + k = omega arith in e) ∙ in_row n places samples start k g 0 h

pub in_second : (n places : ℕ) (samples : List ℕ) (start k g : ℕ) → 1 < n → sample_at samples (n * places) (start + places + k) g ≡ sample 1 (row_behind n places samples start k g)
in_second n places samples start k g h = ap (λ i. sample_at samples (n * places) i g) (let e : start + places + k ≡ start + 1 * places + k = omega arith in e) ∙ in_row n places samples start k g 1 h
