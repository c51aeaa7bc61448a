-- The sums of no rows.
use Rattle.std.proofs.Common.{◌≡◌, ℕ, zero, suc, ◌+◌, ◌-◌, ◌*◌, ◌<◌, ◌≤◌, List, [], ◌∷◌, length, get_or, replicate, inl, inr, ap, ◌∙◌, refl, sym, subst, arith}
use Rattle.std.proofs.lemmas.Bool.{cases_lt}
use Rattle.std.proofs.lemmas.List.{length-replicate}
use Rattle.mls_model.specs.Blocks.{block, width}
use Rattle.mls_model.specs.Standing.{empty_table}
use Rattle.mls_model.specs.Studies.{Sizes, planes}
use Rattle.mls_cov.proofs.Parts.{no_rows, no_rules}
use Rattle.mls_field.specs.Cells.{cell_of, whole_cell}
use Rattle.mls_field.specs.ColumnSums.{sums_size, sums_step}
use Rattle.mls_field.specs.OutputSteps.{ends_step, numbers_step}
use Rattle.mls_field.specs.Gathered.{waiting_row}
use Rattle.mls_field.specs.Fields.{IsPart, HoldsPart, IsField, HoldsTable, added_of}
use Rattle.mls_field.specs.Kinds.{SumsWithin, HoldSums, ExtremaWithin, HoldExtrema, NumbersWithin, HoldNumbers}
use Rattle.mls_field.proofs.OneRow.{get_or-beyond}
use Rattle.mls_field.proofs.WholeCells.{length-cell, entry-cell, rows_none}

-- so many numbers that are all 0
pub record AreZeros (n : ℕ) (xs : List ℕ) : Type 0 where
  pub long : length xs ≡ n
  pub each : (k : ℕ) → get_or xs k 0 ≡ 0

zeros_at : (n k : ℕ) → get_or {A = ℕ} (replicate n 0) k 0 ≡ 0
zeros_at zero k = refl
zeros_at (suc n) zero = refl
zeros_at (suc n) (suc k) = zeros_at n k

pub zeros : (n m : ℕ) (xs : List ℕ) → xs ≡ replicate n 0 → n ≡ m → AreZeros m xs
zeros n m xs e f = record {
  long = ap length e ∙ (length-replicate n 0 ∙ f);
  each = λ k. ap (λ (ys : List ℕ). get_or ys k 0) e ∙ zeros_at n k;
}

-- the columns of the least and the greatest samples of no rows
pub record AreNoEnds (planes w : ℕ) (ends : List ℕ) : Type 0 where
  pub long : length ends ≡ planes * 2 * w
  pub least : (plane place : ℕ) → plane < planes → place < w → get_or ends (plane * 2 * w + place) 0 ≡ 65535
  pub greatest : (plane place : ℕ) → plane < planes → place < w → get_or ends ((plane * 2 + 1) * w + place) 0 ≡ 0

-- ---- the numbers of a cell
zero_in : (size w : ℕ) (xs : List ℕ) (plane place : ℕ) → ((j : ℕ) → get_or xs j 0 ≡ 0) → (k : ℕ) → get_or (cell_of size w xs plane place) k 0 ≡ 0
zero_in size w xs plane place z k = elim (cases_lt k size) [
  | inl low ↦ entry-cell size w xs plane place k low ∙ z ((plane * size + k) * w + place)
  | inr high ↦ get_or-beyond (cell_of size w xs plane place) k (omega (arith, length-cell size w xs plane place, high))
]

sums_within : (p : ℕ) (sums : List ℕ) → ((k : ℕ) → get_or sums k 0 ≡ 0) → SumsWithin p 0 sums
sums_within p sums z = record {
  products = no_rules p sums (λ i _. z i);
  powers = record {
    cubes_a = omega (arith, z (4 + 4 * p));
    cubes_b = omega (arith, z (4 + 4 * p + 1));
    low = omega (arith, z (4 + 4 * p + 2));
    high = omega (arith, z (4 + 4 * p + 3));
    third = omega (arith, z (4 + 4 * p), z (4 + 4 * p + 1));
    fourth = omega (arith, z (4 + 4 * p + 2), z (4 + 4 * p + 3));
  };
}

sums_hold : (p : ℕ) (sums : List ℕ) → ((k : ℕ) → get_or sums k 0 ≡ 0) → HoldSums p sums []
sums_hold p sums z = record {
  products = no_rows p sums (λ i _. z i);
  third = omega (arith, z (4 + 4 * p), z (4 + 4 * p + 1));
  fourth = omega (arith, z (4 + 4 * p + 2), z (4 + 4 * p + 3));
}

numbers_within : (numbers : List ℕ) → ((k : ℕ) → get_or numbers k 0 ≡ 0) → NumbersWithin 0 numbers
numbers_within numbers z = record { few = λ i. omega (arith, z i); falling = λ i. omega (arith, z (i + 1), z i) }

numbers_hold : (thresholds numbers : List ℕ) → ((k : ℕ) → get_or numbers k 0 ≡ 0) → HoldNumbers thresholds numbers []
numbers_hold thresholds numbers z = record { each = λ i _. z i }

-- ---- all cells of a kind
zero_part : (within : ℕ → List ℕ → Type 0) (size planes w : ℕ) (added : ℕ → ℕ) (numbers : List ℕ) → ((plane : ℕ) → added plane ≡ 0) → ((cell : List ℕ) → ((k : ℕ) → get_or cell k 0 ≡ 0) → within 0 cell) → AreZeros (planes * size * w) numbers → IsPart within size planes w added numbers
zero_part within size planes w added numbers none fresh z = record {
  long = z.long;
  range = λ plane place _ _. subst (λ (n : ℕ). within n (cell_of size w numbers plane place)) (sym (none plane)) (fresh (cell_of size w numbers plane place) (zero_in size w numbers plane place z.each));
}

-- no rows wait
none_wait : (holds : List ℕ → List (List ℕ) → Type 0) (step : ℕ → List ℕ → ℕ → ℕ) (size q planes w : ℕ) (waiting numbers samples : List ℕ) → ((plane : ℕ) → get_or waiting plane 0 ≡ 0) → ((plane place : ℕ) → plane < planes → place < w → holds (cell_of size w numbers plane place) []) → HoldsPart holds planes w (λ plane place. whole_cell step size w numbers q samples (get_or waiting plane 0) plane place) empty_table
none_wait holds step size q planes w waiting numbers samples none fresh = record {
  each = λ plane place p_in here.
      subst (λ (g : ℕ). holds (whole_cell step size w numbers q samples g plane place) []) (sym (none plane))
      (subst (λ (xs : List ℕ). holds xs []) (sym (rows_none step (waiting_row q w samples plane place) (cell_of size w numbers plane place))) (fresh plane place p_in here));
}

least_at : (planes w : ℕ) (ends : List ℕ) → AreNoEnds planes w ends → (plane place : ℕ) → plane < planes → place < w → get_or (cell_of 2 w ends plane place) 0 0 ≡ 65535
least_at planes w ends is plane place p_in here =
    entry-cell 2 w ends plane place 0 (omega arith) ∙ (ap (λ (i : ℕ). get_or ends i 0) (let e : (plane * 2 + 0) * w + place ≡ plane * 2 * w + place = omega arith in e) ∙ is.least plane place p_in here)

greatest_at : (planes w : ℕ) (ends : List ℕ) → AreNoEnds planes w ends → (plane place : ℕ) → plane < planes → place < w → get_or (cell_of 2 w ends plane place) 1 0 ≡ 0
greatest_at planes w ends is plane place p_in here = entry-cell 2 w ends plane place 1 (omega arith) ∙ is.greatest plane place p_in here

ends_part : (planes w : ℕ) (added : ℕ → ℕ) (ends : List ℕ) → ((plane : ℕ) → added plane ≡ 0) → AreNoEnds planes w ends → IsPart ExtremaWithin 2 planes w added ends
ends_part planes w added ends none is = record {
  long = is.long;
  range = λ plane place p_in here. subst (λ (n : ℕ). ExtremaWithin n (cell_of 2 w ends plane place)) (sym (none plane)) (record {
    rules = record { none_least = λ _. least_at planes w ends is plane place p_in here; none_greatest = λ _. greatest_at planes w ends is plane place p_in here; some = λ h. absurd (omega (arith, h)) };
    least_small = omega (arith, least_at planes w ends is plane place p_in here);
    greatest_small = omega (arith, greatest_at planes w ends is plane place p_in here);
  });
}

ends_hold : (planes w : ℕ) (ends : List ℕ) → AreNoEnds planes w ends → (plane place : ℕ) → plane < planes → place < w → HoldExtrema (cell_of 2 w ends plane place) []
ends_hold planes w ends is plane place p_in here = record { least = ap Rattle.std.proofs.Common.pos (least_at planes w ends is plane place p_in here); greatest = ap Rattle.std.proofs.Common.pos (greatest_at planes w ends is plane place p_in here) }

-- ---- the whole
pub field_fresh : (s : Sizes) (rank w : ℕ) (counts waiting sums ends numbers samples : List ℕ) → rank < s.ranks → w ≡ width (block s rank) → AreZeros (planes s) counts → AreZeros (planes s) waiting → AreZeros (planes s * sums_size s.parameters * w) sums → AreNoEnds (planes s) w ends → AreZeros (planes s * length s.thresholds * w) numbers → length samples ≡ planes s * (8 * ((s.parameters + 2) * w)) → ((i : ℕ) → get_or samples i 0 ≤ 65535) → IsField s rank w counts waiting sums ends numbers samples
field_fresh s rank w counts waiting sums ends numbers samples rank_in wide c v a e n long small =
    let none : (plane : ℕ) → added_of counts waiting plane ≡ 0 = λ plane. omega (arith, c.each plane, v.each plane) in
    record {
      rank_in = rank_in;
      block_width = wide;
      each_plane = c.long;
      each_waits = v.long;
      few = λ plane. omega (arith, c.each plane);
      few_wait = λ plane. omega (arith, v.each plane);
      given = λ plane. omega (arith, v.each plane);
      room = long;
      small = small;
      sums_in = zero_part (SumsWithin s.parameters) (sums_size s.parameters) (planes s) w (added_of counts waiting) sums none (sums_within s.parameters) a;
      extrema_in = ends_part (planes s) w (added_of counts waiting) ends none e;
      numbers_in = zero_part NumbersWithin (length s.thresholds) (planes s) w (added_of counts waiting) numbers none numbers_within n;
    }

pub table_fresh : (s : Sizes) (w : ℕ) (counts waiting sums ends numbers samples : List ℕ) → AreZeros (planes s) counts → AreZeros (planes s) waiting → AreZeros (planes s * sums_size s.parameters * w) sums → AreNoEnds (planes s) w ends → AreZeros (planes s * length s.thresholds * w) numbers → HoldsTable s w counts waiting sums ends numbers samples empty_table
table_fresh s w counts waiting sums ends numbers samples c v a e n = record {
  counted = λ plane place _ _. sym (c.each plane);
  whole = λ plane place _ _. tt;
  sums_of = none_wait (HoldSums s.parameters) (sums_step s.parameters) (sums_size s.parameters) (s.parameters + 2) (planes s) w waiting sums samples v.each (λ plane place _ _. sums_hold s.parameters _ (zero_in (sums_size s.parameters) w sums plane place a.each));
  extrema_of = none_wait HoldExtrema ends_step 2 (s.parameters + 2) (planes s) w waiting ends samples v.each (ends_hold (planes s) w ends e);
  numbers_of = none_wait (HoldNumbers s.thresholds) (numbers_step s.thresholds) (length s.thresholds) (s.parameters + 2) (planes s) w waiting numbers samples v.each (λ plane place _ _. numbers_hold s.thresholds _ (zero_in (length s.thresholds) w numbers plane place n.each));
}

-- the columns of the least and the greatest samples that were cleared
pub no_ends : (planes planes' w : ℕ) (held new : List ℕ) → length held ≡ planes' * 2 * w → length new ≡ length held → planes ≡ planes'
    → ((plane place : ℕ) → plane < planes → place < w → get_or new (plane * 2 * w + place) 0 ≡ 65535)
    → ((plane place : ℕ) → plane < planes → place < w → get_or new ((plane * 2 + 1) * w + place) 0 ≡ 0)
    → AreNoEnds planes' w new
no_ends planes planes' w held new long whole e least greatest = record {
  long = whole ∙ long;
  least = λ plane place p_in here. least plane place (omega (arith, e, p_in)) here;
  greatest = λ plane place p_in here. greatest plane place (omega (arith, e, p_in)) here;
}
