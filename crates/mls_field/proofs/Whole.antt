-- The numbers of a cell that were read from their columns, and to which the rows that wait were added.
use Rattle.std.proofs.Common.{◌≡◌, ℕ, zero, suc, ◌+◌, ◌*◌, ◌^◌, ◌<◌, ◌≤◌, List, length, take, get_or, slice_index, ap, ◌∙◌, sym, subst, arith}
use Rattle.std.specs.Prelude.{IsTrue}
use Rattle.std.proofs.lemmas.Grind.{same_number_lists}
use Rattle.std.proofs.lemmas.List.{length-take-le, get_or-take}
use Rattle.std.proofs.lemmas.Nat.{mul-le}
use Rattle.mls_model.specs.Studies.{rises, planes}
use Rattle.mls_model.specs.Blocks.{block, width}
use Rattle.mls_cov.proofs.Same.{rules_same}
use Rattle.mls_field.specs.Cells.{cell_of, whole_cell}
use Rattle.mls_field.specs.ColumnSums.{sums_size, sums_step}
use Rattle.mls_field.specs.OutputSteps.{numbers_step}
use Rattle.mls_field.specs.Fields.{IsPart, added_of}
use Rattle.mls_field.specs.Gathered.{waiting_row}
use Rattle.mls_field.specs.Kinds.{SumsWithin, HoldSums, NumbersWithin, HoldNumbers, first_of, second_of, third_of, fourth_of}
use Rattle.mls_field.specs.OneCell.{SameFront, HasRoomFor}
use Rattle.mls_field.specs.declared.field.Field.{Field}
use Rattle.mls_field.specs.Stands.{shape_of, rank_of, row_count}
use Rattle.mls_field.specs.Kept.{sums_in_cell, numbers_in_cell}
use Rattle.mls_field.proofs.Grid.{plane_before}
use Rattle.mls_field.proofs.Growing.{row_is}
use Rattle.mls_field.proofs.ThreeKinds.{sums_kind, numbers_kind}
use Rattle.mls_field.proofs.WholeCells.{IsKind, length-cell, entry-cell, within_rows}

-- a place of the block
pub here : (f : Field) (place : ℕ) → place < width (block (shape_of f) (rank_of f)) → place < f.places
here f place inside = omega (arith, f.kept.block_width, inside)

-- the columns of a plane lie within those of all planes
pub columns_fit : (size places plane count bound : ℕ) → plane < count → bound ≡ count * size * places → (plane * size + size) * places ≤ bound
columns_fit size places plane count bound inside e =
    let a = plane_before plane count size inside in
    let b = mul-le (plane * size + size) places (count * size) places a (omega arith) in
    omega (arith, b, e)

-- what was read is the cell in its columns
pub cell_read : (size w plane place : ℕ) (items held read : List ℕ) → held ≡ items → ((c : ℕ) → c < size → slice_index read c ≡ slice_index held ((plane * size + c) * w + place)) → SameFront size read (cell_of size w items plane place)
cell_read size w plane place items held read same each = record {
  each = λ c h. each c h ∙ (ap (λ (xs : List ℕ). slice_index xs ((plane * size + c) * w + place)) same ∙ sym (entry-cell size w items plane place c h));
}

-- the rules speak of the front alone
pub sums_front : (p n : ℕ) (xs ys : List ℕ) → SameFront (sums_size p) xs ys → SumsWithin p n ys → SumsWithin p n xs
sums_front p n xs ys same h =
    let aa = same.each 2 (omega arith) in
    let bb = same.each 3 (omega arith) in
    let a = same.each (4 + 4 * p) (omega arith) in
    let b = same.each (4 + 4 * p + 1) (omega arith) in
    let low = same.each (4 + 4 * p + 2) (omega arith) in
    let high = same.each (4 + 4 * p + 3) (omega arith) in
    record {
      products = rules_same p ys xs (λ i i_in. same.each i (omega (arith, i_in))) n h.products;
      powers = record {
        cubes_a = omega (arith, h.powers.cubes_a, a);
        cubes_b = omega (arith, h.powers.cubes_b, b);
        low = omega (arith, h.powers.low, low);
        high = omega (arith, h.powers.high, high);
        third = omega (arith, h.powers.third, a, b, aa, bb);
        fourth = omega (arith, h.powers.fourth, a, b, low, high);
      };
    }

-- the numbers of a cell with the rows that wait may be those of all rows that were given
pub within_whole : (within : ℕ → List ℕ → Type 0) (holds : List ℕ → List (List ℕ) → Type 0) (step : ℕ → List ℕ → ℕ → ℕ) (size q count w : ℕ) → IsKind within holds step size q → (counts waiting numbers samples : List ℕ) → IsPart within size count w (added_of counts waiting) numbers → ((plane : ℕ) → get_or waiting plane 0 ≤ get_or counts plane 0) → ((i : ℕ) → get_or samples i 0 ≤ 65535) → (plane place : ℕ) → plane < count → place < w → within (get_or counts plane 0) (whole_cell step size w numbers q samples (get_or waiting plane 0) plane place)
within_whole within holds step size q count w kind counts waiting numbers samples part given small plane place p_in place_in =
    let g = get_or waiting plane 0 in
    let all : added_of counts waiting plane + g ≡ get_or counts plane 0 = omega (arith, given plane) in
    subst (λ (m : ℕ). within m (whole_cell step size w numbers q samples g plane place)) all
    (within_rows within holds step size q kind (λ i. waiting_row q w samples plane place i) g (added_of counts waiting plane) (cell_of size w numbers plane place) (length-cell size w numbers plane place) (λ i. row_is q w samples plane place i small) (part.range plane place p_in place_in))

pub sums_whole : (f : Field) (plane place : ℕ) → plane < planes f.shape → place < f.places → SumsWithin f.shape.parameters (row_count f plane) (sums_in_cell f plane place)
sums_whole f plane place p_in place_in =
    let p = f.shape.parameters in
    within_whole (SumsWithin p) (HoldSums p) (sums_step p) (sums_size p) (p + 2) (planes f.shape) f.places (sums_kind p) f.counts.items f.waiting.items f.sums.items f.samples.items f.kept.sums_in f.kept.given f.kept.small plane place p_in place_in

pub numbers_whole : (f : Field) (plane place : ℕ) → IsTrue (rises f.shape.thresholds) → plane < planes f.shape → place < f.places → NumbersWithin (row_count f plane) (numbers_in_cell f plane place)
numbers_whole f plane place rise p_in place_in =
    let ts = f.shape.thresholds in
    let q = f.shape.parameters + 2 in
    within_whole NumbersWithin (HoldNumbers ts) (numbers_step ts) (length ts) q (planes f.shape) f.places (numbers_kind ts q rise) f.counts.items f.waiting.items f.numbers.items f.samples.items f.kept.numbers_in f.kept.given f.kept.small plane place p_in place_in

-- there is room for the rows that wait
pub room_for_rows : (f : Field) (plane place g : ℕ) (read : List ℕ) → plane < planes f.shape → place < f.places → g ≡ get_or f.waiting.items plane 0 → SameFront (sums_size f.shape.parameters) read (cell_of (sums_size f.shape.parameters) f.places f.sums.items plane place) → HasRoomFor (SumsWithin f.shape.parameters) g read
room_for_rows f plane place g read p_in place_in e same = record {
  count = added_of f.counts.items f.waiting.items plane;
  few = omega (arith, e, f.kept.given plane, f.kept.few plane);
  range = sums_front f.shape.parameters _ read _ same (f.kept.sums_in.range plane place p_in place_in);
}

pub room_for_numbers_read : (f : Field) (plane place g : ℕ) (read : List ℕ) → plane < planes f.shape → place < f.places → g ≡ get_or f.waiting.items plane 0 → SameFront (length f.shape.thresholds) read (cell_of (length f.shape.thresholds) f.places f.numbers.items plane place) → (c : ℕ) → c < length f.shape.thresholds → slice_index read c + 2 * g ≤ 131070
room_for_numbers_read f plane place g read p_in place_in e same c c_in =
    omega (arith, e, f.kept.given plane, f.kept.few plane, same.each c c_in, (f.kept.numbers_in.range plane place p_in place_in).few c)

-- the two ends of a cell in their columns
pub ends_read : (w plane place : ℕ) (items held read : List ℕ) → held ≡ items → slice_index read 0 ≡ slice_index held (plane * 2 * w + place) → slice_index read 1 ≡ slice_index held ((plane * 2 + 1) * w + place) → SameFront 2 read (cell_of 2 w items plane place)
ends_read w plane place items held read same least greatest = cell_read 2 w plane place items held read same each
  where
    each : (c : ℕ) → c < 2 → slice_index read c ≡ slice_index held ((plane * 2 + c) * w + place)
    each zero h = least ∙ ap (slice_index held) (let e : plane * 2 * w + place ≡ (plane * 2 + 0) * w + place = omega arith in e)
    each (suc zero) h = greatest
    each (suc (suc c)) h = absurd (omega (arith, h))

-- the power sums are read from the front alone
module _ (p : ℕ) (xs ys : List ℕ) (same : SameFront (sums_size p) xs ys) where
  pub firsts_same : first_of xs ≡ first_of ys
  firsts_same = let a = same.each 0 (omega arith) in let b = same.each 1 (omega arith) in λ i. a i + b i

  pub seconds_same : second_of xs ≡ second_of ys
  seconds_same = let a = same.each 2 (omega arith) in let b = same.each 3 (omega arith) in λ i. a i + b i

  pub thirds_same : third_of p xs ≡ third_of p ys
  thirds_same = let a = same.each (4 + 4 * p) (omega arith) in let b = same.each (4 + 4 * p + 1) (omega arith) in λ i. a i + b i

  pub fourths_same : fourth_of p xs ≡ fourth_of p ys
  fourths_same = let a = same.each (4 + 4 * p + 2) (omega arith) in let b = same.each (4 + 4 * p + 3) (omega arith) in λ i. a i + 2 ^ 32 * b i

-- a front that was taken
pub front_taken : (size : ℕ) (xs ys : List ℕ) → size ≤ length xs → length ys ≡ size → SameFront size xs ys → take size xs ≡ ys
front_taken size xs ys fits long same =
    let taken = length-take-le size xs fits in
    same_number_lists (take size xs) ys (taken ∙ sym long) (λ i h. let low : i < size = omega (arith, h, taken) in get_or-take size xs i 0 low ∙ same.each i low)

-- the same front of two lists, taken
pub front_part : (size : ℕ) (xs ys : List ℕ) → size ≤ length xs → size ≤ length ys → ((i : ℕ) → i < size → slice_index xs i ≡ slice_index ys i) → take size xs ≡ take size ys
front_part size xs ys fits fits' each =
    let taken = length-take-le size xs fits in
    let taken' = length-take-le size ys fits' in
    same_number_lists (take size xs) (take size ys) (taken ∙ sym taken') (λ i h. let low : i < size = omega (arith, h, taken) in get_or-take size xs i 0 low ∙ (each i low ∙ sym (get_or-take size ys i 0 low)))
