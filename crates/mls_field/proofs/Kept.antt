-- The sums that are kept of rows are the sums of these rows.
use Rattle.std.proofs.Common.{◌≡◌, ℕ, zero, suc, ◌+◌, ◌*◌, ◌/◌, ◌%◌, ◌<◌, List, [], ◌∷◌, ◌++◌, length, map, take, get_or, pos, unsigned_abs, ap, ◌∙◌, refl, sym, inl, inr, arith}
use Rattle.std.specs.List.{flat_map, sum_by, AllByRecursion}
use Rattle.std.proofs.lemmas.Bool.{cases_lt}
use Rattle.std.proofs.lemmas.Grind.{same_number_lists}
use Rattle.std.proofs.lemmas.List.{length-append, length-map, length-take-le, get_or-take, get_or_append_left}
use Rattle.std.proofs.lemmas.List.Concat.{flat_map-append}
use Rattle.std.proofs.lemmas.List.Sums.{sum_by-cons}
use Rattle.std.proofs.lemmas.Nat.{div-add-mod', mod_below}
use Rattle.mls_model.specs.Numbers.{below}
use Rattle.mls_model.specs.Standing.{Table}
use Rattle.mls_model.specs.Statistics.{above}
use Rattle.mls_model.specs.CellSums.{CellSums, sample, sum_of, products_of, column_products, both, sums_of}
use Rattle.mls_power.specs.NumbersAbove.{HoldsAbove}
use Rattle.mls_cov.specs.Sums.{HoldsSums, HoldsColumn}
use Rattle.mls_cov.proofs.Same.{holds_same}
use Rattle.mls_field.specs.declared.field.Field.{Field}
use Rattle.mls_model.specs.Studies.{planes}
use Rattle.mls_model.specs.Blocks.{block, width}
use Rattle.mls_field.specs.Stands.{shape_of, rank_of, StandsFor}
use Rattle.mls_field.specs.ColumnSums.{sums_size}
use Rattle.mls_field.specs.Kinds.{first_of, second_of}
use Rattle.mls_field.specs.Kept.{sums_in_cell, numbers_in_cell, sums_at, HasPowers, HasEnds, HasNumbers}
use Rattle.mls_field.specs.ShiftedRows.{shifted_outputs}
use Rattle.mls_power.specs.declared.power.Power.{Power}
use Rattle.mls_power.specs.declared.extrema.Extrema.{Extrema}
use Rattle.mls_power.specs.declared.exceed.Exceed.{Exceed}
use Rattle.mls_power.specs.Standing.{StandsFor as PowerStandsFor}
use Rattle.mls_power.specs.ExtremaStanding.{ExtremaStandFor}
use Rattle.mls_power.specs.ExceedStanding.{ExceedStandsFor}
use Rattle.mls_field.proofs.OneRow.{get_or-beyond}
use Rattle.mls_field.proofs.Rows.{length-shifted_outputs}
use Rattle.mls_field.proofs.Added.{whole_long}

-- ---- lists
at_right : (xs ys : List ℕ) (n j : ℕ) → n ≡ length xs + j → get_or (xs ++ ys) n 0 ≡ get_or ys j 0
at_right [] ys n j e = ap (λ (i : ℕ). get_or ys i 0) (omega (arith, e))
at_right (x ∷ xs) ys zero j e = absurd (omega (arith, e))
at_right (x ∷ xs) ys (suc n) j e = at_right xs ys n j (omega (arith, e))

at_mapped : (f : ℕ → ℕ) (xs : List ℕ) (i : ℕ) → i < length xs → get_or (map f xs) i 0 ≡ f (get_or xs i 0)
at_mapped f [] i h = absurd (omega (arith, h))
at_mapped f (x ∷ xs) zero h = refl
at_mapped f (x ∷ xs) (suc i) h = at_mapped f xs i (omega (arith, h))

-- ---- the numbers above thresholds
numbers_are : (thresholds numbers ws : List ℕ) → length numbers ≡ length thresholds → HoldsAbove thresholds numbers ws → numbers ≡ map (λ (threshold : ℕ). above (pos threshold) (map pos ws)) thresholds
numbers_are thresholds numbers ws long holds =
    let count : ℕ → ℕ = λ threshold. above (pos threshold) (map pos ws) in
    same_number_lists numbers (map count thresholds) (long ∙ sym (length-map thresholds count))
    (λ i h. holds.each i (omega (arith, h, long)) ∙ sym (at_mapped count thresholds i (omega (arith, h, long))))

-- ---- the products
length-columns : (rows : List (List ℕ)) (p : ℕ) → length (flat_map (column_products rows) (below p)) ≡ 4 * p
length-columns rows zero = refl
length-columns rows (suc p) =
    ap length (flat_map-append (column_products rows) (below p) (p ∷ [])) ∙ omega (arith, length-append (flat_map (column_products rows) (below p)) (column_products rows p ++ []), length-columns rows p)

at_columns : (rows : List (List ℕ)) (p k j n : ℕ) → k < p → j < 4 → n ≡ 4 * k + j → get_or (flat_map (column_products rows) (below p)) n 0 ≡ get_or (column_products rows k) j 0
at_columns rows zero k j n h small e = absurd (omega (arith, h))
at_columns rows (suc p) k j n h small e =
    let before = flat_map (column_products rows) (below p) in
    let long = length-columns rows p in
    ap (λ (xs : List ℕ). get_or xs n 0) (flat_map-append (column_products rows) (below p) (p ∷ [])) ∙
    elim (cases_lt k p) [
      | inl low ↦ get_or_append_left before (column_products rows p ++ []) 0 n (omega (arith, low, small, e, long)) ∙ at_columns rows p k j n low small e
      | inr high ↦ (let last : p ≡ k = omega (arith, high, h) in at_right before (column_products rows p ++ []) n j (omega (arith, e, long, ap (λ (m : ℕ). 4 * m) last)) ∙ ap (λ (m : ℕ). get_or (column_products rows m ++ []) j 0) last)
    ]

column_entry : (k j : ℕ) (words : List ℕ) (rows : List (List ℕ)) (n : ℕ) → j < 4 → n ≡ 4 + 4 * k + j → HoldsColumn k words rows → get_or words n 0 ≡ get_or (column_products rows k) j 0
column_entry k zero words rows n small e holds = ap (λ (m : ℕ). get_or words m 0) (e ∙ omega arith) ∙ holds.first
column_entry k (suc zero) words rows n small e holds = ap (λ (m : ℕ). get_or words m 0) e ∙ holds.second
column_entry k (suc (suc zero)) words rows n small e holds = ap (λ (m : ℕ). get_or words m 0) e ∙ holds.with_a
column_entry k (suc (suc (suc zero))) words rows n small e holds = ap (λ (m : ℕ). get_or words m 0) e ∙ holds.with_b
column_entry k (suc (suc (suc (suc j)))) words rows n small e holds = absurd (omega (arith, small))

abbrev pub products_list : ℕ → List (List ℕ) → List ℕ
products_list p rows = sum_of 0 rows ∷ sum_of 1 rows ∷ products_of 0 0 rows ∷ products_of 1 1 rows ∷ flat_map (column_products rows) (below p)

product_entry : (p : ℕ) (words : List ℕ) (rows : List (List ℕ)) → HoldsSums p words rows → (i : ℕ) → i < 4 + 4 * p → get_or words i 0 ≡ get_or (products_list p rows) i 0
product_entry p words rows holds zero h = holds.a
product_entry p words rows holds (suc zero) h = holds.b
product_entry p words rows holds (suc (suc zero)) h = holds.aa
product_entry p words rows holds (suc (suc (suc zero))) h = holds.bb
product_entry p words rows holds (suc (suc (suc (suc i)))) h =
    let k = i / 4 in
    let j = i % 4 in
    let whole : i ≡ 4 * k + j = omega (arith, div-add-mod' i 4) in
    let small : j < 4 = mod_below i 4 (omega arith) in
    let in_columns : k < p = omega (arith, whole, h) in
    column_entry k j words rows (suc (suc (suc (suc i)))) small (omega (arith, whole)) (holds.columns k in_columns) ∙ sym (at_columns rows p k j i in_columns small whole)

products_are : (p : ℕ) (words : List ℕ) (rows : List (List ℕ)) → length words ≡ 4 + 4 * p → HoldsSums p words rows → words ≡ products_list p rows
products_are p words rows long holds =
    same_number_lists words (products_list p rows) (omega (arith, long, length-columns rows p))
    (λ i h. product_entry p words rows holds i (omega (arith, h, long)))

-- the list holds the sums
pub holds_products : (p : ℕ) (rows : List (List ℕ)) → AllByRecursion (λ row. length row ≡ p + 2) rows → HoldsSums p (products_list p rows) rows
holds_products p rows all = record {
  rows_in = all;
  a = refl;
  b = refl;
  aa = refl;
  bb = refl;
  columns = λ k in_p. record {
    first = column_at k 0 in_p (omega arith) (omega arith);
    second = column_at k 1 in_p (omega arith) (omega arith);
    with_a = column_at k 2 in_p (omega arith) (omega arith);
    with_b = column_at k 3 in_p (omega arith) (omega arith);
  };
}
  where
    column_at : (k j : ℕ) {n : ℕ} → k < p → j < 4 → n ≡ suc (suc (suc (suc (4 * k + j)))) → get_or (products_list p rows) n 0 ≡ get_or (column_products rows k) j 0
    column_at k j in_p small e = ap (λ (m : ℕ). get_or (products_list p rows) m 0) e ∙ at_columns rows p k j (4 * k + j) in_p small refl

-- ---- the samples A and B of all rows
both_sum : (f : ℕ → ℕ) (rows : List (List ℕ)) → sum_by f (both rows) ≡ sum_by (λ row. f (sample 0 row)) rows + sum_by (λ row. f (sample 1 row)) rows
both_sum f [] = refl
both_sum f (row ∷ rows) =
    let a = sum_by-cons f (sample 0 row) (sample 1 row ∷ both rows) in
    let b = sum_by-cons f (sample 1 row) (both rows) in
    let c = sum_by-cons (λ (r : List ℕ). f (sample 0 r)) row rows in
    let d = sum_by-cons (λ (r : List ℕ). f (sample 1 r)) row rows in
    omega (arith, a, b, c, d, both_sum f rows)

firsts_are : (p : ℕ) (sums : List ℕ) (rows : List (List ℕ)) → HoldsSums p sums rows → first_of sums ≡ sum_by (λ (w : ℕ). w) (both rows)
firsts_are p sums rows h = (λ i. h.a i + h.b i) ∙ sym (both_sum (λ (w : ℕ). w) rows)

seconds_are : (p : ℕ) (sums : List ℕ) (rows : List (List ℕ)) → HoldsSums p sums rows → second_of sums ≡ sum_by (λ (w : ℕ). w * w) (both rows)
seconds_are p sums rows h = (λ i. h.aa i + h.bb i) ∙ sym (both_sum (λ (w : ℕ). w * w) rows)

-- the products in the front of the sums
front_products : (p : ℕ) (sums : List ℕ) (rows : List (List ℕ)) → length sums ≡ sums_size p → HoldsSums p sums rows → take (4 + 4 * p) sums ≡ products_list p rows
front_products p sums rows long h =
    products_are p (take (4 + 4 * p) sums) rows (length-take-le (4 + 4 * p) sums (omega (arith, long)))
    (holds_same p sums (take (4 + 4 * p) sums) (λ i low. get_or-take (4 + 4 * p) sums i 0 low) rows h)

-- ---- a cell
pub sums_long : (f : Field) (plane place : ℕ) → length (sums_in_cell f plane place) ≡ sums_size f.shape.parameters
sums_long f plane place = whole_long _ _ f.places f.sums.items (f.shape.parameters + 2) f.samples.items (get_or f.waiting.items plane 0) plane place

pub numbers_long : (f : Field) (plane place : ℕ) → length (numbers_in_cell f plane place) ≡ length f.shape.thresholds
numbers_long f plane place = whole_long _ _ f.places f.numbers.items (f.shape.parameters + 2) f.samples.items (get_or f.waiting.items plane 0) plane place

pub sums_are : (f : Field) (t : Table) (plane place : ℕ) → StandsFor f t → plane < planes f.shape → place < f.places → sums_at f plane place ≡ sums_of f.shape.parameters f.shape.thresholds (t plane place)
sums_are f t plane place stands plane_in place_in =
    let rows = t plane place in
    let sums = stands.sums_of.each plane place plane_in place_in in
    let ends = stands.extrema_of.each plane place plane_in place_in in
    let first = firsts_are f.shape.parameters (sums_in_cell f plane place) rows sums.products in
    let second = seconds_are f.shape.parameters (sums_in_cell f plane place) rows sums.products in
    let numbers = numbers_are f.shape.thresholds (numbers_in_cell f plane place) (both rows) (numbers_long f plane place) (stands.numbers_of.each plane place plane_in place_in) in
    let products = front_products f.shape.parameters (sums_in_cell f plane place) rows (sums_long f plane place) sums.products in
    λ i. record {
      rows = sym (stands.counted plane place plane_in place_in) i;
      p1 = first i;
      p2 = second i;
      p3 = sums.third i;
      p4 = sums.fourth i;
      least = ap unsigned_abs ends.least i;
      greatest = ap unsigned_abs ends.greatest i;
      above = numbers i;
      products = products i;
    }

-- the same by the numbers of the block
pub sums_of_rows : (f : Field) (t : Table) (plane place : ℕ) → StandsFor f t → plane < planes (shape_of f) → place < width (block (shape_of f) (rank_of f)) → sums_at f plane place ≡ sums_of (shape_of f).parameters (shape_of f).thresholds (t plane place)
sums_of_rows f t plane place stands plane_in place_in = sums_are f t plane place stands plane_in (omega (arith, f.kept.block_width, place_in))

pub rows_whole : (f : Field) (t : Table) (plane place : ℕ) → StandsFor f t → plane < planes (shape_of f) → place < width (block (shape_of f) (rank_of f)) → AllByRecursion (λ row. length row ≡ (shape_of f).parameters + 2) (t plane place)
rows_whole f t plane place stands plane_in place_in = stands.whole plane place plane_in (omega (arith, f.kept.block_width, place_in))

-- ---- what is read of a cell stands for its rows
pub power_stands : (f : Field) (t : Table) (plane place : ℕ) (p : Power) → HasPowers (sums_at f plane place) p → StandsFor f t → plane < planes f.shape → place < f.places → PowerStandsFor p (shifted_outputs (t plane place))
power_stands f t plane place p kept stands plane_in place_in =
    let same = sums_are f t plane place stands plane_in place_in in
    record {
      count = omega (arith, kept.count, stands.counted plane place plane_in place_in, length-shifted_outputs (t plane place));
      first = kept.first ∙ ap (λ (c : CellSums). c.p1) same;
      second = kept.second ∙ ap (λ (c : CellSums). c.p2) same;
      third = kept.third ∙ ap (λ (c : CellSums). c.p3) same;
      fourth = kept.fourth ∙ ap (λ (c : CellSums). c.p4) same;
    }

pub extrema_stand : (f : Field) (t : Table) (plane place : ℕ) (e : Extrema) → HasEnds (sums_at f plane place) e → StandsFor f t → plane < planes f.shape → place < f.places → ExtremaStandFor e (shifted_outputs (t plane place))
extrema_stand f t plane place e kept stands plane_in place_in =
    let ends = stands.extrema_of.each plane place plane_in place_in in
    record { least = ap pos kept.least ∙ ends.least; greatest = ap pos kept.greatest ∙ ends.greatest }

pub exceed_stands : (f : Field) (t : Table) (plane place : ℕ) (e : Exceed) → HasNumbers (length f.shape.thresholds) (sums_at f plane place) e → StandsFor f t → plane < planes f.shape → place < f.places → ExceedStandsFor f.shape.thresholds e (shifted_outputs (t plane place))
exceed_stands f t plane place e kept stands plane_in place_in =
    let numbers = stands.numbers_of.each plane place plane_in place_in in
    let long = numbers_long f plane place in
    record {
      count = omega (arith, kept.count, stands.counted plane place plane_in place_in, length-shifted_outputs (t plane place));
      each = λ i h. kept.numbers i ∙ numbers.each i h;
      behind = λ i h. kept.numbers i ∙ get_or-beyond (numbers_in_cell f plane place) i (omega (arith, long, h));
    }
