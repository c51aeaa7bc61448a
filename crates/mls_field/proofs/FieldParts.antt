-- The part of a checkpoint that spells the sums of a rank's block.
use Rattle.std.proofs.Common.{◌≡◌, ℕ, zero, suc, ◌+◌, ◌*◌, ◌<◌, ◌≤◌, List, [], ◌∷◌, length, map, take, get_or, pos, inl, inr, ap, ◌∙◌, refl, sym, subst, arith}
use Rattle.std.proofs.lemmas.Bool.{cases_lt}
use Rattle.std.specs.List.{AllByRecursion}
use Rattle.std.proofs.lemmas.List.{map-append, length-map, get_or-take, get_or_at, get_or_append_left}
use Rattle.mls_model.specs.Numbers.{below}
use Rattle.mls_model.specs.Studies.{Sizes, planes}
use Rattle.mls_model.specs.Blocks.{block, width}
use Rattle.mls_model.specs.Standing.{Table}
use Rattle.mls_model.specs.CellSums.{CellSums, sums_of}
use Rattle.mls_ckpt.specs.CellParts.{IsCell, IsPlane, AreCells, IsSumsPart, part_at, cells_text, sums_part, cells_of}
use Rattle.mls_ckpt.specs.Laws.{IsReadPart}
use Rattle.mls_ckpt.proofs.CellLaws.{cells_same, sums_read_again}
use Rattle.mls_cov.specs.Sums.{HoldsSums}
use Rattle.mls_cov.proofs.Same.{holds_same}
use Rattle.mls_field.specs.declared.field.Field.{Field}
use Rattle.mls_field.specs.Kept.{sums_in_cell, ends_in_cell, numbers_in_cell, sums_at}
use Rattle.mls_field.specs.Kinds.{ExtremaWithin, HoldExtrema, HoldSums, HoldNumbers}
use Rattle.mls_field.specs.OutputSteps.{ends_step}
use Rattle.mls_field.specs.PackedCells.{CellWithin}
use Rattle.mls_field.specs.PlaneCounts.{by_plane}
use Rattle.mls_field.specs.Spelled.{cells_of_plane, cells_of_field, part_of_field}
use Rattle.mls_field.specs.Stands.{row_count, StandsFor}
use Rattle.mls_field.proofs.OneRow.{get_or-beyond}
use Rattle.mls_field.proofs.Rows.{length-below, entry_of}
use Rattle.mls_field.proofs.ThreeKinds.{ends_kind}
use Rattle.mls_field.proofs.Kept.{sums_long, numbers_long, sums_of_rows}
use Rattle.mls_field.proofs.Whole.{sums_whole, numbers_whole, within_whole, here}
use Rattle.mls_field.proofs.CellRules.{all_below, same_maps, is_cell}

-- ---- the numbers of a cell, with the rows that wait
ends_whole : (f : Field) (plane place : ℕ) → plane < planes f.shape → place < f.places → ExtremaWithin (row_count f plane) (ends_in_cell f plane place)
ends_whole f plane place p_in place_in =
    let q = f.shape.parameters + 2 in
    within_whole ExtremaWithin HoldExtrema ends_step 2 q (planes f.shape) f.places (ends_kind q) f.counts.items f.waiting.items f.ends.items f.samples.items f.kept.extrema_in f.kept.given f.kept.small plane place p_in place_in

pub cell_within : (f : Field) (plane place : ℕ) → plane < planes f.shape → place < f.places → CellWithin f.shape.parameters (row_count f plane) (sums_in_cell f plane place) (ends_in_cell f plane place) (numbers_in_cell f plane place)
cell_within f plane place p_in place_in = record {
  sums_in = sums_whole f plane place p_in place_in;
  ends_in = ends_whole f plane place p_in place_in;
  numbers_in = numbers_whole f plane place f.sized.thresholds_rise p_in place_in;
}

cell_valid : (f : Field) (plane place : ℕ) → plane < planes f.shape → place < f.places → IsCell f.shape (row_count f plane) (sums_at f plane place)
cell_valid f plane place p_in place_in =
    is_cell f.shape (row_count f plane) (sums_in_cell f plane place) (ends_in_cell f plane place) (numbers_in_cell f plane place) (f.kept.few plane) (sums_long f plane place) (numbers_long f plane place) (cell_within f plane place p_in place_in)

-- ---- the part is read again
abbrev counts_of : Field → List ℕ
counts_of f = by_plane f.shape (row_count f)

count_at : (f : Field) (plane : ℕ) → plane < planes f.shape → get_or (counts_of f) plane 0 ≡ row_count f plane
count_at f plane p_in = entry_of (row_count f) (planes f.shape) plane p_in

counts_few : (f : Field) (plane : ℕ) → get_or (counts_of f) plane 0 ≤ 65535
counts_few f plane = elim (cases_lt plane (planes f.shape)) [
  | inl low ↦ omega (arith, count_at f plane low, f.kept.few plane)
  | inr high ↦ omega (arith, get_or-beyond (counts_of f) plane (omega (arith, high, length-map (below (planes f.shape)) (row_count f), length-below (planes f.shape))))
]

plane_valid : (f : Field) (plane : ℕ) → plane < planes f.shape → IsPlane f.shape f.rank (get_or (counts_of f) plane 0) (cells_of_plane f plane)
unfolding cells_of_plane
plane_valid f plane p_in =
    let places = width (block f.shape f.rank) in
    subst (λ (n : ℕ). IsPlane f.shape f.rank n (cells_of_plane f plane)) (sym (count_at f plane p_in))
    (record {
      size = length-map (below places) (sums_at f plane) ∙ length-below places;
      each = all_below (λ i sums. IsCell f.shape (row_count f plane) sums) (sums_at f plane) places (λ place inside. cell_valid f plane place p_in (here f place inside));
    })

cells_valid : (f : Field) → AreCells f.shape f.rank (counts_of f) (cells_of_field f)
unfolding cells_of_field
cells_valid f = record {
  size = length-map (below (planes f.shape)) (cells_of_plane f) ∙ length-below (planes f.shape);
  each = all_below (λ plane row. IsPlane f.shape f.rank (get_or (counts_of f) plane 0) row) (cells_of_plane f) (planes f.shape) (plane_valid f);
}

part_valid : (f : Field) → IsSumsPart f.shape f.rank (counts_of f) (part_of_field f)
unfolding part_of_field
part_valid f = record { cells = cells_of_field f; valid = cells_valid f; spelled = refl }

pub part_again : (f : Field) → IsReadPart part_at f.shape f.rank (counts_of f) (part_of_field f)
part_again f = sums_read_again f.shape f.rank (counts_of f) (part_of_field f) (counts_few f) (part_valid f)

-- ---- the part is that of the rows
plane_spelled : (f : Field) (t : Table) → StandsFor f t → (plane : ℕ) → plane < planes f.shape → cells_of_plane f plane ≡ map (λ place. sums_of f.shape.parameters f.shape.thresholds (t plane place)) (below (width (block f.shape f.rank)))
unfolding cells_of_plane
plane_spelled f t stands plane p_in = same_maps (sums_at f plane) (λ place. sums_of f.shape.parameters f.shape.thresholds (t plane place)) (width (block f.shape f.rank)) (λ place inside. sums_of_rows f t plane place stands p_in inside)

pub part_spelled : (f : Field) (t : Table) → StandsFor f t → part_of_field f ≡ sums_part f.shape f.rank t
unfolding part_of_field cells_of_field sums_part cells_of
part_spelled f t stands = ap (λ (cells : List (List CellSums)). cells_text cells []) (same_maps (cells_of_plane f) (λ plane. map (λ place. sums_of f.shape.parameters f.shape.thresholds (t plane place)) (below (width (block f.shape f.rank)))) (planes f.shape) (plane_spelled f t stands))

-- ---- fields with one part stand for the same rows
-- two fields of one study and rank with as many rows of each plane
pub record Matched (f g : Field) : Type 0 where
  pub shapes : f.shape ≡ g.shape
  pub ranks : f.rank ≡ g.rank
  pub counts : (plane : ℕ) → plane < planes f.shape → row_count f plane ≡ row_count g plane

places_same : (f g : Field) → Matched f g → f.places ≡ g.places
places_same f g m = f.kept.block_width ∙ (ap (λ (s : Sizes). width (block s f.rank)) m.shapes ∙ (ap (λ (r : ℕ). width (block g.shape r)) m.ranks ∙ sym g.kept.block_width))

-- the cells of the other are valid for the numbers of the one
cells_of_other : (f g : Field) → Matched f g → AreCells f.shape f.rank (counts_of f) (cells_of_field g)
cells_of_other f g m =
    let counts : counts_of f ≡ counts_of g = same_maps (row_count f) (row_count g) (planes f.shape) m.counts ∙ ap (λ (s : Sizes). by_plane s (row_count g)) m.shapes in
    subst (λ (s : Sizes). AreCells s f.rank (counts_of f) (cells_of_field g)) (sym m.shapes)
    (subst (λ (rank : ℕ). AreCells g.shape rank (counts_of f) (cells_of_field g)) (sym m.ranks) (subst (λ (counts : List ℕ). AreCells g.shape g.rank counts (cells_of_field g)) (sym counts) (cells_valid g)))

cells_agree : (f g : Field) → Matched f g → part_of_field f ≡ part_of_field g → cells_of_field f ≡ cells_of_field g
unfolding part_of_field
cells_agree f g m e = cells_same f.shape f.rank (counts_of f) (cells_of_field f) (cells_of_field g) (counts_few f) (cells_valid f) (cells_of_other f g m) e

entry_in : {A : Type 0} (f : ℕ → A) (n i : ℕ) (d : A) → i < n → get_or (map f (below n)) i d ≡ f i
entry_in f zero i d h = absurd (omega (arith, h))
entry_in f (suc n) i d h =
    let size : length (map f (below n)) ≡ n = length-map (below n) f ∙ length-below n in
    ap (λ xs. get_or xs i d) (map-append f (below n) (n ∷ [])) ∙
    elim (cases_lt i n) [
      | inl low ↦ get_or_append_left (map f (below n)) (f n ∷ []) d i (omega (arith, size, low)) ∙ entry_in f n i d low
      | inr high ↦ (let e : n ≡ i = omega (arith, h, high) in get_or_at (map f (below n)) (f n) [] d i (omega (arith, size, e)) ∙ ap f e)
    ]

entry_same : {A : Type 0} (f g : ℕ → A) (n m i : ℕ) → n ≡ m → map f (below n) ≡ map g (below m) → i < n → f i ≡ g i
entry_same f g n m i size e h = sym (entry_in f n i (f i) h) ∙ (ap (λ xs. get_or xs i (f i)) e ∙ entry_in g m i (f i) (omega (arith, size, h)))

planes_opened : (f g : Field) → cells_of_field f ≡ cells_of_field g → map (cells_of_plane f) (below (planes f.shape)) ≡ map (cells_of_plane g) (below (planes g.shape))
unfolding cells_of_field
planes_opened f g e = e

plane_opened : (f g : Field) (plane : ℕ) → cells_of_plane f plane ≡ cells_of_plane g plane → map (sums_at f plane) (below (width (block f.shape f.rank))) ≡ map (sums_at g plane) (below (width (block g.shape g.rank)))
unfolding cells_of_plane
plane_opened f g plane e = e

plane_agrees : (f g : Field) → Matched f g → part_of_field f ≡ part_of_field g → (plane : ℕ) → plane < planes f.shape → cells_of_plane f plane ≡ cells_of_plane g plane
plane_agrees f g m e plane p_in = entry_same (cells_of_plane f) (cells_of_plane g) (planes f.shape) (planes g.shape) plane (ap (λ (s : Sizes). planes s) m.shapes) (planes_opened f g (cells_agree f g m e)) p_in

cell_agrees : (f g : Field) → Matched f g → part_of_field f ≡ part_of_field g → (plane place : ℕ) → plane < planes f.shape → place < f.places → sums_at f plane place ≡ sums_at g plane place
cell_agrees f g m e plane place p_in place_in =
    let wide : width (block f.shape f.rank) ≡ width (block g.shape g.rank) = sym f.kept.block_width ∙ (places_same f g m ∙ g.kept.block_width) in
    entry_same (sums_at f plane) (sums_at g plane) (width (block f.shape f.rank)) (width (block g.shape g.rank)) place wide (plane_opened f g plane (plane_agrees f g m e plane p_in)) (omega (arith, place_in, f.kept.block_width))

sums_agree : (f g : Field) (rows : List (List ℕ)) (plane place : ℕ) → f.shape.parameters ≡ g.shape.parameters → sums_at f plane place ≡ sums_at g plane place → HoldSums f.shape.parameters (sums_in_cell f plane place) rows → HoldSums g.shape.parameters (sums_in_cell g plane place) rows
sums_agree f g rows plane place e same h =
    let xs = sums_in_cell f plane place in
    let ys = sums_in_cell g plane place in
    let products : take (4 + 4 * f.shape.parameters) xs ≡ take (4 + 4 * g.shape.parameters) ys = ap (λ (c : CellSums). c.products) same in
    let there : (i : ℕ) → i < 4 + 4 * f.shape.parameters → get_or ys i 0 ≡ get_or xs i 0 = λ i low.
    sym (get_or-take (4 + 4 * g.shape.parameters) ys i 0 (omega (arith, low, e))) ∙ (ap (λ (zs : List ℕ). get_or zs i 0) (sym products) ∙ get_or-take (4 + 4 * f.shape.parameters) xs i 0 low) in
    record {
      products = subst (λ (p : ℕ). HoldsSums p ys rows) e (holds_same f.shape.parameters xs ys there rows h.products);
      third = sym (ap (λ (c : CellSums). c.p3) same) ∙ h.third;
      fourth = sym (ap (λ (c : CellSums). c.p4) same) ∙ h.fourth;
    }

pub stand_alike : (f g : Field) (t : Table) → Matched f g → part_of_field f ≡ part_of_field g → StandsFor f t → StandsFor g t
stand_alike f g t m e stands =
    let p = ap (λ (s : Sizes). s.parameters) m.shapes in
    let count = ap (λ (s : Sizes). planes s) m.shapes in
    let wide = places_same f g m in
    let same = cell_agrees f g m e in
    record {
      counted = λ plane place p_in in_g. stands.counted plane place (omega (arith, p_in, count)) (omega (arith, in_g, wide)) ∙ m.counts plane (omega (arith, p_in, count));
      whole = λ plane place p_in in_g. subst (λ (q : ℕ). AllByRecursion (λ row. length row ≡ q + 2) (t plane place)) p (stands.whole plane place (omega (arith, p_in, count)) (omega (arith, in_g, wide)));
      sums_of = record { each = λ plane place p_in in_g. sums_agree f g (t plane place) plane place p (same plane place (omega (arith, p_in, count)) (omega (arith, in_g, wide))) (stands.sums_of.each plane place (omega (arith, p_in, count)) (omega (arith, in_g, wide))) };
      extrema_of = record {
        each = λ plane place p_in in_g. (
            let h = stands.extrema_of.each plane place (omega (arith, p_in, count)) (omega (arith, in_g, wide)) in
            let at = same plane place (omega (arith, p_in, count)) (omega (arith, in_g, wide)) in
            record { least = ap (λ (c : CellSums). pos c.least) (sym at) ∙ h.least; greatest = ap (λ (c : CellSums). pos c.greatest) (sym at) ∙ h.greatest }
            );
      };
      numbers_of = record {
        each = λ plane place p_in in_g. (
            let h = stands.numbers_of.each plane place (omega (arith, p_in, count)) (omega (arith, in_g, wide)) in
            let at = same plane place (omega (arith, p_in, count)) (omega (arith, in_g, wide)) in
            numbers_agree f.shape.thresholds g.shape.thresholds (numbers_in_cell f plane place) (numbers_in_cell g plane place) (t plane place) (ap (λ (s : Sizes). s.thresholds) m.shapes) (ap (λ (c : CellSums). c.above) at) h
            );
      };
    }
  where
    numbers_agree : (ts ts' xs ys : List ℕ) (rows : List (List ℕ)) → ts ≡ ts' → xs ≡ ys → HoldNumbers ts xs rows → HoldNumbers ts' ys rows
    numbers_agree ts ts' xs ys rows e f h = subst (λ (us : List ℕ). HoldNumbers us ys rows) e (subst (λ (zs : List ℕ). HoldNumbers ts zs rows) f h)
