-- How many bytes the sums of a rank's block take.
use Rattle.std.proofs.Common.{◌≡◌, ℕ, zero, suc, ◌+◌, ◌*◌, List, [], ◌∷◌, length, map, ap, ◌∙◌, arith}
use Rattle.std.proofs.lemmas.List.{map-append, length-take-le}
use Rattle.std.specs.Int.{Width, w16, w32, w64, w128, byte_len}
use Rattle.mls_model.specs.Numbers.{below}
use Rattle.mls_model.specs.Studies.{planes}
use Rattle.mls_model.specs.Blocks.{block, width}
use Rattle.mls_model.specs.CellSums.{CellSums}
use Rattle.mls_ckpt.specs.Reading.{text, texts}
use Rattle.mls_ckpt.specs.CellParts.{powers_text, extrema_text, cell_text, cells_text}
use Rattle.mls_ckpt.proofs.Numbers.{text_long}
use Rattle.mls_ckpt.proofs.Steps.{texts-append}
use Rattle.mls_field.specs.declared.field.Field.{Field}
use Rattle.mls_field.specs.Kept.{sums_in_cell, sums_at}
use Rattle.mls_field.specs.Spelled.{cells_of_plane, cells_of_field, part_of_field}
use Rattle.mls_field.proofs.Kept.{sums_long, numbers_long}

row_long : (w : Width) (values : List ℕ) (rest : List ℕ) → length (texts (text w) values rest) ≡ length values * byte_len w + length rest
row_long w [] rest = omega arith
row_long w (n ∷ values) rest = text_long w n (texts (text w) values rest) ∙ omega (arith, row_long w values rest)

below_long : {A : Type 0} (write : A → List ℕ → List ℕ) (f : ℕ → A) (size n : ℕ) → ((i : ℕ) (rest : List ℕ) → length (write (f i) rest) ≡ size + length rest) → (rest : List ℕ) → length (texts write (map f (below n)) rest) ≡ n * size + length rest
below_long write f size zero each rest = omega arith
below_long write f size (suc n) each rest =
    ap (λ xs. length (texts write xs rest)) (map-append f (below n) (n ∷ [])) ∙
    (ap length (texts-append write (map f (below n)) (f n ∷ []) rest) ∙ (below_long write f size n each (write (f n) rest) ∙ omega (arith, each n rest)))

cell_long : (c : CellSums) (p t : ℕ) → length c.above ≡ t → length c.products ≡ 4 + 4 * p → (rest : List ℕ) → length (cell_text c rest) ≡ 84 + 4 * t + 32 * p + length rest
unfolding cell_text powers_text extrema_text
cell_long c p t above products rest =
    let r7 = texts (text w64) c.products rest in
    let r6 = texts (text w32) c.above r7 in
    let r5 = text w16 c.greatest r6 in
    let r4 = text w16 c.least r5 in
    let r3 = text w128 c.p4 r4 in
    let r2 = text w128 c.p3 r3 in
    let r1 = text w64 c.p2 r2 in
    let e0 : length (text w64 c.p1 r1) ≡ 8 + length r1 = text_long w64 c.p1 r1 in
    let e1 : length r1 ≡ 8 + length r2 = text_long w64 c.p2 r2 in
    let e2 : length r2 ≡ 16 + length r3 = text_long w128 c.p3 r3 in
    let e3 : length r3 ≡ 16 + length r4 = text_long w128 c.p4 r4 in
    let e4 : length r4 ≡ 2 + length r5 = text_long w16 c.least r5 in
    let e5 : length r5 ≡ 2 + length r6 = text_long w16 c.greatest r6 in
    let e6 : length r6 ≡ length c.above * 4 + length r7 = row_long w32 c.above r7 in
    let e7 : length r7 ≡ length c.products * 8 + length rest = row_long w64 c.products rest in
    omega (arith, above, products, e0, e1, e2, e3, e4, e5, e6, e7)

abbrev cell_size : Field → ℕ
cell_size f = 84 + 4 * length f.shape.thresholds + 32 * f.shape.parameters

kept_long : (f : Field) (plane place : ℕ) (rest : List ℕ) → length (cell_text (sums_at f plane place) rest) ≡ cell_size f + length rest
kept_long f plane place rest =
    cell_long (sums_at f plane place) f.shape.parameters (length f.shape.thresholds) (numbers_long f plane place)
    (length-take-le (4 + 4 * f.shape.parameters) (sums_in_cell f plane place) (omega (arith, sums_long f plane place))) rest

plane_long : (f : Field) (plane : ℕ) (rest : List ℕ) → length (texts cell_text (cells_of_plane f plane) rest) ≡ width (block f.shape f.rank) * cell_size f + length rest
unfolding cells_of_plane
plane_long f plane rest = below_long cell_text (sums_at f plane) (cell_size f) (width (block f.shape f.rank)) (λ place rest. kept_long f plane place rest) rest

pub part_long : (f : Field) → length (part_of_field f) ≡ planes f.shape * (width (block f.shape f.rank) * cell_size f)
unfolding part_of_field cells_of_field cells_text
part_long f =
    let all = below_long (texts cell_text) (cells_of_plane f) (width (block f.shape f.rank) * cell_size f) (planes f.shape) (λ plane rest. plane_long f plane rest) [] in
    omega (arith, all)
