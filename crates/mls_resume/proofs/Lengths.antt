-- How long the part of a state's sums is.
use Rattle.std.proofs.Common.{◌≡◌, ℕ, ◌+◌, ◌*◌, List, [], ◌∷◌, length, ap, ◌∙◌, arith, length-append}
use Rattle.std.specs.Prelude.{slice_index}
use Rattle.std.specs.Int.{Width, byte_len, w16, w32, w64, w128}
use Rattle.mls_model.specs.Numbers.{joined}
use Rattle.mls_model.specs.CellSums.{CellSums}
use Rattle.mls_model.specs.Studies.{Sizes, planes}
use Rattle.mls_model.specs.Blocks.{block, width}
use Rattle.mls_ckpt.specs.Reading.{text, texts, AllFrom}
use Rattle.mls_ckpt.specs.States.{after_one}
use Rattle.mls_ckpt.specs.CellParts.{powers_text, extrema_text, cell_text, cells_text, Totals, IsColumn, IsCell, IsPlane, IsSumsPart}
use Rattle.mls_ckpt.proofs.Numbers.{text_long}
use Rattle.mls_resume.specs.Recut.{cell_size, part_size}

pub texts_long : (w : Width) (values rest : List ℕ) → length (texts (text w) values rest) ≡ length values * byte_len w + length rest
texts_long w [] rest = omega arith
texts_long w (v ∷ values) rest = omega (arith, text_long w v (texts (text w) values rest), texts_long w values rest)

joined_long : (n : ℕ) (t : Totals) (i : ℕ) (columns : List (List ℕ)) → AllFrom (λ i column. IsColumn n t column) after_one i columns → length (joined columns) ≡ 4 * length columns
joined_long n t i [] each = omega arith
joined_long n t i (column ∷ columns) each = omega (arith, length-append column (joined columns), ap length each.0.is, joined_long n t (i + 1) columns each.1)

pub cell_long : (s : Sizes) (n : ℕ) (sums : CellSums) (rest : List ℕ) → IsCell s n sums → length (cell_text sums rest) ≡ cell_size s + length rest
unfolding cell_text powers_text extrema_text
cell_long s n sums rest is =
    let products = texts (text w64) sums.products rest in
    let numbers = texts (text w32) sums.above products in
    let ends = text w16 sums.greatest numbers in
    let extrema = text w16 sums.least ends in
    let fourth = text w128 sums.p4 extrema in
    let third = text w128 sums.p3 fourth in
    let second = text w64 sums.p2 third in
    omega (
      arith,
      text_long w64 sums.p1 second,
      text_long w64 sums.p2 third,
      text_long w128 sums.p3 fourth,
      text_long w128 sums.p4 extrema,
      text_long w16 sums.least ends,
      text_long w16 sums.greatest numbers,
      texts_long w32 sums.above products,
      texts_long w64 sums.products rest,
      ap length is.products,
      joined_long n is.totals 0 is.columns is.each,
      is.thresholds,
      is.parameters,
    )

pub row_long : (s : Sizes) (n i : ℕ) (cells : List CellSums) (rest : List ℕ) → AllFrom (λ i sums. IsCell s n sums) after_one i cells → length (texts cell_text cells rest) ≡ length cells * cell_size s + length rest
row_long s n i [] rest each = omega arith
row_long s n i (cell ∷ cells) rest each = omega (arith, cell_long s n cell (texts cell_text cells rest) each.0, row_long s n (i + 1) cells rest each.1)

pub rows_long : (s : Sizes) (rank : ℕ) (marks : List ℕ) (i : ℕ) (rows : List (List CellSums)) (rest : List ℕ) → AllFrom (λ plane row. IsPlane s rank (slice_index marks plane) row) after_one i rows
    → length (texts (texts cell_text) rows rest) ≡ length rows * (width (block s rank) * cell_size s) + length rest
rows_long s rank marks i [] rest each = omega arith
rows_long s rank marks i (row ∷ rows) rest each =
    let first : length (texts cell_text row (texts (texts cell_text) rows rest)) ≡ width (block s rank) * cell_size s + length (texts (texts cell_text) rows rest) =
    row_long s (slice_index marks i) 0 row (texts (texts cell_text) rows rest) each.0.each ∙ ap (λ k. k * cell_size s + length (texts (texts cell_text) rows rest)) each.0.size in
    omega (arith, first, rows_long s rank marks (i + 1) rows rest each.1)

pub part_long : (s : Sizes) (rank : ℕ) (marks part : List ℕ) → IsSumsPart s rank marks part → length part ≡ part_size s rank
unfolding cells_text
part_long s rank marks part is =
    let long = rows_long s rank marks 0 is.cells [] is.valid.each in
    let whole : length part ≡ planes s * (width (block s rank) * cell_size s) + 0 = ap length is.spelled ∙ long ∙ ap (λ k. k * (width (block s rank) * cell_size s) + 0) is.valid.size in
    whole ∙ (let even : planes s * (width (block s rank) * cell_size s) + 0 ≡ planes s * width (block s rank) * cell_size s = omega arith in even)
