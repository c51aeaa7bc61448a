-- The part of a checkpoint that has the sums of each cell: its spelling, its reader, and which sums are valid.
use Rattle.std.specs.Prelude.{◌≡◌, ℕ, ◌+◌, ◌-◌, ◌*◌, ◌≤◌, Bool, not, ◌&&◌, ◌||◌, cond, List, [], ◌∷◌, length, map, slice_index, Ok, nat_le, ◌==◌}
use Rattle.std.specs.Int.{w16, w32, w64, w128, abs_diff}
use Rattle.mls_model.specs.Numbers.{below, joined}
use Rattle.mls_model.specs.Studies.{Sizes, planes}
use Rattle.mls_model.specs.Blocks.{block, width}
use Rattle.mls_model.specs.CellSums.{CellSums, sums_of}
use Rattle.mls_model.specs.Standing.{Table}
use Rattle.mls_ckpt.specs.Reading.{Cursor, Read, ◌>>=◌, number_at, rule, many, text, texts, AllFrom}
use Rattle.mls_ckpt.specs.States.{after_one}

-- the sums of powers, the extrema, the numbers above the thresholds, and the sums of A, B and each C^k with their products
unfoldable pub powers_text : CellSums → List ℕ → List ℕ
powers_text sums rest = text w64 sums.p1 (text w64 sums.p2 (text w128 sums.p3 (text w128 sums.p4 rest)))

unfoldable pub extrema_text : CellSums → List ℕ → List ℕ
extrema_text sums rest = text w16 sums.least (text w16 sums.greatest rest)

unfoldable pub cell_text : CellSums → List ℕ → List ℕ
cell_text sums rest = powers_text sums (extrema_text sums (texts (text w32) sums.above (texts (text w64) sums.products rest)))

-- for each plane the cells of the block
unfoldable pub cells_text : List (List CellSums) → List ℕ → List ℕ
cells_text cells rest = texts (texts cell_text) cells rest

-- the sums of a table of rows, and the part that spells them
unfoldable pub cells_of : Sizes → ℕ → Table → List (List CellSums)
cells_of s rank table = map (λ plane. map (λ place. sums_of s.parameters s.thresholds (table plane place)) (below (width (block s rank)))) (below (planes s))

unfoldable pub sums_part : Sizes → ℕ → Table → List ℕ
sums_part s rank table = cells_text (cells_of s rank table) []

-- the sums of the powers of 2n samples
pub record Powers : Type 0 where
  pub p1 : ℕ
  pub p2 : ℕ
  pub p3 : ℕ
  pub p4 : ℕ

unfoldable pub powers_at : ℕ → Cursor → Read (Powers × Cursor)
powers_at n c = do
  p1 ← number_at w64 (65535 * (2 * n)) c
  p2 ← number_at w64 (65535 * p1.0) p1.1
  spread ← rule (nat_le (p1.0 * p1.0) (2 * n * p2.0)) p1.1.at
  p3 ← number_at w128 (65535 * p2.0) p2.1
  p4 ← number_at w128 (65535 * p3.0) p3.1
  Ok (record { p1 = p1.0; p2 = p2.0; p3 = p3.0; p4 = p4.0 }, p4.1)

-- the least and the greatest sample, and whether they are those of n groups
abbrev pub are_extrema : ℕ → ℕ → ℕ → Bool
are_extrema n least greatest = cond (n == 0) ((least == 65535) && (greatest == 0)) (nat_le least greatest)

unfoldable pub extrema_at : ℕ → Cursor → Read ((ℕ × ℕ) × Cursor)
extrema_at n c = do
  least ← number_at w16 65535 c
  greatest ← number_at w16 65535 least.1
  ordered ← rule (are_extrema n least.0 greatest.0) c.at
  Ok ((least.0, greatest.0), greatest.1)

-- a number above a threshold is at most the one before it
abbrev pub most_after : ℕ → ℕ → ℕ
most_after most number = number

unfoldable pub above_at : ℕ → ℕ → Cursor → Read (List ℕ × Cursor)
above_at n thresholds c = many (number_at w32) most_after thresholds (2 * n) c

-- the sums of A and B and of their squares
pub record Totals : Type 0 where
  pub a : ℕ
  pub b : ℕ
  pub aa : ℕ
  pub bb : ℕ

unfoldable pub totals_at : ℕ → Powers → Cursor → Read (Totals × Cursor)
totals_at n powers c = do
  a ← number_at w64 (65535 * n) c
  b ← number_at w64 (65535 * n) a.1
  firsts ← rule (powers.p1 == a.0 + b.0) c.at
  aa ← number_at w64 (65535 * a.0) b.1
  spread_a ← rule (nat_le (a.0 * a.0) (n * aa.0)) b.1.at
  bb ← number_at w64 (65535 * b.0) aa.1
  spread_b ← rule (nat_le (b.0 * b.0) (n * bb.0)) aa.1.at
  seconds ← rule (powers.p2 == aa.0 + bb.0) b.1.at
  Ok (record { a = a.0; b = b.0; aa = aa.0; bb = bb.0 }, bb.1)

-- n² times a variance, and n² times a covariance without its sign
abbrev pub spread_in : ℕ → ℕ → ℕ → ℕ
spread_in n x xx = n * xx - x * x

abbrev pub covariance_in : ℕ → ℕ → ℕ → ℕ → ℕ
covariance_in n x y xy = abs_diff (n * xy) (x * y)

-- whether xy can be the sum of n products of samples whose sums and sums of squares are x and xx, y and yy
abbrev pub are_products : ℕ → ℕ → ℕ → ℕ → ℕ → ℕ → Bool
are_products n x xx y yy xy = (not (n == 0) || (xy == 0)) && nat_le (covariance_in n x y xy * covariance_in n x y xy) (spread_in n x xx * spread_in n y yy)

-- the sums of C^k, of its squares, and of its products with A and with B
unfoldable pub column_at : ℕ → Totals → Cursor → Read (List ℕ × Cursor)
column_at n t c = do
  x ← number_at w64 (65535 * n) c
  xx ← number_at w64 (65535 * x.0) x.1
  spread ← rule (nat_le (x.0 * x.0) (n * xx.0)) x.1.at
  ax ← number_at w64 18446744073709551615 xx.1
  with_a ← rule (are_products n t.a t.aa x.0 xx.0 ax.0) xx.1.at
  bx ← number_at w64 18446744073709551615 ax.1
  with_b ← rule (are_products n t.b t.bb x.0 xx.0 bx.0) ax.1.at
  Ok (x.0 ∷ xx.0 ∷ ax.0 ∷ bx.0 ∷ [], bx.1)

unfoldable pub columns_at : ℕ → Totals → ℕ → Cursor → Read (List (List ℕ) × Cursor)
columns_at n t parameters c = many (λ i from. column_at n t from) after_one parameters 0 c

-- the sums of a cell of n accepted groups
unfoldable pub cell_at : Sizes → ℕ → Cursor → Read (CellSums × Cursor)
cell_at s n c = do
  powers ← powers_at n c
  extrema ← extrema_at n powers.1
  above ← above_at n (length s.thresholds) extrema.1
  totals ← totals_at n powers.0 above.1
  columns ← columns_at n totals.0 s.parameters totals.1
  Ok (
    record {
      rows = n;
      p1 = powers.0.p1;
      p2 = powers.0.p2;
      p3 = powers.0.p3;
      p4 = powers.0.p4;
      least = extrema.0.0;
      greatest = extrema.0.1;
      above = above.0;
      products = totals.0.a ∷ totals.0.b ∷ totals.0.aa ∷ totals.0.bb ∷ joined columns.0;
    },
    columns.1,
  )

-- the cells of a plane of n accepted groups, and those of all planes
unfoldable pub plane_at : Sizes → ℕ → ℕ → Cursor → Read (List CellSums × Cursor)
plane_at s rank n c = many (λ i from. cell_at s n from) after_one (width (block s rank)) 0 c

unfoldable pub cells_at : Sizes → ℕ → List ℕ → Cursor → Read (List (List CellSums) × Cursor)
cells_at s rank marks c = many (λ plane from. plane_at s rank (slice_index marks plane) from) after_one (planes s) 0 c

-- the place behind the part
unfoldable pub part_at : Sizes → ℕ → List ℕ → Cursor → Read Cursor
part_at s rank marks c = do
  cells ← cells_at s rank marks c
  Ok cells.1

-- which sums of a cell are valid for n accepted groups
pub record ArePowers (n p1 p2 p3 p4 : ℕ) : Type 0 where
  pub first : p1 ≤ 65535 * (2 * n)
  pub second : p2 ≤ 65535 * p1
  pub spread : p1 * p1 ≤ 2 * n * p2
  pub third : p3 ≤ 65535 * p2
  pub fourth : p4 ≤ 65535 * p3

pub record AreExtrema (n least greatest : ℕ) : Type 0 where
  pub least_fits : least ≤ 65535
  pub greatest_fits : greatest ≤ 65535
  pub none_least : n ≡ 0 → least ≡ 65535
  pub none_greatest : n ≡ 0 → greatest ≡ 0
  pub some : 1 ≤ n → least ≤ greatest

pub record AreTotals (n p1 p2 : ℕ) (t : Totals) : Type 0 where
  pub a : t.a ≤ 65535 * n
  pub b : t.b ≤ 65535 * n
  pub firsts : p1 ≡ t.a + t.b
  pub aa : t.aa ≤ 65535 * t.a
  pub spread_a : t.a * t.a ≤ n * t.aa
  pub bb : t.bb ≤ 65535 * t.b
  pub spread_b : t.b * t.b ≤ n * t.bb
  pub seconds : p2 ≡ t.aa + t.bb

pub record AreProducts (n x xx y yy xy : ℕ) : Type 0 where
  pub fits : xy ≤ 18446744073709551615
  pub none : n ≡ 0 → xy ≡ 0
  pub within : covariance_in n x y xy * covariance_in n x y xy ≤ spread_in n x xx * spread_in n y yy

pub record IsColumn (n : ℕ) (t : Totals) (column : List ℕ) : Type 0 where
  pub x : ℕ
  pub xx : ℕ
  pub ax : ℕ
  pub bx : ℕ
  pub is : column ≡ x ∷ xx ∷ ax ∷ bx ∷ []
  pub first : x ≤ 65535 * n
  pub second : xx ≤ 65535 * x
  pub spread : x * x ≤ n * xx
  pub with_a : AreProducts n t.a t.aa x xx ax
  pub with_b : AreProducts n t.b t.bb x xx bx

pub record IsCell (s : Sizes) (n : ℕ) (sums : CellSums) : Type 0 where
  pub rows : sums.rows ≡ n
  pub powers : ArePowers n sums.p1 sums.p2 sums.p3 sums.p4
  pub extrema : AreExtrema n sums.least sums.greatest
  pub thresholds : length sums.above ≡ length s.thresholds
  pub above : AllFrom (λ most number. number ≤ most) most_after (2 * n) sums.above
  pub totals : Totals
  pub columns : List (List ℕ)
  pub products : sums.products ≡ totals.a ∷ totals.b ∷ totals.aa ∷ totals.bb ∷ joined columns
  pub first : AreTotals n sums.p1 sums.p2 totals
  pub parameters : length columns ≡ s.parameters
  pub each : AllFrom (λ i column. IsColumn n totals column) after_one 0 columns

-- the cells of a block, each of n accepted groups, and the cells of all planes
pub record IsPlane (s : Sizes) (rank n : ℕ) (cells : List CellSums) : Type 0 where
  pub size : length cells ≡ width (block s rank)
  pub each : AllFrom (λ i sums. IsCell s n sums) after_one 0 cells

pub record AreCells (s : Sizes) (rank : ℕ) (marks : List ℕ) (cells : List (List CellSums)) : Type 0 where
  pub size : length cells ≡ planes s
  pub each : AllFrom (λ plane row. IsPlane s rank (slice_index marks plane) row) after_one 0 cells

-- bytes that spell valid sums, for so many marks of each plane
pub record IsSumsPart (s : Sizes) (rank : ℕ) (marks bytes : List ℕ) : Type 0 where
  pub cells : List (List CellSums)
  pub valid : AreCells s rank marks cells
  pub spelled : bytes ≡ cells_text cells []
