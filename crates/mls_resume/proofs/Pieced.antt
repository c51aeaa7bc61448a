-- The sums that were cut anew are valid sums of the new rank's cells.
use Rattle.std.proofs.Common.{◌≡◌, ℕ, zero, suc, ◌+◌, ◌-◌, ◌*◌, ◌<◌, ◌≤◌, true, List, [], ◌∷◌, ◌++◌, length, take, drop, get_or, Option, Some, refl, sym, ap, ◌∙◌, arith, subst, length-append}
use Rattle.std.specs.Prelude.{slice_index, nat_le, nat_lt}
use Rattle.std.proofs.lemmas.Bool.{and_parts, and_from}
use Rattle.std.proofs.lemmas.Bool.Decides.{nat_tests}
use Rattle.std.proofs.lemmas.List.{drop_at, drop-drop, take-append-le, take_all}
use Rattle.mls_model.specs.CellSums.{CellSums}
use Rattle.mls_model.specs.Studies.{Sizes, AreSizes, planes}
use Rattle.mls_model.specs.Blocks.{block, width, rank_of}
use Rattle.mls_ckpt.specs.Reading.{texts, AllFrom}
use Rattle.mls_ckpt.specs.States.{after_one}
use Rattle.mls_ckpt.specs.CellParts.{cell_text, cells_text, IsCell, IsPlane, IsSumsPart}
use Rattle.mls_ckpt.proofs.CellLaws.{cells_text-front}
use Rattle.mls_ckpt.proofs.Steps.{texts-append}
use Rattle.mls_base.specs.Shapes.{with_ranks}
use Rattle.mls_base.specs.Partitions.{BlocksPartition, RankHolds}
use Rattle.mls_resume.specs.Recut.{cell_size, pieces_below, place_bytes, bytes_in, cell_bytes, recut_plane, recut_part}
use Rattle.mls_resume.proofs.Lengths.{cell_long, row_long}

cell_front : (cell : CellSums) (rest : List ℕ) → cell_text cell rest ≡ cell_text cell [] ++ rest
unfolding cells_text
cell_front cell rest = cells_text-front ((cell ∷ []) ∷ []) rest

row_front : (row : List CellSums) (rest : List ℕ) → texts cell_text row rest ≡ texts cell_text row [] ++ rest
unfolding cells_text
row_front row rest = cells_text-front (row ∷ []) rest

rows_front : (rows : List (List CellSums)) (rest : List ℕ) → texts (texts cell_text) rows rest ≡ texts (texts cell_text) rows [] ++ rest
unfolding cells_text
rows_front rows rest = cells_text-front rows rest

-- what stands behind a front of so many bytes, and behind more
behind : (front rest : List ℕ) (size more : ℕ) → length front ≡ size → drop (size + more) (front ++ rest) ≡ drop more rest
behind front rest size more long = sym (drop-drop more size (front ++ rest)) ∙ ap (drop more) (drop_at front rest size long)

-- the front itself
front_of : (front rest : List ℕ) (size : ℕ) → length front ≡ size → take size (front ++ rest) ≡ front
front_of front rest size long = take-append-le size front rest (omega (arith, long)) ∙ take_all size front (omega (arith, long))

-- the bytes of a place in a row of cells
place_at : (s : Sizes) (n k : ℕ) (row : List CellSums) (rest : List ℕ) (place : ℕ) (d : CellSums) → AllFrom (λ i sums. IsCell s n sums) after_one k row → place < length row
    → take (cell_size s) (drop (place * cell_size s) (texts cell_text row rest)) ≡ cell_text (get_or row place d) []
place_at s n k [] rest place d each within = absurd (omega arith)
place_at s n k (cell ∷ row) rest zero d each within =
    let after = texts cell_text row rest in
    ap (λ m. take (cell_size s) (drop m (cell_text cell after))) (let e : 0 * cell_size s ≡ 0 = omega arith in e) ∙ ap (take (cell_size s)) (cell_front cell after) ∙ front_of (cell_text cell []) after (cell_size s) (cell_long s n cell [] each.0 ∙ omega arith)
place_at s n k (cell ∷ row) rest (suc place) d each within =
    let after = texts cell_text row rest in
    let further : suc place * cell_size s ≡ cell_size s + place * cell_size s = omega arith in
    ap (take (cell_size s)) (ap (λ m. drop m (cell_text cell after)) further ∙ ap (drop (cell_size s + place * cell_size s)) (cell_front cell after)
    ∙ behind (cell_text cell []) after (cell_size s) (place * cell_size s) (cell_long s n cell [] each.0 ∙ omega arith))
    ∙ place_at s n (k + 1) row rest place d each.1 (omega arith)

-- a cell of a row is valid
cell_in : (s : Sizes) (n k : ℕ) (row : List CellSums) (place : ℕ) (d : CellSums) → AllFrom (λ i sums. IsCell s n sums) after_one k row → place < length row → IsCell s n (get_or row place d)
cell_in s n k [] place d each within = absurd (omega arith)
cell_in s n k (cell ∷ row) zero d each within = each.0
cell_in s n k (cell ∷ row) (suc place) d each within = cell_in s n (k + 1) row place d each.1 (omega arith)

-- a cell whose bytes these are
pub record HasCell (s : Sizes) (n : ℕ) (bytes : List ℕ) : Type 0 where
  pub cell : CellSums
  pub valid : IsCell s n cell
  pub spelled : bytes ≡ cell_text cell []

-- the cell of a plane and a place in the rows of all planes
rows_at : (s : Sizes) (rank : ℕ) (marks : List ℕ) (k : ℕ) (rows : List (List CellSums)) (rest : List ℕ) (plane place : ℕ) → AllFrom (λ i row. IsPlane s rank (slice_index marks i) row) after_one k rows
    → plane < length rows → place < width (block s rank)
    → HasCell s (slice_index marks (k + plane)) (take (cell_size s) (drop ((plane * width (block s rank) + place) * cell_size s) (texts (texts cell_text) rows rest)))
rows_at s rank marks k [] rest plane place each plane_in place_in = absurd (omega arith)
rows_at s rank marks k (row ∷ rows) rest zero place each plane_in place_in =
    let after = texts (texts cell_text) rows rest in
    let d : CellSums = record { rows = 0; p1 = 0; p2 = 0; p3 = 0; p4 = 0; least = 0; greatest = 0; above = []; products = [] } in
    let within : place < length row = omega (arith, each.0.size, place_in) in
    let here : (0 * width (block s rank) + place) * cell_size s ≡ place * cell_size s = omega arith in
    let first : slice_index marks k ≡ slice_index marks (k + 0) = ap (slice_index marks) (let e : k ≡ k + 0 = omega arith in e) in
    record {
      cell = get_or row place d;
      valid = subst (λ n. IsCell s n (get_or row place d)) first (cell_in s (slice_index marks k) 0 row place d each.0.each within);
      spelled = ap (λ m. take (cell_size s) (drop m (texts cell_text row after))) here ∙ place_at s (slice_index marks k) 0 row after place d each.0.each within;
    }
rows_at s rank marks k (row ∷ rows) rest (suc plane) place each plane_in place_in =
    let after = texts (texts cell_text) rows rest in
    let w = width (block s rank) in
    let size = cell_size s in
    let more = rows_at s rank marks (k + 1) rows rest plane place each.1 (omega (arith, plane_in)) place_in in
    let further : (suc plane * w + place) * size ≡ w * size + (plane * w + place) * size = omega arith in
    let long : length (texts cell_text row []) ≡ w * size = row_long s (slice_index marks k) 0 row [] each.0.each ∙ ap (λ m. m * size + 0) each.0.size ∙ omega arith in
    let next : slice_index marks (k + 1 + plane) ≡ slice_index marks (k + suc plane) = ap (slice_index marks) (let e : k + 1 + plane ≡ k + suc plane = omega arith in e) in
    record {
      cell = more.cell;
      valid = subst (λ n. IsCell s n more.cell) next more.valid;
      spelled = ap (take size) (ap (λ m. drop m (texts cell_text row after)) further ∙ ap (drop (w * size + (plane * w + place) * size)) (row_front row after)
          ∙ behind (texts cell_text row []) after (w * size) ((plane * w + place) * size) long) ∙ more.spelled;
    }

pub place_cell : (s : Sizes) (rank : ℕ) (marks part : List ℕ) (plane place : ℕ) → IsSumsPart s rank marks part → plane < planes s → place < width (block s rank)
    → HasCell s (slice_index marks plane) (place_bytes s rank part plane place)
unfolding cells_text
place_cell s rank marks part plane place valid plane_in place_in =
    let found = rows_at s rank marks 0 valid.cells [] plane place valid.valid.each (omega (arith, valid.valid.size, plane_in)) place_in in
    let same : slice_index marks (0 + plane) ≡ slice_index marks plane = ap (slice_index marks) (let e : 0 + plane ≡ plane = omega arith in e) in
    record {
      cell = found.cell;
      valid = subst (λ n. IsCell s n found.cell) same found.valid;
      spelled = ap (λ l. take (cell_size s) (drop ((plane * width (block s rank) + place) * cell_size s) l)) valid.spelled ∙ found.spelled;
    }

-- pieces that are each the text of something, one after the other
pub record AreTexts {A : Type 0} (text : A → List ℕ → List ℕ) (Is : ℕ → A → Type 0) (piece : ℕ → List ℕ) (n : ℕ) : Type 0 where
  pub all : List A
  pub size : length all ≡ n
  pub each : AllFrom Is after_one 0 all
  pub spelled : pieces_below piece n ≡ texts text all []

all_more : {A : Type 0} (Is : ℕ → A → Type 0) (k : ℕ) (xs : List A) (a : A) → AllFrom Is after_one k xs → Is (k + length xs) a → AllFrom Is after_one k (xs ++ a ∷ [])
all_more Is k [] a each last = (subst (λ m. Is m a) (let e : k + 0 ≡ k = omega arith in e) last, tt)
all_more Is k (x ∷ xs) a each last = (each.0, all_more Is (k + 1) xs a each.1 (subst (λ m. Is m a) (let e : k + suc (length xs) ≡ k + 1 + length xs = omega arith in e) last))

pub text_pieces : {A : Type 0} (text : A → List ℕ → List ℕ) (Is : ℕ → A → Type 0) (piece : ℕ → List ℕ) → ((xs : List A) (rest : List ℕ) → texts text xs rest ≡ texts text xs [] ++ rest)
    → (n : ℕ) → ((i : ℕ) → i < n → (a : A) × (Is i a × (piece i ≡ text a []))) → AreTexts text Is piece n
text_pieces text Is piece front zero each = record { all = []; size = refl; each = tt; spelled = refl }
text_pieces {A} text Is piece front (suc n) each =
    let so = text_pieces text Is piece front n (λ i less. each i (omega (arith, less))) in
    let last = each n (omega arith) in
    let a = last.0 in
    record {
      all = so.all ++ a ∷ [];
      size = omega (arith, length-append so.all (a ∷ []), so.size);
      each = all_more Is 0 so.all a so.each (subst (λ m. Is m a) (let e : n ≡ 0 + length so.all = omega (arith, so.size) in e) last.1.0);
      spelled = ap (λ l. l ++ piece n) so.spelled ∙ ap (λ l. texts text so.all [] ++ l) last.1.1 ∙ sym (texts-append text so.all (a ∷ []) [] ∙ front so.all (text a []));
    }

-- which rank's block has a cell
pub record IsRankOf (old : Sizes) (x rank : ℕ) : Type 0 where
  pub is : rank_of old x ≡ Some rank
  pub within : rank < old.ranks
  pub first : (block old rank).first ≤ x
  pub end : x < (block old rank).end

pub rank_there : (old : Sizes) → AreSizes old → BlocksPartition → RankHolds → (x : ℕ) → x < old.cells → (rank : ℕ) × IsRankOf old x rank
rank_there old sizes blocks holds x here =
    let one = (blocks old sizes).once x here in
    let is : rank_of old x ≡ Some one.one = (holds old sizes x one.one).1 (one.within, one.holds) in
    let parts = and_parts (nat_le (block old one.one).first x) (nat_lt x (block old one.one).end) one.holds in
    (one.one, record { is = is; within = one.within; first = grind (arith, nat_tests, parts.0); end = grind (arith, nat_tests, parts.1) })

-- a cell of a new rank's block is one of the mesh
pub cell_there : (s : Sizes) → AreSizes s → BlocksPartition → (rank place : ℕ) → rank < s.ranks → place < width (block s rank) → (block s rank).first + place < s.cells
cell_there s sizes blocks rank place rank_in place_in =
    let x = (block s rank).first + place in
    let low : nat_le (block s rank).first x ≡ true = grind (arith, nat_tests) in
    let high : nat_lt x (block s rank).end ≡ true = let less : x < (block s rank).end = omega (arith, place_in) in grind (arith, nat_tests, less) in
    (blocks s sizes).inside rank rank_in x (and_from (nat_le (block s rank).first x) (nat_lt x (block s rank).end) low high)

-- The parts of all old ranks are valid for so many marks of each plane.
pub record AreParts (old : Sizes) (marks : List ℕ) (parts : List (List ℕ)) : Type 0 where
  pub each : (rank : ℕ) → rank < old.ranks → IsSumsPart old rank marks (get_or parts rank [])

pub cell_cut : (old : Sizes) (marks : List ℕ) (parts : List (List ℕ)) (plane x : ℕ) → AreSizes old → BlocksPartition → RankHolds → AreParts old marks parts → plane < planes old → x < old.cells
    → HasCell old (slice_index marks plane) (cell_bytes old parts plane x)
cell_cut old marks parts plane x sizes blocks holds valid plane_in here =
    let found = rank_there old sizes blocks holds x here in
    let rank = found.0 in
    let place = x - (block old rank).first in
    let cell = place_cell old rank marks (get_or parts rank []) plane place (valid.each rank found.1.within) plane_in (omega (arith, found.1.first, found.1.end)) in
    record {
      cell = cell.cell;
      valid = cell.valid;
      spelled = ap (λ (r : Option ℕ). bytes_in old parts plane x r) found.1.is ∙ cell.spelled;
    }

-- the same numbers are valid for another number of ranks
cell_moved : (old : Sizes) (ranks n : ℕ) (cell : CellSums) → IsCell old n cell → IsCell (with_ranks old ranks) n cell
cell_moved old ranks n cell is = record {
  rows = is.rows;
  powers = is.powers;
  extrema = is.extrema;
  thresholds = is.thresholds;
  above = is.above;
  totals = is.totals;
  columns = is.columns;
  products = is.products;
  first = is.first;
  parameters = is.parameters;
  each = is.each;
}

plane_cut : (old : Sizes) (ranks : ℕ) (marks : List ℕ) (parts : List (List ℕ)) (rank plane : ℕ) → AreSizes old → AreSizes (with_ranks old ranks) → BlocksPartition → RankHolds → AreParts old marks parts → rank < ranks → plane < planes old
    → (row : List CellSums) × (IsPlane (with_ranks old ranks) rank (slice_index marks plane) row × (recut_plane (with_ranks old ranks) old parts rank plane ≡ texts cell_text row []))
unfolding recut_plane
plane_cut old ranks marks parts rank plane sizes new_sizes blocks holds valid rank_in plane_in =
    let s = with_ranks old ranks in
    let piece : ℕ → List ℕ = λ place. cell_bytes old parts plane ((block s rank).first + place) in
    let made = text_pieces cell_text (λ i sums. IsCell s (slice_index marks plane) sums) piece row_front (width (block s rank)) (λ place place_in.
    let has = cell_cut old marks parts plane ((block s rank).first + place) sizes blocks holds valid plane_in (cell_there s new_sizes blocks rank place rank_in place_in) in
    (has.cell, (cell_moved old ranks (slice_index marks plane) has.cell has.valid, has.spelled))) in
    (made.all, (record { size = made.size; each = made.each }, made.spelled))

-- the sums that are cut anew are a valid part
pub part_cut : (old : Sizes) (ranks : ℕ) (marks : List ℕ) (parts : List (List ℕ)) (rank : ℕ) → AreSizes old → AreSizes (with_ranks old ranks) → BlocksPartition → RankHolds → AreParts old marks parts → rank < ranks
    → IsSumsPart (with_ranks old ranks) rank marks (recut_part (with_ranks old ranks) old parts rank)
unfolding recut_part cells_text
part_cut old ranks marks parts rank sizes new_sizes blocks holds valid rank_in =
    let s = with_ranks old ranks in
    let made = text_pieces (texts cell_text) (λ plane row. IsPlane s rank (slice_index marks plane) row) (recut_plane s old parts rank) rows_front (planes s)
    (λ plane plane_in. plane_cut old ranks marks parts rank plane sizes new_sizes blocks holds valid rank_in plane_in) in
    record { cells = made.all; valid = record { size = made.size; each = made.each }; spelled = made.spelled }
