-- The part of a checkpoint that spells the counts of a rank's block.
use Rattle.std.proofs.Common.{◌≡◌, ℕ, zero, suc, ◌<◌, ◌≤◌, List, [], ◌∷◌, ◌++◌, length, map, get_or, inl, inr, append-nil, ap, ◌∙◌, refl, sym, subst, arith}
use Rattle.std.proofs.lemmas.Bool.{cases_lt}
use Rattle.std.proofs.lemmas.List.{map-append, length-map, get_or_at, get_or_append_left}
use Rattle.mls_model.specs.Numbers.{below}
use Rattle.mls_model.specs.Studies.{Sizes, planes}
use Rattle.mls_model.specs.Blocks.{block, width}
use Rattle.mls_model.specs.CellSums.{both}
use Rattle.mls_model.specs.Standing.{Table}
use Rattle.mls_ckpt.specs.Laws.{IsReadPart}
use Rattle.mls_ckpt.specs.Reading.{text, texts}
use Rattle.std.specs.Int.{w32}
use Rattle.mls_field.specs.PlaneCounts.{by_plane}
use Rattle.mls_field.specs.PutBytes.{Grown}
use Rattle.mls_field.proofs.OneRow.{get_or-beyond}
use Rattle.mls_field.proofs.Rows.{length-below, entry_of}
use Rattle.mls_field.proofs.CellRules.{all_below, same_maps}
use Rattle.mls_hist.specs.Bins.{bins_of}
use Rattle.mls_hist.specs.HistPart.{mark, IsCounts, IsPlane, AreCells, IsHistPart, part_at, counts_text, hist_text, hist_part, counts_of}
use Rattle.mls_hist.specs.declared.hist.Hist.{Hist}
use Rattle.mls_hist.specs.Stands.{row_count, StandsFor, bin_count, bin_counts}
use Rattle.mls_hist.specs.Spelled.{cells_of_plane, cells_of_hist, part_of_hist}
use Rattle.mls_hist.proofs.Counting.{bins_are, counts_opened}
use Rattle.mls_hist.proofs.PartLaws.{cells_same, hist_read_again}

-- a place of the block is one of the cells
pub here : (h : Hist) (place : ℕ) → place < width (block h.shape h.rank) → place < h.places
here h place inside = omega (arith, inside, h.kept.block_width)

-- ---- the counts of a cell are those of its rows
pub counts_long : (h : Hist) (plane place : ℕ) → length (bin_counts h plane place) ≡ 64
counts_long h plane place =
    ap length (counts_opened h.places h.waiting.items h.bins.items h.samples.items plane place) ∙ (length-map (below 64) (bin_count h plane place) ∙ length-below 64)

pub counts_of_rows : (h : Hist) (t : Table) (plane place : ℕ) → StandsFor h t → plane < planes h.shape → place < h.places → bin_counts h plane place ≡ bins_of (both (t plane place))
counts_of_rows h t plane place stands p_in inside =
    counts_opened h.places h.waiting.items h.bins.items h.samples.items plane place ∙ bins_are (bin_count h plane place) (both (t plane place)) (λ bin low. stands.each plane place bin p_in inside low)

-- ---- the part is read again
abbrev rows_of : Hist → List ℕ
rows_of h = by_plane h.shape (row_count h)

rows_at : (h : Hist) (plane : ℕ) → plane < planes h.shape → get_or (rows_of h) plane 0 ≡ row_count h plane
rows_at h plane p_in = entry_of (row_count h) (planes h.shape) plane p_in

rows_few : (h : Hist) (plane : ℕ) → get_or (rows_of h) plane 0 ≤ 65535
rows_few h plane = elim (cases_lt plane (planes h.shape)) [
  | inl low ↦ omega (arith, rows_at h plane low, h.kept.few plane)
  | inr high ↦ omega (arith, get_or-beyond (rows_of h) plane (omega (arith, high, length-map (below (planes h.shape)) (row_count h), length-below (planes h.shape))))
]

cell_valid : (h : Hist) (plane place : ℕ) → plane < planes h.shape → place < h.places → IsCounts (row_count h plane) (bin_counts h plane place)
cell_valid h plane place p_in inside = record { size = counts_long h plane place; whole = h.kept.whole plane place p_in inside }

plane_valid : (h : Hist) (plane : ℕ) → plane < planes h.shape → IsPlane h.shape h.rank (get_or (rows_of h) plane 0) (cells_of_plane h plane)
unfolding cells_of_plane
plane_valid h plane p_in =
    let places = width (block h.shape h.rank) in
    subst (λ (n : ℕ). IsPlane h.shape h.rank n (cells_of_plane h plane)) (sym (rows_at h plane p_in))
    (record {
      size = length-map (below places) (bin_counts h plane) ∙ length-below places;
      each = all_below (λ i counts. IsCounts (row_count h plane) counts) (bin_counts h plane) places (λ place inside. cell_valid h plane place p_in (here h place inside));
    })

cells_valid : (h : Hist) → AreCells h.shape h.rank (rows_of h) (cells_of_hist h)
unfolding cells_of_hist
cells_valid h = record {
  size = length-map (below (planes h.shape)) (cells_of_plane h) ∙ length-below (planes h.shape);
  each = all_below (λ plane row. IsPlane h.shape h.rank (get_or (rows_of h) plane 0) row) (cells_of_plane h) (planes h.shape) (plane_valid h);
}

part_valid : (h : Hist) → IsHistPart h.shape h.rank (rows_of h) (part_of_hist h)
unfolding part_of_hist
part_valid h = record { cells = cells_of_hist h; valid = cells_valid h; spelled = refl }

pub part_again : (h : Hist) → IsReadPart part_at h.shape h.rank (rows_of h) (part_of_hist h)
part_again h = hist_read_again h.shape h.rank (rows_of h) (part_of_hist h) (rows_few h) (part_valid h)

-- ---- the part is that of the rows
plane_spelled : (h : Hist) (t : Table) → StandsFor h t → (plane : ℕ) → plane < planes h.shape → cells_of_plane h plane ≡ map (λ place. bins_of (both (t plane place))) (below (width (block h.shape h.rank)))
unfolding cells_of_plane
plane_spelled h t stands plane p_in = same_maps (bin_counts h plane) (λ place. bins_of (both (t plane place))) (width (block h.shape h.rank)) (λ place inside. counts_of_rows h t plane place stands p_in (here h place inside))

pub part_spelled : (h : Hist) (t : Table) → StandsFor h t → part_of_hist h ≡ hist_part h.shape h.rank t
unfolding part_of_hist cells_of_hist hist_part counts_of
part_spelled h t stands = ap (λ (cells : List (List (List ℕ))). hist_text cells []) (same_maps (cells_of_plane h) (λ plane. map (λ place. bins_of (both (t plane place))) (below (width (block h.shape h.rank)))) (planes h.shape) (plane_spelled h t stands))

-- ---- histograms with one part stand for the same rows
pub record Matched (f g : Hist) : Type 0 where
  pub shapes : f.shape ≡ g.shape
  pub ranks : f.rank ≡ g.rank
  pub counts : (plane : ℕ) → plane < planes f.shape → row_count f plane ≡ row_count g plane

places_same : (f g : Hist) → Matched f g → f.places ≡ g.places
places_same f g m = f.kept.block_width ∙ (ap (λ (s : Sizes). width (block s f.rank)) m.shapes ∙ (ap (λ (r : ℕ). width (block g.shape r)) m.ranks ∙ sym g.kept.block_width))

cells_of_other : (f g : Hist) → Matched f g → AreCells f.shape f.rank (rows_of f) (cells_of_hist g)
cells_of_other f g m =
    let counts : rows_of f ≡ rows_of g = same_maps (row_count f) (row_count g) (planes f.shape) m.counts ∙ ap (λ (s : Sizes). by_plane s (row_count g)) m.shapes in
    subst (λ (s : Sizes). AreCells s f.rank (rows_of f) (cells_of_hist g)) (sym m.shapes)
    (subst (λ (rank : ℕ). AreCells g.shape rank (rows_of f) (cells_of_hist g)) (sym m.ranks) (subst (λ (counts : List ℕ). AreCells g.shape g.rank counts (cells_of_hist g)) (sym counts) (cells_valid g)))

cells_agree : (f g : Hist) → Matched f g → part_of_hist f ≡ part_of_hist g → cells_of_hist f ≡ cells_of_hist g
unfolding part_of_hist
cells_agree f g m e = cells_same f.shape f.rank (rows_of f) (cells_of_hist f) (cells_of_hist g) (rows_few f) (cells_valid f) (cells_of_other f g m) e

entry_in : {A : Type 0} (f : ℕ → A) (n i : ℕ) (d : A) → i < n → get_or (map f (below n)) i d ≡ f i
entry_in f zero i d h = absurd (omega (arith, h))
entry_in f (suc n) i d h =
    let size : length (map f (below n)) ≡ n = length-map (below n) f ∙ length-below n in
    ap (λ xs. get_or xs i d) (map-append f (below n) (n ∷ [])) ∙
    elim (cases_lt i n) [
      | inl low ↦ get_or_append_left (map f (below n)) (f n ∷ []) d i (omega (arith, size, low)) ∙ entry_in f n i d low
      | inr high ↦ (let e : n ≡ i = omega (arith, h, high) in get_or_at (map f (below n)) (f n) [] d i (omega (arith, size, e)) ∙ ap f e)
    ]

entry_same : {A : Type 0} (f g : ℕ → A) (n m i : ℕ) → n ≡ m → map f (below n) ≡ map g (below m) → i < n → f i ≡ g i
entry_same f g n m i size e h = sym (entry_in f n i (f i) h) ∙ (ap (λ xs. get_or xs i (f i)) e ∙ entry_in g m i (f i) (omega (arith, size, h)))

planes_opened : (f g : Hist) → cells_of_hist f ≡ cells_of_hist g → map (cells_of_plane f) (below (planes f.shape)) ≡ map (cells_of_plane g) (below (planes g.shape))
unfolding cells_of_hist
planes_opened f g e = e

plane_opened : (f g : Hist) (plane : ℕ) → cells_of_plane f plane ≡ cells_of_plane g plane → map (bin_counts f plane) (below (width (block f.shape f.rank))) ≡ map (bin_counts g plane) (below (width (block g.shape g.rank)))
unfolding cells_of_plane
plane_opened f g plane e = e

plane_agrees : (f g : Hist) → Matched f g → part_of_hist f ≡ part_of_hist g → (plane : ℕ) → plane < planes f.shape → cells_of_plane f plane ≡ cells_of_plane g plane
plane_agrees f g m e plane p_in = entry_same (cells_of_plane f) (cells_of_plane g) (planes f.shape) (planes g.shape) plane (ap (λ (s : Sizes). planes s) m.shapes) (planes_opened f g (cells_agree f g m e)) p_in

cell_agrees : (f g : Hist) → Matched f g → part_of_hist f ≡ part_of_hist g → (plane place : ℕ) → plane < planes f.shape → place < f.places → bin_counts f plane place ≡ bin_counts g plane place
cell_agrees f g m e plane place p_in place_in =
    let wide : width (block f.shape f.rank) ≡ width (block g.shape g.rank) = sym f.kept.block_width ∙ (places_same f g m ∙ g.kept.block_width) in
    entry_same (bin_counts f plane) (bin_counts g plane) (width (block f.shape f.rank)) (width (block g.shape g.rank)) place wide (plane_opened f g plane (plane_agrees f g m e plane p_in)) (omega (arith, place_in, f.kept.block_width))

pub stand_alike : (f g : Hist) (t : Table) → Matched f g → part_of_hist f ≡ part_of_hist g → StandsFor f t → StandsFor g t
stand_alike f g t m e stands =
    let count = ap (λ (s : Sizes). planes s) m.shapes in
    let wide = places_same f g m in
    record {
      counted = λ plane place p_in in_g. stands.counted plane place (omega (arith, p_in, count)) (omega (arith, in_g, wide)) ∙ m.counts plane (omega (arith, p_in, count));
      each = λ plane place bin p_in in_g low.
          let in_f : plane < planes f.shape = omega (arith, p_in, count) in
          let at_f : place < f.places = omega (arith, in_g, wide) in
          let same = cell_agrees f g m e plane place in_f at_f in
          let opened = sym (counts_opened g.places g.waiting.items g.bins.items g.samples.items plane place) ∙ (sym same ∙ counts_opened f.places f.waiting.items f.bins.items f.samples.items plane place) in
          entry_same (bin_count g plane place) (bin_count f plane place) 64 64 bin refl opened low ∙ stands.each plane place bin in_f at_f low;
    }

-- ---- bytes that grew by the counts of a plane, and of a block
pub plane_grown : (h : Hist) (plane n : ℕ) (old new : List ℕ) → n ≡ width (block h.shape h.rank) → Grown old new (texts counts_text (map (bin_counts h plane) (below n))) → Grown old new (texts counts_text (cells_of_plane h plane))
unfolding cells_of_plane
plane_grown h plane n old new e grown = subst (λ (m : ℕ). Grown old new (texts counts_text (map (bin_counts h plane) (below m)))) e grown

pub planes_grown : (h : Hist) (n : ℕ) (old new : List ℕ) → n ≡ planes h.shape → Grown old new (texts (texts counts_text) (map (cells_of_plane h) (below n))) → Grown old new (texts (texts counts_text) (cells_of_hist h))
unfolding cells_of_hist
planes_grown h n old new e grown = subst (λ (m : ℕ). Grown old new (texts (texts counts_text) (map (cells_of_plane h) (below m)))) e grown

pub hist_grown : (h : Hist) (old mid new : List ℕ) → Grown old mid (text w32 mark) → Grown mid new (texts (texts counts_text) (cells_of_hist h)) → new ≡ old ++ part_of_hist h
unfolding part_of_hist hist_text
hist_grown h old mid new first rest = sym (append-nil new) ∙ (rest [] ∙ first (texts (texts counts_text) (cells_of_hist h) []))
