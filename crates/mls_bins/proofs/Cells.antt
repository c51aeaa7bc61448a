-- What is said of a cell: from what was read of its rank's core, and from the rows that this stands for.
use Rattle.std.proofs.Common.{◌≡◌, List, ℕ, zero, suc, [], ◌∷◌, ◌++◌, ◌+◌, ◌-◌, ◌*◌, ◌<◌, ◌≤◌, ◌==◌, Bool, true, cond, length, get_or, Option, Some, None, refl, sym, ◌∙◌, ap, subst, arith}
use Rattle.std.specs.Prelude.{codes, nat_lt}
use Rattle.std.proofs.lemmas.Bool.Decides.{nat_tests}
use Rattle.std.proofs.lemmas.Nat.{mul-le}
use Rattle.mls_model.specs.declared.blocks.Span.{Span}
use Rattle.mls_model.specs.Numbers.{element, joined}
use Rattle.mls_model.specs.Studies.{Sizes, Study, planes, plane_of}
use Rattle.mls_model.specs.Blocks.{block, width, rank_of}
use Rattle.mls_model.specs.Frames.{Piece}
use Rattle.mls_model.specs.Histories.{LaneEvent}
use Rattle.mls_model.specs.AcceptedRows.{shifted_rows}
use Rattle.mls_model.specs.Standing.{rank_table}
use Rattle.mls_model.specs.ResultText.{pieces_of, step_line}
use Rattle.mls_base.proofs.Spans.{holder, holder_found, holder_holds, holder_within, bounds}
use Rattle.mls_field.specs.declared.fold.RowFold.{Ghosts}
use Rattle.mls_hist.specs.declared.hist.Hist.{Hist}
use Rattle.mls_hist.specs.Quartiles.{bracket_in}
use Rattle.mls_hist.specs.Stands.{shape_of, rank_of as hist_rank, row_count, bin_counts, StandsFor}
use Rattle.mls_hist.specs.Tables.{IsCounted, TablesAreCounted}
use Rattle.mls_hist.specs.BinsText.{bins_line, bracket_words, quartiles_line, cell_bins, rows_bins, history_shifted}
use Rattle.mls_rank.specs.declared.rank_core.RankCore.{RankCore}
use Rattle.mls_rank.specs.Cores.{sizes_of, rank_of as core_rank, fold_of}
use Rattle.mls_result.specs.Histories.{AreCores}
use Rattle.mls_bins.specs.Folding.{hist_said, core_said, kept_said}

-- a step line and the lines of the counts at a plane and a place are what the core says of the cell
pub said_of_core : {T : Ghosts Hist} (study : Study) (core : RankCore Hist T) (hist : Hist) (own : Span) (signed : Bool) (plane step field cell groups : ℕ) (counts : List ℕ) → own ≡ block (sizes_of core) (core_rank core) → plane ≡ plane_of study.sizes step field → hist ≡ fold_of core → signed ≡ study.sizes.signed → groups ≡ row_count hist plane → counts ≡ bin_counts hist plane (cell - own.first) → step_line study step field cell groups ++ (bins_line groups counts ++ quartiles_line signed groups (bracket_in counts)) ≡ core_said study core step field cell
unfolding cell_bins
said_of_core study core hist own signed plane step field cell groups counts is_block is_plane is_fold is_signed is_groups is_counts =
    let n : groups ≡ row_count (fold_of core) (plane_of study.sizes step field) = is_groups ∙ (λ i. row_count (is_fold i) (is_plane i)) in
    let k : counts ≡ bin_counts (fold_of core) (plane_of study.sizes step field) (cell - (block (sizes_of core) (core_rank core)).first) = is_counts ∙ (λ i. bin_counts (is_fold i) (is_plane i) (cell - (is_block i).first)) in
    λ i. step_line study step field cell (n i) ++ (bins_line (n i) (k i) ++ quartiles_line (is_signed i) (n i) (bracket_in (k i)))

pub at_element : {A : Type 0} (xs : List A) (i : ℕ) (d : A) → i < length xs → element xs i ≡ Some (get_or xs i d)
at_element [] i d here = absurd (omega (arith, here))
at_element (x ∷ xs) zero d here = refl
at_element (x ∷ xs) (suc i) d here = at_element xs i d (omega (arith, here))

some_element : {A : Type 0} (xs : List A) (i : ℕ) → i < length xs → A
some_element [] i here = absurd (omega (arith, here))
some_element (x ∷ xs) i here = x

-- what is said of a cell is what its rank's core says
kept_at : {T : Ghosts Hist} (study : Study) (cores : List (RankCore Hist T)) (rank step field x : ℕ) (d : RankCore Hist T) → rank_of study.sizes x ≡ Some rank → rank < length cores → kept_said study cores step field x ≡ core_said study (get_or cores rank d) step field x
kept_at {T} study cores rank step field x d found here =
    ap (λ (o : Option ℕ). elim o [ None ↦ [] | Some r ↦ elim (element cores r) [ None ↦ [] | Some core ↦ core_said study core step field x ] ]) found
    ∙ ap (λ (o : Option (RankCore Hist T)). elim o [ None ↦ [] | Some core ↦ core_said study core step field x ]) (at_element cores rank d here)

pub kept_of_core : {T : Ghosts Hist} (study : Study) (cores : List (RankCore Hist T)) (step field cell rank : ℕ) (core : RankCore Hist T) → rank_of study.sizes cell ≡ Some rank → rank < length cores → core ≡ get_or cores rank core → core_said study core step field cell ≡ kept_said study cores step field cell
kept_of_core study cores step field cell rank core found here is =
    ap (λ d. core_said study d step field cell) is ∙ sym (kept_at study cores rank step field cell core found here)

-- the rows at a place of a rank's table are those of the cell, and those of the history of the rank whose block holds it
table_at : (s : Sizes) (rank plane cell : ℕ) (pieces : List Piece) → (block s rank).first ≤ cell → cell < (block s rank).end → rank_table s rank pieces plane (cell - (block s rank).first) ≡ shifted_rows s rank plane cell pieces
table_at s rank plane cell pieces low high =
    let first = (block s rank).first in
    let inside : cell - first < width (block s rank) = omega arith in
    let passes : nat_lt (cell - first) (width (block s rank)) ≡ true = grind (arith, nat_tests) in
    let back : first + (cell - first) ≡ cell = omega arith in
    ap (λ b. cond b (shifted_rows s rank plane (first + (cell - first)) pieces) []) passes
    ∙ ap (λ x. shifted_rows s rank plane x pieces) back

shifted_are : (s : Sizes) (histories : ℕ → List LaneEvent) (rank plane x : ℕ) → rank_of s x ≡ Some rank → shifted_rows s rank plane x (pieces_of s rank (histories rank)) ≡ history_shifted s histories plane x
shifted_are s histories rank plane x is =
    ap (λ (o : Option ℕ). elim o [ None ↦ [] | Some r ↦ shifted_rows s r plane x (pieces_of s r (histories r)) ]) (sym is)

-- what is said of counts is what is said of the rows whose counts they are
said_of_rows : (study : Study) (step field x : ℕ) (h : Hist) (plane place : ℕ) (rows : List (List ℕ)) → IsCounted h plane place rows → hist_said study h plane place step field x ≡ rows_bins study step field x rows
unfolding cell_bins quartiles_line
said_of_rows study step field x h plane place rows counted =
    let signed = study.sizes.signed in
    let n : row_count h plane ≡ length rows = sym counted.counted in
    let k = counted.counts in
    let first = counted.brackets 1 (omega arith) (omega arith) in
    let second = counted.brackets 2 (omega arith) (omega arith) in
    let third = counted.brackets 3 (omega arith) (omega arith) in
    λ i. step_line study step field x (n i) ++ (bins_line (n i) (k i) ++ cond (n i == 0) (codes "quartiles -\n") (joined (codes "quartiles" ∷ bracket_words signed (first i) ∷ bracket_words signed (second i) ∷ bracket_words signed (third i) ∷ codes "\n" ∷ [])))

-- what the cores keep stands for their histories' rows
pub record HistsStand {T : Ghosts Hist} (s : Sizes) (cores : List (RankCore Hist T)) (histories : ℕ → List LaneEvent) : Type 0 where
  pub sizes : (rank : ℕ) (d : RankCore Hist T) → rank < length cores → shape_of (fold_of (get_or cores rank d)) ≡ s
  pub ranks : (rank : ℕ) (d : RankCore Hist T) → rank < length cores → hist_rank (fold_of (get_or cores rank d)) ≡ rank
  pub rows : (rank : ℕ) (d : RankCore Hist T) → rank < length cores → StandsFor (fold_of (get_or cores rank d)) (rank_table s rank (pieces_of s rank (histories rank)))

plane_below : (steps fields step field : ℕ) → step < steps → field < fields → step * fields + field < steps * fields
plane_below steps fields step field step_in field_in =
    let more : (step + 1) * fields ≤ steps * fields = mul-le (step + 1) fields steps fields (omega (arith, step_in)) (omega arith) in
    omega (arith, more, field_in)

pub cell_is : {T : Ghosts Hist} (study : Study) (cores : List (RankCore Hist T)) (histories : ℕ → List LaneEvent) → TablesAreCounted → 1 ≤ study.sizes.ranks → AreCores study.sizes cores → HistsStand study.sizes cores histories → (step field x : ℕ) → step < study.sizes.steps → field < study.sizes.fields → x < study.sizes.cells → kept_said study cores step field x ≡ rows_bins study step field x (history_shifted study.sizes histories (plane_of study.sizes step field) x)
cell_is study cores histories are_counted some are stand step field x step_in field_in here =
    let s = study.sizes in
    let rank = holder s.cells s.ranks x in
    let found : rank_of s x ≡ Some rank = holder_found s.cells s.ranks x some here in
    let within = bounds (block s rank) x (holder_holds s.cells s.ranks x some (omega (arith, here))) in
    let in_cores : rank < length cores = omega (arith, are.count, holder_within s.cells s.ranks x some here) in
    let d = some_element cores rank in_cores in
    let core = get_or cores rank d in
    let h = fold_of core in
    let plane = plane_of s step field in
    let place = x - (block s rank).first in
    let pieces = pieces_of s rank (histories rank) in
    let table = rank_table s rank pieces in
    let shape = stand.sizes rank d in_cores in
    let plane_in : plane < planes (shape_of h) = subst (λ z. plane < planes z) (sym shape) (plane_below s.steps s.fields step field step_in field_in) in
    let place_below : place < width (block s rank) = omega (arith, within.0, within.1) in
    let place_in : place < width (block (shape_of h) (hist_rank h)) = subst (λ z. place < width (block z (hist_rank h))) (sym shape) (subst (λ r. place < width (block s r)) (sym (stand.ranks rank d in_cores)) place_below) in
    let own : core_said study core step field x ≡ hist_said study h plane place step field x = (λ i. hist_said study h plane (x - (block (are.sizes rank d in_cores i) (are.ranks rank d in_cores i)).first) step field x) in
    kept_at study cores rank step field x d found in_cores
    ∙ own
    ∙ said_of_rows study step field x h plane place (table plane place) (are_counted h table plane place (stand.rows rank d in_cores) plane_in place_in)
    ∙ ap (rows_bins study step field x) (table_at s rank plane x pieces within.0 within.1 ∙ shifted_are s histories rank plane x found)
