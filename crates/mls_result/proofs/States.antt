-- What is said of what cores keep is what is said of the histories that they stand for.
use Rattle.std.proofs.Common.{◌≡◌, List, ℕ, zero, suc, [], ◌∷◌, ◌++◌, ◌+◌, ◌-◌, ◌<◌, ◌≤◌, length, map, get_or, Option, Some, None, refl, sym, ◌∙◌, ap, subst, arith}
use Rattle.std.specs.Prelude.{codes}
use Rattle.std.specs.List.{flat_map, AllByRecursion}
use Rattle.std.proofs.lemmas.List.Concat.{flat_map-append}
use Rattle.mls_model.specs.declared.lanes.LaneLine.{LaneLine}
use Rattle.mls_model.specs.Numbers.{below, element}
use Rattle.mls_model.specs.Studies.{Sizes, Study, planes, plane_of}
use Rattle.mls_model.specs.Blocks.{block, width, rank_of}
use Rattle.mls_model.specs.Histories.{LaneEvent}
use Rattle.mls_model.specs.Standing.{rank_table}
use Rattle.mls_model.specs.CellSums.{sums_of}
use Rattle.mls_model.specs.SumsText.{sums_text}
use Rattle.mls_model.specs.ResultText.{history_counts, history_rows, history_text, pieces_of, title, study_line, rank_lines, lane_lines, cell_text, rows_said, field_text, step_text, cells_text, whole_text}
use Rattle.mls_base.proofs.Spans.{holder}
use Rattle.mls_field.specs.declared.fold.RowFold.{Ghosts}
use Rattle.mls_field.specs.declared.field.Field.{Field}
use Rattle.mls_field.specs.Stands.{shape_of, rank_of as field_rank, StandsFor}
use Rattle.mls_field.specs.Kept.{sums_at}
use Rattle.mls_field.proofs.Grid.{cell_fits}
use Rattle.mls_field.proofs.Kept.{sums_of_rows, rows_whole}
use Rattle.mls_rank.specs.declared.rank_core.RankCore.{RankCore}
use Rattle.mls_rank.specs.Cores.{counts_of, fold_of}
use Rattle.mls_result.specs.Histories.{no_sums, core_sums, kept_sums, kept_said, states_text, AreCores}
use Rattle.mls_result.proofs.CellText.{rows_at}
use Rattle.mls_result.proofs.RowsText.{cell_said}
use Rattle.mls_result.proofs.Texts.{rows_are, holder_is_found, holder_within_ranks, holder_bounds}

-- what the cores keep stands for their histories' rows
pub record FoldsStand {T : Ghosts Field} (s : Sizes) (cores : List (RankCore Field T)) (histories : ℕ → List LaneEvent) : Type 0 where
  pub sizes : (rank : ℕ) (d : RankCore Field T) → rank < length cores → shape_of (fold_of (get_or cores rank d)) ≡ s
  pub ranks : (rank : ℕ) (d : RankCore Field T) → rank < length cores → field_rank (fold_of (get_or cores rank d)) ≡ rank
  pub rows : (rank : ℕ) (d : RankCore Field T) → rank < length cores → StandsFor (fold_of (get_or cores rank d)) (rank_table s rank (pieces_of s rank (histories rank)))

pub at_element : {A : Type 0} (xs : List A) (i : ℕ) (d : A) → i < length xs → element xs i ≡ Some (get_or xs i d)
at_element [] i d here = absurd (omega (arith, here))
at_element (x ∷ xs) zero d here = refl
at_element (x ∷ xs) (suc i) d here = at_element xs i d (omega (arith, here))

some_element : {A : Type 0} (xs : List A) (i : ℕ) → i < length xs → A
some_element [] i here = absurd (omega (arith, here))
some_element (x ∷ xs) i here = x

-- the sums of a cell are those that its rank's core keeps
pub kept_at : {T : Ghosts Field} (s : Sizes) (cores : List (RankCore Field T)) (rank plane x : ℕ) (d : RankCore Field T) → rank_of s x ≡ Some rank → rank < length cores → kept_sums s cores plane x ≡ core_sums (get_or cores rank d) plane x
kept_at {T} s cores rank plane x d found here =
    ap (λ (o : Option ℕ). elim o [ None ↦ no_sums | Some r ↦ elim (element cores r) [ None ↦ no_sums | Some core ↦ core_sums core plane x ] ]) found
    ∙ ap (λ (o : Option (RankCore Field T)). elim o [ None ↦ no_sums | Some core ↦ core_sums core plane x ]) (at_element cores rank d here)

abbrev AllRows : Sizes → List (List ℕ) → Type 0
AllRows z rows = AllByRecursion (λ row. length row ≡ z.parameters + 2) rows

cell_is : {T : Ghosts Field} (study : Study) (cores : List (RankCore Field T)) (histories : ℕ → List LaneEvent) → 1 ≤ study.sizes.ranks → length study.parameters ≡ study.sizes.parameters → AreCores study.sizes cores → FoldsStand study.sizes cores histories → (step field x : ℕ) → step < study.sizes.steps → field < study.sizes.fields → x < study.sizes.cells → kept_said study cores step field x ≡ rows_said study (history_rows study.sizes histories) step field x
cell_is study cores histories some counted are stand step field x step_in field_in here =
    let s = study.sizes in
    let rank = holder s.cells s.ranks x in
    let found = holder_is_found s x some here in
    let within = holder_bounds s x some here in
    let in_cores : rank < length cores = omega (arith, are.count, holder_within_ranks s x some here) in
    let d = some_element cores rank in_cores in
    let core = get_or cores rank d in
    let f = fold_of core in
    let plane = plane_of s step field in
    let place = x - (block s rank).first in
    let pieces = pieces_of s rank (histories rank) in
    let table = rank_table s rank pieces in
    let shape = stand.sizes rank d in_cores in
    let stands = stand.rows rank d in_cores in
    let plane_below : plane < planes s = omega (arith, cell_fits step s.fields field s.steps step_in field_in) in
    let plane_in : plane < planes (shape_of f) = subst (λ z. plane < planes z) (sym shape) plane_below in
    let place_below : place < width (block s rank) = omega (arith, within.0, within.1) in
    let place_in : place < width (block (shape_of f) (field_rank f)) = subst (λ z. place < width (block z (field_rank f))) (sym shape) (subst (λ r. place < width (block s r)) (sym (stand.ranks rank d in_cores)) place_below) in
    let own : core_sums core plane x ≡ sums_at f plane place = (λ i. sums_at f plane (x - (block (are.sizes rank d in_cores i) (are.ranks rank d in_cores i)).first)) in
    let sums : kept_sums s cores plane x ≡ sums_of s.parameters s.thresholds (table plane place) = kept_at s cores rank plane x d found in_cores ∙ own ∙ sums_of_rows f table plane place stands plane_in place_in ∙ ap (λ (z : Sizes). sums_of z.parameters z.thresholds (table plane place)) shape in
    ap (sums_text study step field x) sums
    ∙ cell_said study step field x (table plane place) counted (subst (λ (z : Sizes). AllRows z (table plane place)) shape (rows_whole f table plane place stands plane_in place_in))
    ∙ ap (cell_text study step field x) (rows_at s rank plane x pieces within.0 within.1 ∙ rows_are s histories rank plane x found)

each_below : (f g : ℕ → List ℕ) (n : ℕ) → ((i : ℕ) → i < n → f i ≡ g i) → flat_map f (below n) ≡ flat_map g (below n)
each_below f g zero same = refl
each_below f g (suc n) same =
    flat_map-append f (below n) (n ∷ [])
    ∙ (λ i. each_below f g n (λ j h. same j (omega (arith, h))) i ++ (same n (omega arith) i ++ []))
    ∙ sym (flat_map-append g (below n) (n ∷ []))

pub states_are : {T : Ghosts Field} (study : Study) (cores : List (RankCore Field T)) (histories : ℕ → List LaneEvent) (lines : List LaneLine) → 1 ≤ study.sizes.ranks → length study.parameters ≡ study.sizes.parameters → AreCores study.sizes cores → map counts_of cores ≡ history_counts study.sizes histories → FoldsStand study.sizes cores histories → states_text study cores lines ≡ history_text study histories lines
unfolding states_text history_text whole_text cells_text step_text field_text
states_are study cores histories lines some counted are counts stand =
    let s = study.sizes in
    let said = kept_said study cores in
    let told = rows_said study (history_rows s histories) in
    let cells = each_below (λ step. flat_map (λ field. flat_map (said step field) (below s.cells)) (below s.fields)) (λ step. flat_map (λ field. flat_map (told step field) (below s.cells)) (below s.fields)) s.steps
    (λ step step_in. each_below (λ field. flat_map (said step field) (below s.cells)) (λ field. flat_map (told step field) (below s.cells)) s.fields
    (λ field field_in. each_below (said step field) (told step field) s.cells
    (λ x here. cell_is study cores histories some counted are stand step field x step_in field_in here))) in
    λ i. title ++ (study_line study ++ (rank_lines (counts i) ++ (lane_lines lines ++ (cells i ++ codes "end\n"))))
