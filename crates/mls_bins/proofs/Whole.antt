-- The whole bins text of a study.
use Rattle.std.proofs.Common.{◌≡◌, List, ℕ, zero, suc, [], ◌∷◌, ◌++◌, ◌<◌, ◌≤◌, map, get_or, sym, ◌∙◌, ap, arith, refl, append_assoc}
use Rattle.std.specs.Prelude.{codes}
use Rattle.std.specs.List.{flat_map}
use Rattle.std.proofs.lemmas.List.Concat.{flat_map-append}
use Rattle.mls_field.specs.declared.fold.RowFold.{Ghosts}
use Rattle.mls_model.specs.declared.lanes.LaneLine.{LaneLine}
use Rattle.mls_model.specs.declared.outcomes.Counts.{Counts}
use Rattle.mls_model.specs.Numbers.{below}
use Rattle.mls_model.specs.Studies.{Sizes, Study, plane_of}
use Rattle.mls_model.specs.Histories.{LaneEvent}
use Rattle.mls_model.specs.Survival.{surviving}
use Rattle.mls_model.specs.Outcomes.{counts}
use Rattle.mls_model.specs.ResultText.{history_counts, study_line, rank_lines, lane_lines, field_text, step_text, cells_text}
use Rattle.mls_text.proofs.Counted.{map_is}
use Rattle.mls_hist.specs.declared.hist.Hist.{Hist}
use Rattle.mls_hist.specs.Tables.{TablesAreCounted}
use Rattle.mls_hist.specs.BinsText.{bins_title, rows_bins, whole_bins, history_shifted, history_bins}
use Rattle.mls_rank.specs.declared.rank_core.RankCore.{RankCore}
use Rattle.mls_rank.specs.Cores.{rank_of, counts_of}
use Rattle.mls_result.specs.Words.{end_words}
use Rattle.mls_result.specs.Histories.{AreCores, AllStand}
use Rattle.mls_bins.specs.Folding.{kept_said, bins_states_text}
use Rattle.mls_bins.proofs.Cells.{HistsStand, cell_is}

-- the text in the parts that are written
pub text-split : {T : Ghosts Hist} (study : Study) (cores : List (RankCore Hist T)) (all : List Counts) (lines : List LaneLine) → all ≡ map counts_of cores → bins_title ++ (study_line study ++ ((rank_lines all ++ lane_lines lines) ++ (cells_text study (kept_said study cores) ++ end_words))) ≡ bins_states_text study cores lines
unfolding bins_states_text whole_bins end_words
text-split study cores all lines are =
    ap (λ t. bins_title ++ (study_line study ++ t)) (append_assoc (rank_lines all) (lane_lines lines) (cells_text study (kept_said study cores) ++ end_words))
    ∙ ap (λ ns. bins_title ++ (study_line study ++ (rank_lines ns ++ (lane_lines lines ++ (cells_text study (kept_said study cores) ++ end_words))))) are

-- the counts of cores that stand for histories
pub counts_are : {F : Type 0} {T : Ghosts F} (s : Sizes) (cores : List (RankCore F T)) (histories : ℕ → List LaneEvent) → AreCores s cores → AllStand cores histories → map counts_of cores ≡ history_counts s histories
counts_are s cores histories are stand =
    map_is counts_of (λ rank. counts s rank (surviving (histories rank))) cores s.ranks are.count
    (λ rank d here.
    (stand.each rank d here).counts
    ∙ ap (λ z. counts z (rank_of (get_or cores rank d)) (surviving (histories rank))) (are.sizes rank d here)
    ∙ ap (λ r. counts s r (surviving (histories rank))) (are.ranks rank d here))

each_below : (f g : ℕ → List ℕ) (n : ℕ) → ((i : ℕ) → i < n → f i ≡ g i) → flat_map f (below n) ≡ flat_map g (below n)
each_below f g zero same = refl
each_below f g (suc n) same =
    flat_map-append f (below n) (n ∷ [])
    ∙ (λ i. each_below f g n (λ j h. same j (omega (arith, h))) i ++ (same n (omega arith) i ++ []))
    ∙ sym (flat_map-append g (below n) (n ∷ []))

-- the text of what cores keep is the text of the histories that they stand for
pub states_are : {T : Ghosts Hist} (study : Study) (cores : List (RankCore Hist T)) (histories : ℕ → List LaneEvent) (lines : List LaneLine) → TablesAreCounted → 1 ≤ study.sizes.ranks → AreCores study.sizes cores → map counts_of cores ≡ history_counts study.sizes histories → HistsStand study.sizes cores histories → bins_states_text study cores lines ≡ history_bins study histories lines
unfolding bins_states_text history_bins whole_bins cells_text step_text field_text
states_are study cores histories lines are_counted some are counts stand =
    let s = study.sizes in
    let said = kept_said study cores in
    let told : ℕ → ℕ → ℕ → List ℕ = λ step field x. rows_bins study step field x (history_shifted s histories (plane_of s step field) x) in
    let cells = each_below (λ step. flat_map (λ field. flat_map (said step field) (below s.cells)) (below s.fields)) (λ step. flat_map (λ field. flat_map (told step field) (below s.cells)) (below s.fields)) s.steps
    (λ step step_in. each_below (λ field. flat_map (said step field) (below s.cells)) (λ field. flat_map (told step field) (below s.cells)) s.fields
    (λ field field_in. each_below (said step field) (told step field) s.cells
    (λ x here. cell_is study cores histories are_counted some are stand step field x step_in field_in here))) in
    λ i. bins_title ++ (study_line study ++ (rank_lines (counts i) ++ (lane_lines lines ++ (cells i ++ codes "end\n"))))
