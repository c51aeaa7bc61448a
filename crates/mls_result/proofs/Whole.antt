-- The whole text of a study.
use Rattle.std.proofs.Common.{◌≡◌, List, ℕ, ◌++◌, map, get_or, sym, ◌∙◌, ap, append_assoc}
use Rattle.mls_field.specs.declared.fold.RowFold.{Ghosts}
use Rattle.mls_field.specs.declared.field.Field.{Field}
use Rattle.mls_model.specs.declared.lanes.LaneLine.{LaneLine}
use Rattle.mls_model.specs.Studies.{Sizes, Study}
use Rattle.mls_model.specs.Histories.{LaneEvent}
use Rattle.mls_model.specs.Survival.{surviving}
use Rattle.mls_model.specs.Outcomes.{counts}
use Rattle.mls_model.specs.ResultText.{history_counts, study_line, rank_lines, lane_lines, cells_text, whole_text}
use Rattle.mls_rank.specs.declared.rank_core.RankCore.{RankCore}
use Rattle.mls_rank.specs.Cores.{rank_of, counts_of}
use Rattle.mls_text.proofs.Counted.{map_is}
use Rattle.mls_result.specs.Words.{title_words, end_words}
use Rattle.mls_result.specs.Histories.{kept_said, states_text, AreCores, AllStand}

-- the counts of the cores
pub counts_are : {F : Type 0} {T : Ghosts F} (s : Sizes) (cores : List (RankCore F T)) (histories : ℕ → List LaneEvent) → AreCores s cores → AllStand cores histories → map counts_of cores ≡ history_counts s histories
counts_are s cores histories are stand =
    map_is counts_of (λ rank. counts s rank (surviving (histories rank))) cores s.ranks are.count
    (λ rank d here.
    (stand.each rank d here).counts
    ∙ ap (λ z. counts z (rank_of (get_or cores rank d)) (surviving (histories rank))) (are.sizes rank d here)
    ∙ ap (λ r. counts s r (surviving (histories rank))) (are.ranks rank d here))

-- the text in the parts that are written
pub text-split : {T : Ghosts Field} (study : Study) (cores : List (RankCore Field T)) (lines : List LaneLine) → states_text study cores lines ≡ (title_words ++ study_line study) ++ (rank_lines (map counts_of cores) ++ (lane_lines lines ++ (cells_text study (kept_said study cores) ++ end_words)))
unfolding states_text whole_text title_words end_words
text-split study cores lines =
    sym (append_assoc title_words (study_line study) (rank_lines (map counts_of cores) ++ (lane_lines lines ++ (cells_text study (kept_said study cores) ++ end_words))))
