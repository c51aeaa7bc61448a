-- The summary of what cores keep that stand for histories is the summary of these.
use Rattle.std.proofs.Common.{◌≡◌, ℕ, ◌<◌, List, [], ◌∷◌, ◌++◌, length, map, get_or, pos, refl, sym, ◌∙◌, ap}
use Rattle.std.specs.Prelude.{unwrap_or, unsigned_abs}
use Rattle.std.specs.List.{flat_map}
use Rattle.std.proofs.lemmas.List.{map-append}
use Rattle.mls_model.specs.Numbers.{below, joined}
use Rattle.mls_model.specs.Studies.{Study, Sizes, planes}
use Rattle.mls_model.specs.Lanes.{Lane}
use Rattle.mls_model.specs.Histories.{LaneEvent}
use Rattle.mls_model.specs.AcceptedRows.{accepted}
use Rattle.mls_model.specs.Statistics.{outputs, total, squares, least, most}
use Rattle.mls_model.specs.ResultText.{rank_lines, history_rows, histories_of, pieces_of}
use Rattle.mls_text.proofs.Counted.{map_is}
use Rattle.mls_field.specs.declared.field.Field.{Field}
use Rattle.mls_field.specs.declared.fold.RowFold.{Ghosts}
use Rattle.mls_rank.specs.declared.rank_core.RankCore.{RankCore}
use Rattle.mls_rank.specs.Cores.{rank_of as core_rank, counts_of, mark_count}
use Rattle.mls_result.specs.Histories.{AreCores, AllStand, kept_sums}
use Rattle.mls_result.specs.HistorySums.{KeepHistories}
use Rattle.mls_design.specs.TrialText.{trial_title, lanes_line, groups_text, accepted_counts, groups_line, over_cells, sum_line, histories_summary, trial_summary}
use Rattle.mls_trial.specs.Words.{sum_words, end_words}
use Rattle.mls_trial.specs.Kept.{core_groups, kept_groups, ends_line, kept_over_plane, kept_over_cells, first_of, second_of, kept_sum_line, trial_states_text}
use Rattle.mls_trial.proofs.Sums.{sum_same}

-- ---- accepted groups
map-flat_map : {X A B : Type 0} (g : A → B) (f : X → List A) (xs : List X) → map g (flat_map f xs) ≡ flat_map (λ x. map g (f x)) xs
map-flat_map g f [] = refl
map-flat_map g f (x ∷ xs) = map-append g (f x) (flat_map f xs) ∙ ap (λ ys. map g (f x) ++ ys) (map-flat_map g f xs)

joined-map : {X A : Type 0} (f : X → List A) (xs : List X) → joined (map f xs) ≡ flat_map f xs
joined-map f [] = refl
joined-map f (x ∷ xs) = ap (λ ys. f x ++ ys) (joined-map f xs)

-- what is made of the elements of a list, where each is what is made of its place
each_place : {X A : Type 0} (f : X → List A) (g : ℕ → List A) (xs : List X) (n : ℕ) → length xs ≡ n → ((i : ℕ) (d : X) → i < length xs → f (get_or xs i d) ≡ g i) → flat_map f xs ≡ flat_map g (below n)
each_place f g xs n long same = sym (joined-map f xs) ∙ ap joined (map_is f g xs n long same) ∙ joined-map g (below n)

each_number : (f g : ℕ → ℕ) (xs : List ℕ) → ((i : ℕ) → f i ≡ g i) → map pos (map f xs) ≡ map (λ i. pos (g i)) xs
each_number f g [] same = refl
each_number f g (x ∷ xs) same = λ i. pos (same x i) ∷ each_number f g xs same i

-- a core's numbers are those of its rank's history
core_accepted : {T : Ghosts Field} (s : Sizes) (cores : List (RankCore Field T)) (histories : ℕ → List LaneEvent) → AreCores s cores → AllStand cores histories → (rank : ℕ) (d : RankCore Field T) → rank < length cores → (plane : ℕ) → mark_count (get_or cores rank d) plane ≡ length (accepted s rank plane (pieces_of s rank (histories rank)))
core_accepted s cores histories are stand rank d here plane =
    let core = get_or cores rank d in
    (stand.each rank d here).holds.accepted plane
    ∙ ap (λ z. length (accepted z (core_rank core) plane (pieces_of z (core_rank core) (histories rank)))) (are.sizes rank d here)
    ∙ ap (λ r. length (accepted s r plane (pieces_of s r (histories rank)))) (are.ranks rank d here)

groups_are : {T : Ghosts Field} (s : Sizes) (cores : List (RankCore Field T)) (histories : ℕ → List LaneEvent) → AreCores s cores → AllStand cores histories → map pos (kept_groups s cores) ≡ accepted_counts s histories
unfolding kept_groups accepted_counts
groups_are s cores histories are stand =
    map-flat_map pos (core_groups s) cores
    ∙ each_place (λ core. map pos (core_groups s core)) (λ rank. map (λ plane. pos (length (accepted s rank plane (pieces_of s rank (histories rank))))) (below (planes s))) cores s.ranks are.count
    (λ rank d here. each_number (mark_count (get_or cores rank d)) (λ plane. length (accepted s rank plane (pieces_of s rank (histories rank)))) (below (planes s)) (core_accepted s cores histories are stand rank d here))

groups_line_is : (s : Sizes) (histories : ℕ → List LaneEvent) (numbers : List ℕ) → map pos numbers ≡ accepted_counts s histories → ends_line numbers ≡ groups_line s histories
unfolding ends_line groups_line
groups_line_is s histories numbers same = λ i. groups_text (unsigned_abs (unwrap_or (least (same i)) (pos 0))) (unsigned_abs (unwrap_or (most (same i)) (pos 0)))

-- ---- sums
module _ {T : Ghosts Field} (s : Sizes) (cores : List (RankCore Field T)) (histories : ℕ → List LaneEvent) (keep : KeepHistories s cores histories) where
  firsts_are : kept_over_cells s cores (first_of s) ≡ over_cells s histories total
  unfolding kept_over_cells over_cells
  firsts_are = sum_same (kept_over_plane s cores (first_of s)) _ (planes s) (λ plane plane_in. sum_same (λ x. first_of s (kept_sums s cores plane x)) (λ x. total (outputs (history_rows s histories plane x))) s.cells (λ x here. keep.first plane x plane_in here))

  seconds_are : kept_over_cells s cores (second_of s) ≡ over_cells s histories squares
  unfolding kept_over_cells over_cells
  seconds_are = sum_same (kept_over_plane s cores (second_of s)) _ (planes s) (λ plane plane_in. sum_same (λ x. second_of s (kept_sums s cores plane x)) (λ x. squares (outputs (history_rows s histories plane x))) s.cells (λ x here. keep.second plane x plane_in here))

  sum_line_is : kept_sum_line s cores ≡ sum_line s histories
  unfolding kept_sum_line sum_line sum_words
  sum_line_is = λ i. sum_words (firsts_are i) (seconds_are i)

-- ---- the whole
pub summary_is : {T : Ghosts Field} (study : Study) (number : ℕ) (lanes : List Lane) (orders : List (List ℕ)) (cores : List (RankCore Field T)) → AreCores study.sizes cores → AllStand cores (histories_of lanes orders) → KeepHistories study.sizes cores (histories_of lanes orders) → trial_states_text study number lanes cores ≡ trial_summary study number lanes orders
unfolding trial_states_text trial_summary histories_summary end_words
summary_is study number lanes orders cores are stand keep =
    let s = study.sizes in
    let histories = histories_of lanes orders in
    let groups = groups_line_is s histories (kept_groups s cores) (groups_are s cores histories are stand) in
    let sums = sum_line_is s cores histories keep in
    λ i. trial_title number ++ (lanes_line lanes ++ (rank_lines (keep.counts i) ++ (groups i ++ (sums i ++ end_words))))

-- the summary in the parts that are written
pub summary-split : {T : Ghosts Field} (study : Study) (number : ℕ) (lanes : List Lane) (cores : List (RankCore Field T)) → trial_states_text study number lanes cores ≡ trial_title number ++ (lanes_line lanes ++ (rank_lines (map counts_of cores) ++ (ends_line (kept_groups study.sizes cores) ++ (kept_sum_line study.sizes cores ++ end_words))))
unfolding trial_states_text
summary-split study number lanes cores = refl
