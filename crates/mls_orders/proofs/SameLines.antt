-- What is said of a tape that meets the premise, whatever the order in which the ranks take it.
use Rattle.std.proofs.Common.{◌≡◌, ℕ, ◌<◌, true, List, [], ◌++◌, map, IsPermutation, Option, Some, None, codes, refl, sym, ap, ◌∙◌, subst₂, append_assoc}
use Rattle.std.specs.List.{AllByRecursion}
use Rattle.std.proofs.lemmas.List.Sorted.{IsPermutation-refl, IsPermutation-map}
use Rattle.mls_model.specs.Numbers.{below}
use Rattle.mls_model.specs.Studies.{Study, Sizes, plane_of}
use Rattle.mls_model.specs.Blocks.{block, is_in_span, rank_of}
use Rattle.mls_model.specs.Samples.{value, shifted}
use Rattle.mls_model.specs.declared.lanes.LaneLine.{LaneLine}
use Rattle.mls_model.specs.Lanes.{Lane}
use Rattle.mls_model.specs.Histories.{LaneEvent}
use Rattle.mls_model.specs.Completion.{Key, is_completed}
use Rattle.mls_model.specs.AcceptedRows.{accepted, sample_rows, rows, shifted_rows}
use Rattle.mls_model.specs.ResultText.{title, study_line, rank_lines, lane_lines, lines_of, cells_text, rows_said, history_rows, history_counts, history_text, histories_of, pieces_of, whole_text, result_text}
use Rattle.mls_model.specs.Schedules.{is_complete, plain}
use Rattle.mls_laws.proofs.Fits.{all_fit}
use Rattle.mls_orders.specs.Tapes.{rank_events, tape_pieces, TakesTheTape}
use Rattle.mls_orders.specs.OrderFree.{IsOrderFree, some_life_has_all}
use Rattle.mls_orders.specs.CellLines.{group_row, cell_lines, first_lines, text_with_plain_lines}
use Rattle.mls_orders.proofs.CellTexts.{cell_same}
use Rattle.mls_orders.proofs.Found.{passes, are_below}
use Rattle.mls_orders.proofs.WholeKeys.{completed_by_tape}
use Rattle.mls_orders.proofs.TapePieces.{tape_permuted, complete_takes, plain_takes}
use Rattle.mls_orders.proofs.Accepting.{accepted_permuted}
use Rattle.mls_orders.proofs.GroupRows.{IsKnown, all_known, rows_of_groups}

taken_pieces : (s : Sizes) (lanes : List Lane) (histories : ℕ → List LaneEvent) (rank : ℕ) → IsOrderFree s lanes → TakesTheTape s.ranks lanes histories → rank < s.ranks → IsPermutation (pieces_of s rank (histories rank)) (tape_pieces s lanes rank)
taken_pieces s lanes histories rank free takes within = tape_permuted s lanes rank (histories rank) free.no_crash (takes rank within)

pub completed_of_taken : (s : Sizes) (lanes : List Lane) (histories : ℕ → List LaneEvent) (rank : ℕ) (key : Key) → IsOrderFree s lanes → TakesTheTape s.ranks lanes histories → rank < s.ranks → is_completed s rank key (pieces_of s rank (histories rank)) ≡ some_life_has_all s rank key (tape_pieces s lanes rank)
completed_of_taken s lanes histories rank key free takes within = completed_by_tape s rank key (pieces_of s rank (histories rank)) (tape_pieces s lanes rank) (taken_pieces s lanes histories rank free takes within) (free.settled rank within key)

pub accepted_of_taken : (s : Sizes) (lanes : List Lane) (a b : ℕ → List LaneEvent) (rank plane : ℕ) → IsOrderFree s lanes → TakesTheTape s.ranks lanes a → TakesTheTape s.ranks lanes b → rank < s.ranks → IsPermutation (accepted s rank plane (pieces_of s rank (a rank))) (accepted s rank plane (pieces_of s rank (b rank)))
accepted_of_taken s lanes a b rank plane free takes too within = accepted_permuted s rank plane (pieces_of s rank (a rank)) (pieces_of s rank (b rank)) (tape_pieces s lanes rank) (taken_pieces s lanes a rank free takes within) (taken_pieces s lanes b rank free too within) (free.settled rank within)

known_of_taken : (s : Sizes) (lanes : List Lane) (histories : ℕ → List LaneEvent) (rank : ℕ) → IsOrderFree s lanes → TakesTheTape s.ranks lanes histories → rank < s.ranks → AllByRecursion (IsKnown s rank (tape_pieces s lanes rank)) (pieces_of s rank (histories rank))
known_of_taken s lanes histories rank free takes within = all_known s rank (pieces_of s rank (histories rank)) (tape_pieces s lanes rank) (taken_pieces s lanes histories rank free takes within) (all_fit s rank (rank_events lanes rank)) (free.alike rank within)

pub row_of_taken : (s : Sizes) (lanes : List Lane) (histories : ℕ → List LaneEvent) (rank plane x : ℕ) → IsOrderFree s lanes → TakesTheTape s.ranks lanes histories → rank < s.ranks → is_in_span (block s rank) x ≡ true → sample_rows s rank plane x (pieces_of s rank (histories rank)) ≡ map (group_row s plane x (tape_pieces s lanes rank)) (accepted s rank plane (pieces_of s rank (histories rank)))
row_of_taken s lanes histories rank plane x free takes within inside = rows_of_groups s rank plane x (pieces_of s rank (histories rank)) (tape_pieces s lanes rank) inside (known_of_taken s lanes histories rank free takes within)

pub samples_of_taken : (s : Sizes) (lanes : List Lane) (a b : ℕ → List LaneEvent) (rank plane x : ℕ) → IsOrderFree s lanes → TakesTheTape s.ranks lanes a → TakesTheTape s.ranks lanes b → rank < s.ranks → is_in_span (block s rank) x ≡ true → IsPermutation (sample_rows s rank plane x (pieces_of s rank (a rank))) (sample_rows s rank plane x (pieces_of s rank (b rank)))
samples_of_taken s lanes a b rank plane x free takes too within inside =
    subst₂ IsPermutation (sym (row_of_taken s lanes a rank plane x free takes within inside)) (sym (row_of_taken s lanes b rank plane x free too within inside))
    (IsPermutation-map (group_row s plane x (tape_pieces s lanes rank)) _ _ (accepted_of_taken s lanes a b rank plane free takes too within))

pub shifted_of_taken : (s : Sizes) (lanes : List Lane) (a b : ℕ → List LaneEvent) (rank plane x : ℕ) → IsOrderFree s lanes → TakesTheTape s.ranks lanes a → TakesTheTape s.ranks lanes b → rank < s.ranks → is_in_span (block s rank) x ≡ true → IsPermutation (shifted_rows s rank plane x (pieces_of s rank (a rank))) (shifted_rows s rank plane x (pieces_of s rank (b rank)))
shifted_of_taken s lanes a b rank plane x free takes too within inside = IsPermutation-map (map (shifted s.signed)) _ _ (samples_of_taken s lanes a b rank plane x free takes too within inside)

by_rank : (s : Sizes) (lanes : List Lane) (a b : ℕ → List LaneEvent) (plane x : ℕ) (o : Option ℕ) → rank_of s x ≡ o → IsOrderFree s lanes → TakesTheTape s.ranks lanes a → TakesTheTape s.ranks lanes b
    → IsPermutation {X = List _} (elim o [ None ↦ [] | Some rank ↦ rows s rank plane x (pieces_of s rank (a rank)) ]) (elim o [ None ↦ [] | Some rank ↦ rows s rank plane x (pieces_of s rank (b rank)) ])
by_rank s lanes a b plane x None e free takes too = IsPermutation-refl []
by_rank s lanes a b plane x (Some rank) e free takes too =
    let holds = passes (λ r. is_in_span (block s r) x) (λ (r : ℕ). r < s.ranks) (below s.ranks) rank (are_below s.ranks) e in
    IsPermutation-map (map (value s.signed)) _ _ (samples_of_taken s lanes a b rank plane x free takes too holds.1 holds.0)

pub rows_of_taken : (s : Sizes) (lanes : List Lane) (a b : ℕ → List LaneEvent) (plane x : ℕ) → IsOrderFree s lanes → TakesTheTape s.ranks lanes a → TakesTheTape s.ranks lanes b → IsPermutation (history_rows s a plane x) (history_rows s b plane x)
rows_of_taken s lanes a b plane x free takes too = by_rank s lanes a b plane x (rank_of s x) refl free takes too

pub lines_of_taken : (study : Study) (lanes : List Lane) (a b : ℕ → List LaneEvent) → IsOrderFree study.sizes lanes → TakesTheTape study.sizes.ranks lanes a → TakesTheTape study.sizes.ranks lanes b → cell_lines study a ≡ cell_lines study b
unfolding cell_lines
lines_of_taken study lanes a b free takes too = λ i. cells_text study (λ step field x. cell_same study step field x (history_rows study.sizes a (plane_of study.sizes step field) x) (history_rows study.sizes b (plane_of study.sizes step field) x) (rows_of_taken study.sizes lanes a b (plane_of study.sizes step field) x free takes too) i)

-- the text is the lines before, the step and cell lines, and the last line
pub text_parts : (study : Study) (histories : ℕ → List LaneEvent) (lines : List LaneLine) → history_text study histories lines ≡ first_lines study histories lines ++ (cell_lines study histories ++ codes "end\n")
unfolding history_text whole_text first_lines cell_lines
text_parts study histories lines =
    let ranks : List ℕ = rank_lines (history_counts study.sizes histories) in
    let last : List ℕ = cells_text study (rows_said study (history_rows study.sizes histories)) ++ codes "end\n" in
    sym (append_assoc title (study_line study ++ (ranks ++ lane_lines lines)) last
    ∙ ap (λ (ns : List ℕ). title ++ ns) (append_assoc (study_line study) (ranks ++ lane_lines lines) last ∙ ap (λ (ns : List ℕ). study_line study ++ ns) (append_assoc ranks (lane_lines lines) last)))

pub result_parts : (study : Study) (lanes : List Lane) (orders : List (List ℕ)) → result_text study lanes orders ≡ first_lines study (histories_of lanes orders) (lines_of lanes) ++ (cell_lines study (histories_of lanes orders) ++ codes "end\n")
unfolding result_text
result_parts study lanes orders = text_parts study (histories_of lanes orders) (lines_of lanes)

-- under complete schedules
pub lines_of_complete : (study : Study) (lanes : List Lane) (a b : List (List ℕ)) → IsOrderFree study.sizes lanes → is_complete study.sizes.ranks lanes a ≡ true → is_complete study.sizes.ranks lanes b ≡ true → cell_lines study (histories_of lanes a) ≡ cell_lines study (histories_of lanes b)
lines_of_complete study lanes a b free complete too = lines_of_taken study lanes (histories_of lanes a) (histories_of lanes b) free (complete_takes study.sizes.ranks lanes a complete) (complete_takes study.sizes.ranks lanes b too)

pub lines_of_plain : (study : Study) (lanes : List Lane) (orders : List (List ℕ)) → IsOrderFree study.sizes lanes → is_complete study.sizes.ranks lanes orders ≡ true → cell_lines study (histories_of lanes orders) ≡ cell_lines study (histories_of lanes (plain study.sizes.ranks lanes))
lines_of_plain study lanes orders free complete = lines_of_taken study lanes (histories_of lanes orders) (histories_of lanes (plain study.sizes.ranks lanes)) free (complete_takes study.sizes.ranks lanes orders complete) (plain_takes study.sizes.ranks lanes)

pub plain_parts : (study : Study) (lanes : List Lane) (orders : List (List ℕ)) → IsOrderFree study.sizes lanes → is_complete study.sizes.ranks lanes orders ≡ true → result_text study lanes orders ≡ text_with_plain_lines study lanes orders
unfolding text_with_plain_lines
plain_parts study lanes orders free complete =
    result_parts study lanes orders ∙ ap (λ (ns : List ℕ). first_lines study (histories_of lanes orders) (lines_of lanes) ++ (ns ++ codes "end\n")) (lines_of_plain study lanes orders free complete)
