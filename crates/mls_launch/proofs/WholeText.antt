-- The watch text from its actions and totals.
use Rattle.std.proofs.Common.{◌≡◌, ℕ, List, ◌++◌, ap, ◌∙◌}
use Rattle.mls_model.specs.declared.launcher.Event.{Event}
use Rattle.mls_model.specs.declared.launcher.Timed.{Timed}
use Rattle.mls_launch.specs.declared.totals.Totals.{Totals}
use Rattle.mls_model.specs.Studies.{Sizes}
use Rattle.mls_model.specs.Pasts.{Entry, runs, waits, is_finished}
use Rattle.mls_model.specs.Launcher.{past_of, timed_actions}
use Rattle.mls_launch.specs.Writing.{AreTotals}
use Rattle.mls_model.specs.WatchText.{group_count, watch_title, action_lines, end_words, end_line, watch_text}

end_is : (t : Totals) (s : Sizes) (past : List Entry) → AreTotals t s past → end_words t.running t.waiting t.finished t.given_up ≡ end_line s past
unfolding end_line
end_is t s past h =
    let a : ℕ = group_count s (λ g. runs g past) in
    let b : ℕ = group_count s (λ g. waits g past) in
    let c : ℕ = group_count s (λ g. is_finished g past) in
    ap (λ n. end_words n t.waiting t.finished t.given_up) h.running
    ∙ ap (λ n. end_words a n t.finished t.given_up) h.waiting
    ∙ ap (λ n. end_words a b n t.given_up) h.finished
    ∙ ap (end_words a b c) h.given_up

pub whole_text : (s : Sizes) (events : List Event) (lines : List Timed) (t : Totals) → lines ≡ timed_actions s events → AreTotals t s (past_of s events) → watch_title ++ (action_lines lines ++ end_words t.running t.waiting t.finished t.given_up) ≡ watch_text s events
unfolding watch_text
whole_text s events lines t are totals =
    ap (λ l. watch_title ++ (action_lines l ++ end_words t.running t.waiting t.finished t.given_up)) are
    ∙ ap (λ l. watch_title ++ (action_lines (timed_actions s events) ++ l)) (end_is t s (past_of s events) totals)
