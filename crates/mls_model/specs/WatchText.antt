-- The text of a watch over a list of events.
use Rattle.std.specs.Prelude.{ℕ, Bool, List, [], ◌∷◌, ◌++◌, length, filter, codes, decimal}
use Rattle.std.specs.List.{flat_map}
use Rattle.mls_model.specs.declared.launcher.Event.{Event}
use Rattle.mls_model.specs.declared.launcher.Action.{Action}
use Rattle.mls_model.specs.declared.launcher.Action.TheVariants.{Start, Restart, GiveUp, RestartRank}
use Rattle.mls_model.specs.Numbers.{below, joined}
use Rattle.mls_model.specs.Studies.{Sizes}
use Rattle.mls_model.specs.Pasts.{Entry, runs, waits, is_finished, is_given_up}
use Rattle.mls_model.specs.declared.launcher.Timed.{Timed}
use Rattle.mls_model.specs.Launcher.{past_of, timed_actions}

-- how many groups pass a test
unfoldable pub group_count : Sizes → (ℕ → Bool) → ℕ
group_count s test = length (filter test (below s.groups))

-- melissa-watch 1
unfoldable pub watch_title : List ℕ
watch_title = codes "melissa-watch 1\n"

-- T start G L and its like
unfoldable pub life_line : ℕ → List ℕ → ℕ → ℕ → List ℕ
life_line time words group life = joined (decimal time ∷ words ∷ decimal group ∷ codes " " ∷ decimal life ∷ codes "\n" ∷ [])

-- T giveup G and its like
unfoldable pub number_line : ℕ → List ℕ → ℕ → List ℕ
number_line time words number = joined (decimal time ∷ words ∷ decimal number ∷ codes "\n" ∷ [])

-- T start G L, T restart G L, T giveup G or T restart-rank R
unfoldable pub action_line : ℕ → Action → List ℕ
action_line time (Start group life) = life_line time (codes " start ") group life
action_line time (Restart group life) = life_line time (codes " restart ") group life
action_line time (GiveUp group) = number_line time (codes " giveup ") group
action_line time (RestartRank rank) = number_line time (codes " restart-rank ") rank

unfoldable pub action_lines : List Timed → List ℕ
action_lines all = flat_map (λ (t : Timed). action_line t.time t.action) all

-- two numbers with words before each
unfoldable pub pair_words : List ℕ → ℕ → List ℕ → ℕ → List ℕ
pair_words first a second b = joined (first ∷ decimal a ∷ second ∷ decimal b ∷ [])

unfoldable pub line_end : List ℕ
line_end = codes "\n"

-- end running a waiting b finished c givenup d
unfoldable pub end_words : ℕ → ℕ → ℕ → ℕ → List ℕ
end_words a b c d = pair_words (codes "end running ") a (codes " waiting ") b ++ (pair_words (codes " finished ") c (codes " givenup ") d ++ line_end)

-- the last line, from the numbers of groups that run, wait, are finished and are given up
unfoldable pub end_line : Sizes → List Entry → List ℕ
end_line s past = end_words (group_count s (λ g. runs g past)) (group_count s (λ g. waits g past)) (group_count s (λ g. is_finished g past)) (group_count s (λ g. is_given_up g past))

-- The watch text of a study's numbers and a list of events.
unfoldable pub watch_text : Sizes → List Event → List ℕ
watch_text s events = watch_title ++ (action_lines (timed_actions s events) ++ end_line s (past_of s events))
