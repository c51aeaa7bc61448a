-- What the actions at a Tick make of a group.
use Rattle.std.proofs.Common.{◌≡◌, ℕ, ◌+◌, ◌-◌, ◌<◌, ◌≤◌, Bool, true, false, List, [], ◌∷◌, ◌++◌, map, refl, ap, ◌∙◌, ltb}
use Rattle.std.specs.Prelude.{cond, ◌&&◌, ◌==◌}
use Rattle.std.specs.List.{filter}
use Rattle.std.proofs.lemmas.List.Elements.{filter-append}
use Rattle.mls_model.specs.Numbers.{below}
use Rattle.mls_model.specs.Studies.{Sizes}
use Rattle.mls_model.specs.declared.launcher.Action.{Action}
use Rattle.mls_model.specs.declared.launcher.Action.TheVariants.{Start, Restart, GiveUp}
use Rattle.mls_model.specs.Pasts.{Entry, time_of, is_of, runs, waits, last_of, rank_last}
use Rattle.mls_model.specs.Launcher.{with_actions, is_silent, answer_to, rank_restarts, group_answers, running, starts, answers, tick_actions}
use Rattle.mls_launch.proofs.Facts.{Facts, facts, fact_did, facts_after, facts_by, with_actions_append, time_with_actions}
use Rattle.mls_launch.proofs.Picking.{picked, not_picked, none_of_ranks, among_first, first_so_many}
use Rattle.mls_launch.proofs.Stages.{silent_facts, answer_facts, answered}

own_answer : (g k n : ℕ) (b : Bool) → is_of g (cond b (Restart k n) (GiveUp k)) ≡ (k == g)
own_answer g k n true = refl
own_answer g k n false = refl

-- the pasts within a Tick: after the restarts of ranks, after the answers, after the starts
abbrev pub past_1 : Sizes → List Entry → List Entry
past_1 s past = with_actions (rank_restarts s past) past

abbrev pub past_2 : Sizes → List Entry → List Entry
past_2 s past = with_actions (answers s past) past

pub tick_past : (s : Sizes) (past : List Entry) → with_actions (tick_actions s past) past ≡ with_actions (starts s (past_2 s past)) (past_2 s past)
unfolding tick_actions
tick_past s past = with_actions_append (answers s past) (starts s (past_2 s past)) past

-- restarts of ranks say nothing of groups
pub facts_1 : (s : Sizes) (past : List Entry) (g : ℕ) → facts g (past_1 s past) ≡ facts g past
unfolding rank_restarts
facts_1 s past g = facts_by g (rank_restarts s past) [] past (none_of_ranks g (filter (λ r. is_silent s past (rank_last r past)) (below s.ranks)))

-- the answer to a group, where it gets one
abbrev pub own_answers : Sizes → ℕ → ℕ → Facts → List Action
own_answers s time g f = cond (silent_facts s.silence time f) (answer_facts s.lives g f ∷ []) []

own_group_answers : (s : Sizes) (past : List Entry) (g : ℕ) → g < s.groups → filter (is_of g) (group_answers s past) ≡ own_answers s (time_of past) g (facts g past)
unfolding group_answers
own_group_answers s past g h =
    picked g s.groups (λ k. answer_to s past k) (λ k. runs k past && is_silent s past (last_of k past))
    (λ k. own_answer g k ((facts k past).life + 1) (ltb (facts k past).life s.lives)) h

pub own_in_answers : (s : Sizes) (past : List Entry) (g : ℕ) → g < s.groups → filter (is_of g) (answers s past) ≡ own_answers s (time_of past) g (facts g past)
unfolding answers rank_restarts
own_in_answers s past g h =
    filter-append (is_of g) (rank_restarts s past) (group_answers s (past_1 s past))
    ∙ ap (λ l. l ++ filter (is_of g) (group_answers s (past_1 s past))) (none_of_ranks g (filter (λ r. is_silent s past (rank_last r past)) (below s.ranks)))
    ∙ own_group_answers s (past_1 s past) g h
    ∙ ap (λ t. own_answers s t g (facts g (past_1 s past))) (time_with_actions (rank_restarts s past) past)
    ∙ ap (own_answers s (time_of past) g) (facts_1 s past g)

after_one : (g time : ℕ) (b : Bool) (a : Action) (f : Facts) → facts_after g time (cond b (a ∷ []) []) f ≡ cond b (fact_did g time a f) f
after_one g time true a f = refl
after_one g time false a f = refl

pub facts_2 : (s : Sizes) (past : List Entry) (g : ℕ) → g < s.groups → facts g (past_2 s past) ≡ answered s.silence s.lives (time_of past) g (facts g past)
facts_2 s past g h =
    facts_by g (answers s past) (own_answers s (time_of past) g (facts g past)) past (own_in_answers s past g h)
    ∙ after_one g (time_of past) (silent_facts s.silence (time_of past) (facts g past)) (answer_facts s.lives g (facts g past)) (facts g past)

-- whether a waiting group is started
abbrev pub is_started : Sizes → List Entry → ℕ → Bool
is_started s past g = among_first (s.slots - running s past) (λ k. waits k past) g

abbrev pub own_starts : Sizes → List Entry → ℕ → List Action
own_starts s past g = cond (is_started s past g) (Start g 1 ∷ []) []

pub own_in_starts : (s : Sizes) (past : List Entry) (g : ℕ) → g < s.groups → filter (is_of g) (starts s past) ≡ own_starts s past g
unfolding starts
own_in_starts s past g h =
    ap (λ l. filter (is_of g) (map (λ k. Start k 1) l)) (first_so_many (s.slots - running s past) (λ k. waits k past) s.groups)
    ∙ picked g s.groups (λ k. Start k 1) (is_started s past) (λ k. refl) h

pub facts_3 : (s : Sizes) (past : List Entry) (g : ℕ) → g < s.groups → facts g (with_actions (starts s past) past) ≡ cond (is_started s past g) (fact_did g (time_of past) (Start g 1) (facts g past)) (facts g past)
facts_3 s past g h =
    facts_by g (starts s past) (own_starts s past g) past (own_in_starts s past g h)
    ∙ after_one g (time_of past) (is_started s past g) (Start g 1) (facts g past)

-- what is out of range stays as it is
pub facts_2_past : (s : Sizes) (past : List Entry) (g : ℕ) → s.groups ≤ g → facts g (past_2 s past) ≡ facts g past
unfolding answers rank_restarts group_answers
facts_2_past s past g h =
    facts_by g (answers s past) [] past
    (filter-append (is_of g) (rank_restarts s past) (group_answers s (past_1 s past))
    ∙ ap (λ l. l ++ filter (is_of g) (group_answers s (past_1 s past))) (none_of_ranks g (filter (λ r. is_silent s past (rank_last r past)) (below s.ranks)))
    ∙ not_picked g s.groups (λ k. answer_to s (past_1 s past) k) (λ k. runs k (past_1 s past) && is_silent s (past_1 s past) (last_of k (past_1 s past)))
    (λ k. own_answer g k ((facts k (past_1 s past)).life + 1) (ltb (facts k (past_1 s past)).life s.lives)) h)

pub facts_3_past : (s : Sizes) (past : List Entry) (g : ℕ) → s.groups ≤ g → facts g (with_actions (starts s past) past) ≡ facts g past
unfolding starts
facts_3_past s past g h =
    facts_by g (starts s past) [] past
    (ap (λ l. filter (is_of g) (map (λ k. Start k 1) l)) (first_so_many (s.slots - running s past) (λ k. waits k past) s.groups)
    ∙ not_picked g s.groups (λ k. Start k 1) (is_started s past) (λ k. refl) h)
