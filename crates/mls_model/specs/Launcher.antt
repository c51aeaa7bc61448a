-- What a launcher does at each event.
use Rattle.std.specs.Prelude.{ℕ, ◌+◌, ◌-◌, Bool, true, false, ◌&&◌, cond, List, [], ◌∷◌, ◌++◌, length, take, map, filter, nat_lt}
use Rattle.mls_model.specs.declared.launcher.Event.{Event}
use Rattle.mls_model.specs.declared.launcher.Event.TheVariants.{Tick}
use Rattle.mls_model.specs.declared.launcher.Action.{Action}
use Rattle.mls_model.specs.declared.launcher.Action.TheVariants.{Start, Restart, GiveUp, RestartRank}
use Rattle.mls_model.specs.declared.launcher.Timed.{Timed}
use Rattle.mls_model.specs.Numbers.{below}
use Rattle.mls_model.specs.Studies.{Sizes}
use Rattle.mls_model.specs.Pasts.{Entry, came, did, time_of, life_of, runs, waits, last_of, rank_last}

-- the past with actions that were done after it, in order
unfoldable pub with_actions : List Action → List Entry → List Entry
with_actions [] past = past
with_actions (a ∷ actions) past = with_actions actions (did a ∷ past)

-- whether more than the silence passed since a time
abbrev pub is_silent : Sizes → List Entry → ℕ → Bool
is_silent s past last = nat_lt s.silence (time_of past - last)

-- each silent rank, in rising order, is restarted
unfoldable pub rank_restarts : Sizes → List Entry → List Action
rank_restarts s past = map (λ r. RestartRank r) (filter (λ r. is_silent s past (rank_last r past)) (below s.ranks))

-- a silent group that may have one more life is restarted, another is given up
abbrev pub answer_to : Sizes → List Entry → ℕ → Action
answer_to s past g = cond (nat_lt (life_of g past) s.lives) (Restart g (life_of g past + 1)) (GiveUp g)

-- each running group that is silent, in rising order, is answered
unfoldable pub group_answers : Sizes → List Entry → List Action
group_answers s past = map (λ g. answer_to s past g) (filter (λ g. runs g past && is_silent s past (last_of g past)) (below s.groups))

-- how many groups run
unfoldable pub running : Sizes → List Entry → ℕ
running s past = length (filter (λ g. runs g past) (below s.groups))

-- waiting groups are started in rising order, while fewer than slots groups run
unfoldable pub starts : Sizes → List Entry → List Action
starts s past = map (λ g. Start g 1) (take (s.slots - running s past) (filter (λ g. waits g past) (below s.groups)))

-- the first two kinds of action at a Tick, after a past that ends with it
unfoldable pub answers : Sizes → List Entry → List Action
answers s past = rank_restarts s past ++ group_answers s (with_actions (rank_restarts s past) past)

-- the actions at a Tick, after a past that ends with it
unfoldable pub tick_actions : Sizes → List Entry → List Action
tick_actions s past = answers s past ++ starts s (with_actions (answers s past) past)

abbrev pub is_tick : Event → Bool
is_tick (Tick now) = true
is_tick _ = false

-- The actions at an event after a past. Only a Tick has any.
unfoldable pub actions_at : Sizes → List Entry → Event → List Action
actions_at s past e = cond (is_tick e) (tick_actions s (came e ∷ past)) []

-- the past with one more event and its actions
unfoldable pub past_with : Sizes → List Entry → Event → List Entry
past_with s past e = with_actions (actions_at s past e) (came e ∷ past)

-- the past after more events
unfoldable pub past_after : Sizes → List Entry → List Event → List Entry
past_after s past [] = past
past_after s past (e ∷ events) = past_after s (past_with s past e) events

-- what was heard and done over a list of events
abbrev pub past_of : Sizes → List Event → List Entry
past_of s events = past_after s [] events

-- the actions at an event, with the time
abbrev pub timed_at : Sizes → List Entry → Event → List Timed
timed_at s past e = map (λ a. record { time = time_of (came e ∷ past); action = a }) (actions_at s past e)

-- the actions over more events, in order
unfoldable pub timed_after : Sizes → List Entry → List Event → List Timed
timed_after s past [] = []
timed_after s past (e ∷ events) = timed_at s past e ++ timed_after s (past_with s past e) events

-- The actions of a launcher over a list of events, in order, each with its time.
abbrev pub timed_actions : Sizes → List Event → List Timed
timed_actions s events = timed_after s [] events
