-- What a launcher heard and did up to a moment, and what that says of a group and of a rank.
use Rattle.std.specs.Prelude.{ℕ, suc, max, Bool, false, not, ◌&&◌, ◌||◌, cond, List, [], ◌∷◌, ◌==◌}
use Rattle.mls_model.specs.declared.launcher.Event.{Event}
use Rattle.mls_model.specs.declared.launcher.Event.TheVariants.{Tick, Beat, Done, RankBeat}
use Rattle.mls_model.specs.declared.launcher.Action.{Action}
use Rattle.mls_model.specs.declared.launcher.Action.TheVariants.{Start, Restart, GiveUp, RestartRank}

-- An event came, or an action was done. A past is a list of these, the latest first.
pub data Entry : Type 0 where
  came : Event → Entry
  did : Action → Entry

-- the time that an event has
abbrev pub now_of : Event → ℕ
now_of (Tick now) = now
now_of (Beat group life now) = now
now_of (Done group life now) = now
now_of (RankBeat rank now) = now

-- The time is the greatest now so far, and 0 before the first.
unfoldable pub time_of : List Entry → ℕ
time_of [] = 0
time_of (came e ∷ past) = max (time_of past) (now_of e)
time_of (did a ∷ past) = time_of past

-- whether an action is of a group
abbrev pub is_of : ℕ → Action → Bool
is_of g (Start group life) = group == g
is_of g (Restart group life) = group == g
is_of g (GiveUp group) = group == g
is_of g (RestartRank rank) = false

abbrev pub is_start : ℕ → Action → Bool
is_start g (Start group life) = group == g
is_start g _ = false

-- whether an action begins a life of a group
abbrev pub begins_life : ℕ → Action → Bool
begins_life g (Start group life) = group == g
begins_life g (Restart group life) = group == g
begins_life g _ = false

abbrev pub is_give_up : ℕ → Action → Bool
is_give_up g (GiveUp group) = group == g
is_give_up g _ = false

-- whether the past has an action that passes a test
unfoldable pub has_done : (Action → Bool) → List Entry → Bool
has_done test [] = false
has_done test (came e ∷ past) = has_done test past
has_done test (did a ∷ past) = test a || has_done test past

-- The life of a group is the number of its Start and Restart actions so far.
unfoldable pub life_of : ℕ → List Entry → ℕ
life_of g [] = 0
life_of g (came e ∷ past) = life_of g past
life_of g (did a ∷ past) = cond (begins_life g a) (suc (life_of g past)) (life_of g past)

-- It is given up where it has a GiveUp.
abbrev pub is_given_up : ℕ → List Entry → Bool
is_given_up g past = has_done (is_give_up g) past

-- It runs where it has a Start and is neither finished nor given up.
abbrev pub runs_unless : (finished : Bool) → ℕ → List Entry → Bool
runs_unless finished g past = has_done (is_start g) past && not finished && not (is_given_up g past)

-- It waits where it has no action and isn't finished.
abbrev pub waits_unless : (finished : Bool) → ℕ → List Entry → Bool
waits_unless finished g past = not (has_done (is_of g) past) && not finished

-- whether an event is a Done of a group that runs with its life, or that waits
abbrev pub finishes : (finished : Bool) → ℕ → List Entry → Event → Bool
finishes finished g past (Done group life now) = (group == g) && ((runs_unless finished g past && (life == life_of g past)) || waits_unless finished g past)
finishes finished g past _ = false

-- It is finished where an earlier Done of it stood while it ran with that life or while it waited.
unfoldable pub is_finished : ℕ → List Entry → Bool
is_finished g [] = false
is_finished g (came e ∷ past) = is_finished g past || finishes (is_finished g past) g past e
is_finished g (did a ∷ past) = is_finished g past

abbrev pub runs : ℕ → List Entry → Bool
runs g past = runs_unless (is_finished g past) g past

abbrev pub waits : ℕ → List Entry → Bool
waits g past = waits_unless (is_finished g past) g past

-- whether an event is a Beat of a group with this life
abbrev pub beats : ℕ → ℕ → Event → Bool
beats g alive (Beat group life now) = (group == g) && (life == alive)
beats g alive _ = false

-- Its last time is the time at its latest Start, Restart, or Beat with its life of that moment.
unfoldable pub last_of : ℕ → List Entry → ℕ
last_of g [] = 0
last_of g (came e ∷ past) = cond (beats g (life_of g past) e) (time_of (came e ∷ past)) (last_of g past)
last_of g (did a ∷ past) = cond (begins_life g a) (time_of past) (last_of g past)

abbrev pub is_rank_beat : ℕ → Event → Bool
is_rank_beat r (RankBeat rank now) = rank == r
is_rank_beat r _ = false

abbrev pub is_rank_restart : ℕ → Action → Bool
is_rank_restart r (RestartRank rank) = rank == r
is_rank_restart r _ = false

-- A rank's last time is the time at its latest RankBeat or RestartRank, and 0 before.
unfoldable pub rank_last : ℕ → List Entry → ℕ
rank_last r [] = 0
rank_last r (came e ∷ past) = cond (is_rank_beat r e) (time_of (came e ∷ past)) (rank_last r past)
rank_last r (did a ∷ past) = cond (is_rank_restart r a) (time_of past) (rank_last r past)
