-- The rows that a watch keeps of groups and ranks, and what it does by them.
use Rattle.std.specs.Prelude.{◌≡◌, ℕ, ◌+◌, ◌-◌, max, Bool, true, false, not, ◌&&◌, cond, List, [], ◌∷◌, ◌++◌, length, take, map, filter, slice_index_or, slice_index, slice_set, nat_lt, ◌==◌}
use Rattle.mls_model.specs.declared.launcher.Event.{Event}
use Rattle.mls_model.specs.declared.launcher.Event.TheVariants.{Beat, Done, RankBeat}
use Rattle.mls_model.specs.declared.launcher.Action.{Action}
use Rattle.mls_model.specs.declared.launcher.Action.TheVariants.{Start, Restart, GiveUp, RestartRank}
use Rattle.mls_launch.specs.declared.group_state.GroupState.{GroupState}
use Rattle.mls_launch.specs.declared.group_state.GroupState.TheVariants.{Waiting, Running, Finished, GivenUp}
use Rattle.mls_model.specs.Numbers.{below}
use Rattle.mls_model.specs.Studies.{Sizes}
use Rattle.mls_model.specs.Pasts.{Entry, time_of, has_done, is_start, is_finished, is_given_up, life_of, last_of, rank_last, now_of}
use Rattle.mls_model.specs.Launcher.{past_of, is_tick}

-- where a group stands after a past
unfoldable pub row_of : ℕ → List Entry → GroupState
row_of g past = cond (is_finished g past) Finished (cond (is_given_up g past) GivenUp (cond (has_done (is_start g) past) (Running (life_of g past) (last_of g past)) Waiting))

-- a row for each rank and group
pub record Table : Type 0 where
  pub sizes : Sizes
  pub time : ℕ
  pub lasts : List ℕ
  pub rows : List GroupState

-- A watch stands for a list of events where its time and rows are those after them.
pub record StandsFor (t : Table) (events : List Event) : Type 0 where
  pub time : t.time ≡ time_of (past_of t.sizes events)
  pub lasts : t.lasts ≡ map (λ r. rank_last r (past_of t.sizes events)) (below t.sizes.ranks)
  pub rows : t.rows ≡ map (λ g. row_of g (past_of t.sizes events)) (below t.sizes.groups)

-- a row after a sign of life
abbrev pub row_beat : ℕ → ℕ → GroupState → GroupState
row_beat life time (Running alive last) = cond (life == alive) (Running alive time) (Running alive last)
row_beat life time row = row

-- a row after the end of a life
abbrev pub row_done : ℕ → GroupState → GroupState
row_done life (Running alive last) = cond (life == alive) Finished (Running alive last)
row_done life Waiting = Finished
row_done life row = row

abbrev pub is_due : ℕ → ℕ → GroupState → Bool
is_due silence time (Running life last) = nat_lt silence (time - last)
is_due silence time row = false

abbrev pub answer_for : ℕ → ℕ → GroupState → Action
answer_for lives g (Running life last) = cond (nat_lt life lives) (Restart g (life + 1)) (GiveUp g)
answer_for lives g row = GiveUp g

-- whether it goes on running when it is answered
abbrev pub stays_on : ℕ → ℕ → ℕ → GroupState → Bool
stays_on silence lives time (Running life last) = not (nat_lt silence (time - last) && not (nat_lt life lives))
stays_on silence lives time row = false

abbrev pub is_waiting : GroupState → Bool
is_waiting Waiting = true
is_waiting row = false

abbrev pub is_running : GroupState → Bool
is_running (Running life last) = true
is_running row = false

abbrev pub is_done : GroupState → Bool
is_done Finished = true
is_done row = false

abbrev pub is_left : GroupState → Bool
is_left GivenUp = true
is_left row = false

abbrev pub row_at : List GroupState → ℕ → GroupState
row_at rows g = slice_index_or rows g Waiting

-- the first k numbers that pass a test
unfoldable pub chosen : (ℕ → Bool) → ℕ → List ℕ
chosen test k = filter test (below k)

-- what is done about the first k ranks
unfoldable pub ranks_due : (silence time : ℕ) → List ℕ → ℕ → List Action
ranks_due silence time lasts k = map (λ r. RestartRank r) (chosen (λ r. nat_lt silence (time - slice_index lasts r)) k)

-- what is done about the first k groups that run
unfoldable pub groups_due : (silence lives time : ℕ) → List GroupState → ℕ → List Action
groups_due silence lives time rows k = map (λ g. answer_for lives g (row_at rows g)) (chosen (λ g. is_due silence time (row_at rows g)) k)

-- how many of the first k groups run on
unfoldable pub staying : (silence lives time : ℕ) → List GroupState → ℕ → ℕ
staying silence lives time rows k = length (chosen (λ g. stays_on silence lives time (row_at rows g)) k)

-- which of the first k groups that wait are started where there is room for so many
unfoldable pub starts_due : ℕ → List GroupState → ℕ → List Action
starts_due room rows k = map (λ g. Start g 1) (take room (chosen (λ g. is_waiting (row_at rows g)) k))

-- what is done at a Tick
unfoldable pub due : Sizes → ℕ → List ℕ → List GroupState → List Action
due s time lasts rows = ranks_due s.silence time lasts s.ranks ++ (groups_due s.silence s.lives time rows s.groups ++ starts_due (s.slots - staying s.silence s.lives time rows s.groups) rows s.groups)

-- the rows after an action, and after several
abbrev pub lasts_with : ℕ → List ℕ → Action → List ℕ
lasts_with time lasts (RestartRank rank) = slice_set lasts rank time
lasts_with time lasts _ = lasts

abbrev pub rows_with : ℕ → List GroupState → Action → List GroupState
rows_with time rows (Start group life) = slice_set rows group (Running life time)
rows_with time rows (Restart group life) = slice_set rows group (Running life time)
rows_with time rows (GiveUp group) = slice_set rows group GivenUp
rows_with time rows (RestartRank rank) = rows

unfoldable pub lasts_after : ℕ → List ℕ → List Action → List ℕ
lasts_after time lasts [] = lasts
lasts_after time lasts (a ∷ actions) = lasts_after time (lasts_with time lasts a) actions

unfoldable pub rows_after : ℕ → List GroupState → List Action → List GroupState
rows_after time rows [] = rows
rows_after time rows (a ∷ actions) = rows_after time (rows_with time rows a) actions

-- the rows after what was heard
abbrev pub lasts_heard : ℕ → List ℕ → Event → List ℕ
lasts_heard time lasts (RankBeat rank now) = slice_set lasts rank time
lasts_heard time lasts _ = lasts

abbrev pub rows_heard : ℕ → List GroupState → Event → List GroupState
rows_heard time rows (Beat group life now) = slice_set rows group (row_beat life time (row_at rows group))
rows_heard time rows (Done group life now) = slice_set rows group (row_done life (row_at rows group))
rows_heard time rows _ = rows

-- what is done at an event, by the rows before it
unfoldable pub decided : Table → Event → List Action
decided t e = cond (is_tick e) (due t.sizes (max t.time (now_of e)) t.lasts t.rows) []

-- the rows after an event and actions at it
unfoldable pub settled : Table → ℕ → Event → List Action → Table
settled t time e actions = record { sizes = t.sizes; time = time; lasts = lasts_after time (lasts_heard time t.lasts e) actions; rows = rows_after time (rows_heard time t.rows e) actions }

-- the rows after an event and what is done at it
unfoldable pub stepped : Table → Event → Table
stepped t e = settled t (max t.time (now_of e)) e (decided t e)
