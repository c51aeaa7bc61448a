-- The rows of a watch are those after the past that it stands for, whatever comes and is done.
use Rattle.std.proofs.Common.{◌≡◌, ℕ, ◌-◌, ◌<◌, ◌≤◌, max, Bool, true, false, List, [], ◌∷◌, ◌++◌, length, take, map, refl, sym, ap, ◌∙◌, subst, ltb, inl, inr, arith, get_or, append_assoc}
use Rattle.std.specs.Prelude.{cond, ◌&&◌}
use Rattle.std.specs.List.{filter}
use Rattle.std.proofs.lemmas.Bool.{cases_Bool}
use Rattle.std.proofs.lemmas.List.{length-set}
use Rattle.mls_model.specs.Numbers.{below}
use Rattle.mls_model.specs.Studies.{Sizes}
use Rattle.mls_model.specs.declared.launcher.Event.{Event}
use Rattle.mls_model.specs.declared.launcher.Event.TheVariants.{Tick, Beat, Done, RankBeat}
use Rattle.mls_model.specs.declared.launcher.Action.{Action}
use Rattle.mls_model.specs.declared.launcher.Action.TheVariants.{Start, Restart, GiveUp, RestartRank}
use Rattle.mls_launch.specs.declared.group_state.GroupState.{GroupState}
use Rattle.mls_launch.specs.declared.group_state.GroupState.TheVariants.{Waiting, Running, GivenUp}
use Rattle.mls_model.specs.Pasts.{Entry, came, now_of, time_of, is_of, runs, waits, last_of, is_rank_beat, is_rank_restart, rank_last}
use Rattle.mls_model.specs.Launcher.{with_actions, is_silent, answer_to, rank_restarts, group_answers, running, starts, answers, tick_actions, is_tick, actions_at, past_with, past_of}
use Rattle.mls_launch.specs.Rows.{row_of, Table, StandsFor, row_beat, row_done, is_due, answer_for, stays_on, is_waiting, chosen, ranks_due, groups_due, staying, starts_due, due, lasts_with, rows_with, lasts_after, rows_after, lasts_heard, rows_heard, decided, settled, stepped}
use Rattle.mls_launch.proofs.Facts.{Facts, facts, run_facts, wait_facts, fact_did, facts_came, time_with_actions, any_restart, once_is_enough, rank_with_actions, filter_yes, filter_no}
use Rattle.mls_launch.proofs.Picking.{same_filter, same_choice}
use Rattle.mls_launch.proofs.Stages.{Ordered, row_facts, row_came, row_facts_came, silent_facts, answer_facts, answered}
use Rattle.mls_launch.proofs.Answering.{due_row, answer_row, stays_row, waits_row, row_did, row_answered, row_started}
use Rattle.mls_launch.proofs.Ticking.{past_1, past_2, tick_past, facts_1, facts_2, facts_3, own_in_answers, own_in_starts, is_started}
use Rattle.mls_launch.proofs.Sound.{Sound, sound_none, sound_came, sound_after, ordered_2, first_holds, past_after_append, past_after_one}
use Rattle.mls_launch.proofs.RowsAfter.{rows_after_append}
use Rattle.mls_launch.proofs.Lookups.{length_made, get_made, is_made, get_set, get_change}

pub record Kept (s : Sizes) (time : ℕ) (lasts : List ℕ) (rows : List GroupState) (past : List Entry) : Type 0 where
  pub time_is : time ≡ time_of past
  pub lasts_are : lasts ≡ map (λ r. rank_last r past) (below s.ranks)
  pub rows_are : rows ≡ map (λ g. row_of g past) (below s.groups)

row_of_is : (g : ℕ) (past : List Entry) → row_of g past ≡ row_facts (facts g past)
unfolding row_of
row_of_is g past = refl

module _ {s : Sizes} {time : ℕ} {lasts : List ℕ} {rows : List GroupState} {past : List Entry} (k : Kept s time lasts rows past) where
  pub lasts_long : length lasts ≡ s.ranks
  lasts_long = ap length k.lasts_are ∙ length_made (λ r. rank_last r past) s.ranks

  pub rows_long : length rows ≡ s.groups
  rows_long = ap length k.rows_are ∙ length_made (λ g. row_of g past) s.groups

  last_at : (r : ℕ) → r < s.ranks → get_or lasts r 0 ≡ rank_last r past
  last_at r h = ap (λ l. get_or l r 0) k.lasts_are ∙ get_made (λ q. rank_last q past) s.ranks r 0 h

  row_at : (g : ℕ) → g < s.groups → get_or rows g Waiting ≡ row_facts (facts g past)
  row_at g h = ap (λ l. get_or l g Waiting) k.rows_are ∙ get_made (λ q. row_of q past) s.groups g Waiting h ∙ row_of_is g past

-- an event comes
length_lasts_heard : (time : ℕ) (lasts : List ℕ) (e : Event) → length (lasts_heard time lasts e) ≡ length lasts
length_lasts_heard time lasts (Tick now) = refl
length_lasts_heard time lasts (Beat group life now) = refl
length_lasts_heard time lasts (Done group life now) = refl
length_lasts_heard time lasts (RankBeat rank now) = length-set lasts rank time

length_rows_heard : (time : ℕ) (rows : List GroupState) (e : Event) → length (rows_heard time rows e) ≡ length rows
length_rows_heard time rows (Tick now) = refl
length_rows_heard time rows (Beat group life now) = length-set rows group (row_beat life time (get_or rows group Waiting))
length_rows_heard time rows (Done group life now) = length-set rows group (row_done life (get_or rows group Waiting))
length_rows_heard time rows (RankBeat rank now) = refl

lasts_heard_at : (time : ℕ) (lasts : List ℕ) (e : Event) (r : ℕ) → r < length lasts → get_or (lasts_heard time lasts e) r 0 ≡ cond (is_rank_beat r e) time (get_or lasts r 0)
lasts_heard_at time lasts (Tick now) r h = refl
lasts_heard_at time lasts (Beat group life now) r h = refl
lasts_heard_at time lasts (Done group life now) r h = refl
lasts_heard_at time lasts (RankBeat rank now) r h = get_set lasts rank r time 0 h

rows_heard_at : (time : ℕ) (rows : List GroupState) (e : Event) (g : ℕ) → g < length rows → get_or (rows_heard time rows e) g Waiting ≡ row_came g time e (get_or rows g Waiting)
rows_heard_at time rows (Tick now) g h = refl
rows_heard_at time rows (Beat group life now) g h = get_change rows group g (row_beat life time) Waiting h
rows_heard_at time rows (Done group life now) g h = get_change rows group g (row_done life) Waiting h
rows_heard_at time rows (RankBeat rank now) g h = refl

rank_last_came : (r : ℕ) (e : Event) (past : List Entry) → rank_last r (came e ∷ past) ≡ cond (is_rank_beat r e) (time_of (came e ∷ past)) (rank_last r past)
unfolding rank_last
rank_last_came r e past = refl

time_came : (e : Event) (past : List Entry) → time_of (came e ∷ past) ≡ max (time_of past) (now_of e)
unfolding time_of
time_came e past = refl

pub kept_came : {s : Sizes} {time : ℕ} {lasts : List ℕ} {rows : List GroupState} {past : List Entry} (e : Event) → Kept s time lasts rows past → Sound s past → Kept s (max time (now_of e)) (lasts_heard (max time (now_of e)) lasts e) (rows_heard (max time (now_of e)) rows e) (came e ∷ past)
kept_came {s} {time} {lasts} {rows} {past} e k o =
    let now : max time (now_of e) ≡ time_of (came e ∷ past) = ap (λ t. max t (now_of e)) k.time_is ∙ sym (time_came e past) in
    record {
      time_is = now;
      lasts_are = is_made (lasts_heard (max time (now_of e)) lasts e) (λ r. rank_last r (came e ∷ past)) s.ranks 0
          (length_lasts_heard (max time (now_of e)) lasts e ∙ lasts_long k)
          (λ r h. lasts_heard_at (max time (now_of e)) lasts e r (omega (arith, lasts_long k, h))
          ∙ ap (λ t. cond (is_rank_beat r e) t (get_or lasts r 0)) now
          ∙ ap (cond (is_rank_beat r e) (time_of (came e ∷ past))) (last_at k r h)
          ∙ sym (rank_last_came r e past));
      rows_are = is_made (rows_heard (max time (now_of e)) rows e) (λ g. row_of g (came e ∷ past)) s.groups Waiting
          (length_rows_heard (max time (now_of e)) rows e ∙ rows_long k)
          (λ g h. rows_heard_at (max time (now_of e)) rows e g (omega (arith, rows_long k, h))
          ∙ ap (λ t. row_came g t e (get_or rows g Waiting)) now
          ∙ ap (row_came g (time_of (came e ∷ past)) e) (row_at k g h)
          ∙ sym (row_facts_came s.lives g (time_of (came e ∷ past)) e (facts g past) (o.ordered g))
          ∙ sym (ap row_facts (facts_came g e past))
          ∙ sym (row_of_is g (came e ∷ past)));
    }

-- what the rows say is done at a Tick
ranks_due_are : {s : Sizes} {time : ℕ} {lasts : List ℕ} {rows : List GroupState} {past : List Entry} → Kept s time lasts rows past → ranks_due s.silence time lasts s.ranks ≡ rank_restarts s past
unfolding ranks_due chosen rank_restarts
ranks_due_are {s} {time} {lasts} {rows} {past} k =
    ap (map (λ r. RestartRank r)) (same_filter (λ r. ltb s.silence (time - get_or lasts r 0)) (λ r. is_silent s past (rank_last r past)) s.ranks
    (λ r h. ap (λ t. ltb s.silence (t - get_or lasts r 0)) k.time_is ∙ ap (λ l. ltb s.silence (time_of past - l)) (last_at k r h)))

silent_1 : {s : Sizes} {time : ℕ} {lasts : List ℕ} {rows : List GroupState} {past : List Entry} → Kept s time lasts rows past → Sound s past → (g : ℕ) → g < s.groups → is_due s.silence time (get_or rows g Waiting) ≡ silent_facts s.silence (time_of (past_1 s past)) (facts g (past_1 s past))
silent_1 {s} {time} {lasts} {rows} {past} k o g h =
    ap (is_due s.silence time) (row_at k g h)
    ∙ due_row s.silence s.lives time g (facts g past) (o.ordered g)
    ∙ ap (λ t. silent_facts s.silence t (facts g past)) (k.time_is ∙ sym (time_with_actions (rank_restarts s past) past))
    ∙ ap (silent_facts s.silence (time_of (past_1 s past))) (sym (facts_1 s past g))

groups_due_are : {s : Sizes} {time : ℕ} {lasts : List ℕ} {rows : List GroupState} {past : List Entry} → Kept s time lasts rows past → Sound s past → groups_due s.silence s.lives time rows s.groups ≡ group_answers s (past_1 s past)
unfolding groups_due chosen group_answers
groups_due_are {s} {time} {lasts} {rows} {past} k o =
    same_choice (λ g. is_due s.silence time (get_or rows g Waiting)) (λ g. runs g (past_1 s past) && is_silent s (past_1 s past) (last_of g (past_1 s past)))
    (λ g. answer_for s.lives g (get_or rows g Waiting)) (λ g. answer_to s (past_1 s past) g) s.groups
    (silent_1 k o)
    (λ g h t.
    let silent : silent_facts s.silence time (facts g past) ≡ true =
    sym (ap (is_due s.silence time) (row_at k g h) ∙ due_row s.silence s.lives time g (facts g past) (o.ordered g)) ∙ silent_1 k o g h ∙ t in
    ap (answer_for s.lives g) (row_at k g h)
    ∙ answer_row s.silence s.lives time g (facts g past) (o.ordered g) silent
    ∙ ap (answer_facts s.lives g) (sym (facts_1 s past g)))

facts_2_at : {s : Sizes} {time : ℕ} {lasts : List ℕ} {rows : List GroupState} {past : List Entry} → Kept s time lasts rows past → (g : ℕ) → g < s.groups → answered s.silence s.lives time g (facts g past) ≡ facts g (past_2 s past)
facts_2_at {s} {time} {lasts} {rows} {past} k g h = ap (λ t. answered s.silence s.lives t g (facts g past)) k.time_is ∙ sym (facts_2 s past g h)

staying_is : {s : Sizes} {time : ℕ} {lasts : List ℕ} {rows : List GroupState} {past : List Entry} → Kept s time lasts rows past → Sound s past → staying s.silence s.lives time rows s.groups ≡ running s (past_2 s past)
unfolding staying chosen running
staying_is {s} {time} {lasts} {rows} {past} k o =
    ap length (same_filter (λ g. stays_on s.silence s.lives time (get_or rows g Waiting)) (λ g. runs g (past_2 s past)) s.groups
    (λ g h. ap (stays_on s.silence s.lives time) (row_at k g h)
    ∙ stays_row s.silence s.lives time g (facts g past) (o.ordered g)
    ∙ ap run_facts (facts_2_at k g h)))

starts_due_are : {s : Sizes} {time : ℕ} {lasts : List ℕ} {rows : List GroupState} {past : List Entry} → Kept s time lasts rows past → Sound s past → (room : ℕ) → room ≡ s.slots - running s (past_2 s past) → starts_due room rows s.groups ≡ starts s (past_2 s past)
unfolding starts_due chosen starts
starts_due_are {s} {time} {lasts} {rows} {past} k o room e =
    ap (λ l. map (λ g. Start g 1) (take room l)) (same_filter (λ g. is_waiting (get_or rows g Waiting)) (λ g. waits g (past_2 s past)) s.groups
    (λ g h. ap is_waiting (row_at k g h)
    ∙ waits_row s.silence s.lives time g (facts g past) (o.ordered g)
    ∙ ap wait_facts (facts_2_at k g h)))
    ∙ ap (λ n. map (λ g. Start g 1) (take n (filter (λ g. waits g (past_2 s past)) (below s.groups)))) e

pub due_is : {s : Sizes} {time : ℕ} {lasts : List ℕ} {rows : List GroupState} {past : List Entry} → Kept s time lasts rows past → Sound s past → due s time lasts rows ≡ tick_actions s past
unfolding due tick_actions answers
due_is {s} {time} {lasts} {rows} {past} k o =
    ap (λ l. l ++ (groups_due s.silence s.lives time rows s.groups ++ starts_due (s.slots - staying s.silence s.lives time rows s.groups) rows s.groups)) (ranks_due_are k)
    ∙ ap (λ l. rank_restarts s past ++ (l ++ starts_due (s.slots - staying s.silence s.lives time rows s.groups) rows s.groups)) (groups_due_are k o)
    ∙ ap (λ l. rank_restarts s past ++ (group_answers s (past_1 s past) ++ l)) (starts_due_are k o (s.slots - staying s.silence s.lives time rows s.groups) (ap (λ n. s.slots - n) (staying_is k o)))
    ∙ sym (append_assoc (rank_restarts s past) (group_answers s (past_1 s past)) (starts s (past_2 s past)))

-- actions are done
length_lasts_with : (time : ℕ) (lasts : List ℕ) (a : Action) → length (lasts_with time lasts a) ≡ length lasts
length_lasts_with time lasts (Start group life) = refl
length_lasts_with time lasts (Restart group life) = refl
length_lasts_with time lasts (GiveUp group) = refl
length_lasts_with time lasts (RestartRank rank) = length-set lasts rank time

length_rows_with : (time : ℕ) (rows : List GroupState) (a : Action) → length (rows_with time rows a) ≡ length rows
length_rows_with time rows (Start group life) = length-set rows group (Running life time)
length_rows_with time rows (Restart group life) = length-set rows group (Running life time)
length_rows_with time rows (GiveUp group) = length-set rows group GivenUp
length_rows_with time rows (RestartRank rank) = refl

pub length_lasts_after : (time : ℕ) (lasts : List ℕ) (actions : List Action) → length (lasts_after time lasts actions) ≡ length lasts
unfolding lasts_after
length_lasts_after time lasts [] = refl
length_lasts_after time lasts (a ∷ actions) = length_lasts_after time (lasts_with time lasts a) actions ∙ length_lasts_with time lasts a

pub length_rows_after : (time : ℕ) (rows : List GroupState) (actions : List Action) → length (rows_after time rows actions) ≡ length rows
unfolding rows_after
length_rows_after time rows [] = refl
length_rows_after time rows (a ∷ actions) = length_rows_after time (rows_with time rows a) actions ∙ length_rows_with time rows a

lasts_with_at : (time : ℕ) (lasts : List ℕ) (a : Action) (r : ℕ) → r < length lasts → get_or (lasts_with time lasts a) r 0 ≡ cond (is_rank_restart r a) time (get_or lasts r 0)
lasts_with_at time lasts (Start group life) r h = refl
lasts_with_at time lasts (Restart group life) r h = refl
lasts_with_at time lasts (GiveUp group) r h = refl
lasts_with_at time lasts (RestartRank rank) r h = get_set lasts rank r time 0 h

lasts_after_at : (time : ℕ) (actions : List Action) (lasts : List ℕ) (r : ℕ) → r < length lasts → get_or (lasts_after time lasts actions) r 0 ≡ cond (any_restart r actions) time (get_or lasts r 0)
unfolding lasts_after
lasts_after_at time [] lasts r h = refl
lasts_after_at time (a ∷ actions) lasts r h =
    lasts_after_at time actions (lasts_with time lasts a) r (omega (arith, length_lasts_with time lasts a))
    ∙ ap (cond (any_restart r actions) time) (lasts_with_at time lasts a r h)
    ∙ once_is_enough (is_rank_restart r a) (any_restart r actions) time (get_or lasts r 0)

abbrev rows_fold : ℕ → ℕ → List Action → GroupState → GroupState
rows_fold g time [] row = row
rows_fold g time (a ∷ actions) row = rows_fold g time actions (row_did g time a row)

rows_with_at : (time : ℕ) (rows : List GroupState) (a : Action) (g : ℕ) → g < length rows → get_or (rows_with time rows a) g Waiting ≡ row_did g time a (get_or rows g Waiting)
rows_with_at time rows (Start group life) g h = get_set rows group g (Running life time) Waiting h
rows_with_at time rows (Restart group life) g h = get_set rows group g (Running life time) Waiting h
rows_with_at time rows (GiveUp group) g h = get_set rows group g GivenUp Waiting h
rows_with_at time rows (RestartRank rank) g h = refl

rows_after_at : (time : ℕ) (actions : List Action) (rows : List GroupState) (g : ℕ) → g < length rows → get_or (rows_after time rows actions) g Waiting ≡ rows_fold g time actions (get_or rows g Waiting)
unfolding rows_after
rows_after_at time [] rows g h = refl
rows_after_at time (a ∷ actions) rows g h =
    rows_after_at time actions (rows_with time rows a) g (omega (arith, length_rows_with time rows a))
    ∙ ap (rows_fold g time actions) (rows_with_at time rows a g h)

row_other : (g time : ℕ) (a : Action) (row : GroupState) → is_of g a ≡ false → row_did g time a row ≡ row
row_other g time (Start group life) row e = ap (λ b. cond b (Running life time) row) e
row_other g time (Restart group life) row e = ap (λ b. cond b (Running life time) row) e
row_other g time (GiveUp group) row e = ap (λ b. cond b GivenUp row) e
row_other g time (RestartRank rank) row e = refl

rows_picked : (g time : ℕ) (actions : List Action) (row : GroupState) → rows_fold g time actions row ≡ rows_fold g time (filter (is_of g) actions) row
rows_picked g time [] row = refl
rows_picked g time (a ∷ actions) row = elim (cases_Bool (is_of g a)) [
  | inl t ↦ rows_picked g time actions (row_did g time a row) ∙ sym (ap (λ l. rows_fold g time l row) (filter_yes (is_of g) a actions t))
  | inr n ↦ ap (rows_fold g time actions) (row_other g time a row n) ∙ rows_picked g time actions row ∙ sym (ap (λ l. rows_fold g time l row) (filter_no (is_of g) a actions n))
]

fold_one : (g time : ℕ) (b : Bool) (a : Action) (row : GroupState) → rows_fold g time (cond b (a ∷ []) []) row ≡ cond b (row_did g time a row) row
fold_one g time true a row = refl
fold_one g time false a row = refl

row_by : (g time : ℕ) (actions : List Action) (rows : List GroupState) (b : Bool) (a : Action) → g < length rows → filter (is_of g) actions ≡ cond b (a ∷ []) [] → get_or (rows_after time rows actions) g Waiting ≡ cond b (row_did g time a (get_or rows g Waiting)) (get_or rows g Waiting)
row_by g time actions rows b a h own =
    rows_after_at time actions rows g h
    ∙ rows_picked g time actions (get_or rows g Waiting)
    ∙ ap (λ l. rows_fold g time l (get_or rows g Waiting)) own
    ∙ fold_one g time b a (get_or rows g Waiting)

row_if_started : (lives g time : ℕ) (b : Bool) (f : Facts) → Ordered lives g f → (b ≡ true → wait_facts f ≡ true) → cond b (row_did g time (Start g 1) (row_facts f)) (row_facts f) ≡ row_facts (cond b (fact_did g time (Start g 1) f) f)
row_if_started lives g time true f o w = sym (row_started lives time g f o (w refl))
row_if_started lives g time false f o w = refl

-- a group's row after the answers, and after the starts
row_2 : {s : Sizes} {time : ℕ} {lasts : List ℕ} {rows : List GroupState} {past : List Entry} → Kept s time lasts rows past → Sound s past → (g : ℕ) → g < s.groups → get_or (rows_after time rows (answers s past)) g Waiting ≡ row_facts (facts g (past_2 s past))
row_2 {s} {time} {lasts} {rows} {past} k o g h =
    row_by g time (answers s past) rows (silent_facts s.silence (time_of past) (facts g past)) (answer_facts s.lives g (facts g past)) (omega (arith, rows_long k)) (own_in_answers s past g h)
    ∙ ap (λ t. cond (silent_facts s.silence (time_of past) (facts g past)) (row_did g t (answer_facts s.lives g (facts g past)) (get_or rows g Waiting)) (get_or rows g Waiting)) k.time_is
    ∙ ap (λ row. cond (silent_facts s.silence (time_of past) (facts g past)) (row_did g (time_of past) (answer_facts s.lives g (facts g past)) row) row) (row_at k g h)
    ∙ sym (row_answered s.silence s.lives (time_of past) g (facts g past) (o.ordered g))
    ∙ ap row_facts (sym (facts_2 s past g h))

row_3 : {s : Sizes} {time : ℕ} {lasts : List ℕ} {rows : List GroupState} {past : List Entry} → Kept s time lasts rows past → Sound s past → (g : ℕ) → g < s.groups → get_or (rows_after time rows (tick_actions s past)) g Waiting ≡ row_facts (facts g (with_actions (tick_actions s past) past))
unfolding tick_actions
row_3 {s} {time} {lasts} {rows} {past} k o g h =
    let long : g < length (rows_after time rows (answers s past)) = omega (arith, length_rows_after time rows (answers s past), rows_long k) in
    let now : time ≡ time_of (past_2 s past) = k.time_is ∙ sym (time_with_actions (answers s past) past) in
    ap (λ l. get_or l g Waiting) (rows_after_append time rows (answers s past) (starts s (past_2 s past)))
    ∙ row_by g time (starts s (past_2 s past)) (rows_after time rows (answers s past)) (is_started s (past_2 s past) g) (Start g 1) long (own_in_starts s (past_2 s past) g h)
    ∙ ap (λ row. cond (is_started s (past_2 s past) g) (row_did g time (Start g 1) row) row) (row_2 k o g h)
    ∙ row_if_started s.lives g time (is_started s (past_2 s past) g) (facts g (past_2 s past)) (ordered_2 s past g (o.ordered g))
    (first_holds (waits g (past_2 s past)) (ltb (length (filter (λ q. waits q (past_2 s past)) (below g))) (s.slots - running s (past_2 s past))))
    ∙ ap (λ t. row_facts (cond (is_started s (past_2 s past) g) (fact_did g t (Start g 1) (facts g (past_2 s past))) (facts g (past_2 s past)))) now
    ∙ ap row_facts (sym (facts_3 s (past_2 s past) g h))
    ∙ ap (λ p. row_facts (facts g p)) (sym (tick_past s past))

pub kept_tick : {s : Sizes} {time : ℕ} {lasts : List ℕ} {rows : List GroupState} {past : List Entry} → Kept s time lasts rows past → Sound s past → Kept s time (lasts_after time lasts (tick_actions s past)) (rows_after time rows (tick_actions s past)) (with_actions (tick_actions s past) past)
kept_tick {s} {time} {lasts} {rows} {past} k o = record {
  time_is = k.time_is ∙ sym (time_with_actions (tick_actions s past) past);
  lasts_are = is_made (lasts_after time lasts (tick_actions s past)) (λ r. rank_last r (with_actions (tick_actions s past) past)) s.ranks 0
      (length_lasts_after time lasts (tick_actions s past) ∙ lasts_long k)
      (λ r h. lasts_after_at time (tick_actions s past) lasts r (omega (arith, lasts_long k, h))
      ∙ ap (λ t. cond (any_restart r (tick_actions s past)) t (get_or lasts r 0)) k.time_is
      ∙ ap (cond (any_restart r (tick_actions s past)) (time_of past)) (last_at k r h)
      ∙ sym (rank_with_actions r (tick_actions s past) past));
  rows_are = is_made (rows_after time rows (tick_actions s past)) (λ g. row_of g (with_actions (tick_actions s past) past)) s.groups Waiting
      (length_rows_after time rows (tick_actions s past) ∙ rows_long k)
      (λ g h. row_3 k o g h ∙ sym (row_of_is g (with_actions (tick_actions s past) past)));
}

-- one event and what is done at it
kept_none : {s : Sizes} {time : ℕ} {lasts : List ℕ} {rows : List GroupState} {past : List Entry} → Kept s time lasts rows past → Kept s time (lasts_after time lasts []) (rows_after time rows []) (with_actions [] past)
unfolding lasts_after rows_after with_actions
kept_none k = k

kept_either : {s : Sizes} {time : ℕ} {lasts : List ℕ} {rows : List GroupState} {past : List Entry} (b : Bool) → Kept s time lasts rows past → Sound s past → Kept s time (lasts_after time lasts (cond b (tick_actions s past) [])) (rows_after time rows (cond b (tick_actions s past) [])) (with_actions (cond b (tick_actions s past) []) past)
kept_either true k o = kept_tick k o
kept_either false k o = kept_none k

decided_at : (t : Table) (past : List Entry) (e : Event) → Kept t.sizes t.time t.lasts t.rows past → Sound t.sizes past → decided t e ≡ actions_at t.sizes past e
unfolding decided actions_at
decided_at t past (Tick now) k o = due_is (kept_came (Tick now) k o) (sound_came t.sizes (Tick now) past o)
decided_at t past (Beat group life now) k o = refl
decided_at t past (Done group life now) k o = refl
decided_at t past (RankBeat rank now) k o = refl

sound_of : (s : Sizes) (events : List Event) → 1 ≤ s.lives → Sound s (past_of s events)
sound_of s events some = sound_after s [] events some (sound_none s)

kept_of : (t : Table) (events : List Event) → StandsFor t events → Kept t.sizes t.time t.lasts t.rows (past_of t.sizes events)
kept_of t events h = record { time_is = h.time; lasts_are = h.lasts; rows_are = h.rows }

pub past_of_more : (s : Sizes) (events : List Event) (e : Event) → past_of s (events ++ e ∷ []) ≡ past_with s (past_of s events) e
past_of_more s events e = past_after_append s [] events (e ∷ []) ∙ past_after_one s (past_of s events) e

-- What the rows decide is what the launcher does, and the rows after it are those after one more event.
pub decided_is : (t : Table) (events : List Event) (e : Event) → 1 ≤ t.sizes.lives → StandsFor t events → decided t e ≡ actions_at t.sizes (past_of t.sizes events) e
decided_is t events e some h = decided_at t (past_of t.sizes events) e (kept_of t events h) (sound_of t.sizes events some)

pub time_is_later : (t : Table) (events : List Event) (e : Event) → StandsFor t events → max t.time (now_of e) ≡ time_of (came e ∷ past_of t.sizes events)
time_is_later t events e h = ap (λ n. max n (now_of e)) h.time ∙ sym (time_came e (past_of t.sizes events))

stepped_kept : (t : Table) (events : List Event) (e : Event) → 1 ≤ t.sizes.lives → StandsFor t events → Kept t.sizes (stepped t e).time (stepped t e).lasts (stepped t e).rows (past_with t.sizes (past_of t.sizes events) e)
unfolding stepped settled past_with actions_at
stepped_kept t events e some h =
    let P : List Action → Type 0 = λ l. Kept t.sizes (max t.time (now_of e)) (lasts_after (max t.time (now_of e)) (lasts_heard (max t.time (now_of e)) t.lasts e) l) (rows_after (max t.time (now_of e)) (rows_heard (max t.time (now_of e)) t.rows e) l) (with_actions (actions_at t.sizes (past_of t.sizes events) e) (came e ∷ past_of t.sizes events)) in
    subst P (sym (decided_is t events e some h))
    (kept_either (is_tick e) (kept_came e (kept_of t events h) (sound_of t.sizes events some)) (sound_came t.sizes e (past_of t.sizes events) (sound_of t.sizes events some)))

stands_by : (t : Table) (events : List Event) → Kept t.sizes t.time t.lasts t.rows (past_of t.sizes events) → StandsFor t events
stands_by t events k = record { time = k.time_is; lasts = k.lasts_are; rows = k.rows_are }

stepped_sizes : (t : Table) (e : Event) → (stepped t e).sizes ≡ t.sizes
unfolding stepped settled
stepped_sizes t e = refl

pub stands_more : (t : Table) (events : List Event) (e : Event) → 1 ≤ t.sizes.lives → StandsFor t events → StandsFor (stepped t e) (events ++ e ∷ [])
unfolding stepped settled
stands_more t events e some h =
    let P : List Entry → Type 0 = λ p. Kept t.sizes (stepped t e).time (stepped t e).lasts (stepped t e).rows p in
    stands_by (stepped t e) (events ++ e ∷ []) (subst P (sym (past_of_more t.sizes events e)) (stepped_kept t events e some h))
