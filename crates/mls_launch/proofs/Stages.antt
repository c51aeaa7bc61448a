-- The five stages of a group, and how events and actions lead from one to another.
use Rattle.std.proofs.Common.{◌≡◌, ℕ, ◌+◌, ◌-◌, ◌≤◌, Bool, true, false, [], ◌∷◌, ◌++◌, refl, sym, ap, ◌∙◌, ltb}
use Rattle.std.specs.Prelude.{cond, ◌&&◌, ◌||◌, ◌==◌}
use Rattle.mls_model.specs.declared.launcher.Event.{Event}
use Rattle.mls_model.specs.declared.launcher.Event.TheVariants.{Tick, Beat, Done, RankBeat}
use Rattle.mls_model.specs.declared.launcher.Action.{Action}
use Rattle.mls_model.specs.declared.launcher.Action.TheVariants.{Restart, GiveUp}
use Rattle.mls_launch.specs.declared.group_state.GroupState.{GroupState}
use Rattle.mls_launch.specs.declared.group_state.GroupState.TheVariants.{Waiting, Running, Finished, GivenUp}
use Rattle.mls_launch.specs.Safety.{lives_begun}
use Rattle.mls_launch.specs.Rows.{row_beat, row_done}
use Rattle.mls_launch.proofs.Facts.{Facts, run_facts, wait_facts, fact_did, fact_came}

-- It waits, was finished while it waited, runs, was finished while it ran, or was given up.
pub data Stage : Type 0 where
  waiting : (last : ℕ) → Stage
  over : (last : ℕ) → Stage
  alive : (life last : ℕ) → Stage
  ended : (life last : ℕ) → Stage
  left : (life last : ℕ) → Stage

abbrev pub facts_in : ℕ → Stage → Facts
facts_in g (waiting last) = record { started = false; acted = false; given = false; finished = false; life = 0; last = last; acts = [] }
facts_in g (over last) = record { started = false; acted = false; given = false; finished = true; life = 0; last = last; acts = [] }
facts_in g (alive life last) = record { started = true; acted = true; given = false; finished = false; life = life; last = last; acts = lives_begun g life }
facts_in g (ended life last) = record { started = true; acted = true; given = false; finished = true; life = life; last = last; acts = lives_begun g life }
facts_in g (left life last) = record { started = true; acted = true; given = true; finished = false; life = life; last = last; acts = lives_begun g life ++ GiveUp g ∷ [] }

-- the lives of a stage
abbrev pub HasLives : ℕ → Stage → Type 0
HasLives lives (waiting last) = Unit {0}
HasLives lives (over last) = Unit {0}
HasLives lives (alive life last) = (1 ≤ life) × (life ≤ lives)
HasLives lives (ended life last) = (1 ≤ life) × (life ≤ lives)
HasLives lives (left life last) = (1 ≤ life) × (life ≡ lives)

-- what is said of a group is one of these stages
pub record Ordered (lives g : ℕ) (f : Facts) : Type 0 where
  pub stage : Stage
  pub is : f ≡ facts_in g stage
  pub lives_are : HasLives lives stage

abbrev pub row_facts : Facts → GroupState
row_facts f = cond f.finished Finished (cond f.given GivenUp (cond f.started (Running f.life f.last) Waiting))

-- what an event makes of a stage
abbrev pub stage_came : ℕ → ℕ → Event → Stage → Stage
stage_came g time (Tick now) stage = stage
stage_came g time (RankBeat rank now) stage = stage
stage_came g time (Beat group life now) (waiting last) = waiting (cond ((group == g) && (life == 0)) time last)
stage_came g time (Beat group life now) (over last) = over (cond ((group == g) && (life == 0)) time last)
stage_came g time (Beat group life now) (alive own last) = alive own (cond ((group == g) && (life == own)) time last)
stage_came g time (Beat group life now) (ended own last) = ended own (cond ((group == g) && (life == own)) time last)
stage_came g time (Beat group life now) (left own last) = left own (cond ((group == g) && (life == own)) time last)
stage_came g time (Done group life now) (waiting last) = cond (group == g) (over last) (waiting last)
stage_came g time (Done group life now) (alive own last) = cond ((group == g) && (life == own)) (ended own last) (alive own last)
stage_came g time (Done group life now) (over last) = over last
stage_came g time (Done group life now) (ended own last) = ended own last
stage_came g time (Done group life now) (left own last) = left own last

done_waiting : (g last : ℕ) (b : Bool) → record { started = false; acted = false; given = false; finished = b && true; life = 0; last = last; acts = [] } ≡ facts_in g (cond b (over last) (waiting last))
done_waiting g last true = refl
done_waiting g last false = refl

done_alive : (g own last : ℕ) (b c : Bool) → record { started = true; acted = true; given = false; finished = b && (c || false); life = own; last = last; acts = lives_begun g own } ≡ facts_in g (cond (b && c) (ended own last) (alive own last))
done_alive g own last true true = refl
done_alive g own last true false = refl
done_alive g own last false c = refl

done_left : (g own last : ℕ) (b : Bool) → record { started = true; acted = true; given = true; finished = b && false; life = own; last = last; acts = lives_begun g own ++ GiveUp g ∷ [] } ≡ facts_in g (left own last)
done_left g own last true = refl
done_left g own last false = refl

stage_came_is : (g time : ℕ) (e : Event) (stage : Stage) → fact_came g time e (facts_in g stage) ≡ facts_in g (stage_came g time e stage)
stage_came_is g time (Tick now) (waiting last) = refl
stage_came_is g time (Tick now) (over last) = refl
stage_came_is g time (Tick now) (alive life last) = refl
stage_came_is g time (Tick now) (ended life last) = refl
stage_came_is g time (Tick now) (left life last) = refl
stage_came_is g time (RankBeat rank now) (waiting last) = refl
stage_came_is g time (RankBeat rank now) (over last) = refl
stage_came_is g time (RankBeat rank now) (alive life last) = refl
stage_came_is g time (RankBeat rank now) (ended life last) = refl
stage_came_is g time (RankBeat rank now) (left life last) = refl
stage_came_is g time (Beat group life now) (waiting last) = refl
stage_came_is g time (Beat group life now) (over last) = refl
stage_came_is g time (Beat group life now) (alive own last) = refl
stage_came_is g time (Beat group life now) (ended own last) = refl
stage_came_is g time (Beat group life now) (left own last) = refl
stage_came_is g time (Done group life now) (waiting last) = done_waiting g last (group == g)
stage_came_is g time (Done group life now) (over last) = refl
stage_came_is g time (Done group life now) (alive own last) = done_alive g own last (group == g) (life == own)
stage_came_is g time (Done group life now) (ended own last) = refl
stage_came_is g time (Done group life now) (left own last) = done_left g own last (group == g)

either_stage : (lives : ℕ) (b : Bool) (x y : Stage) → HasLives lives x → HasLives lives y → HasLives lives (cond b x y)
either_stage lives true x y hx hy = hx
either_stage lives false x y hx hy = hy

stage_came_lives : (lives g time : ℕ) (e : Event) (stage : Stage) → HasLives lives stage → HasLives lives (stage_came g time e stage)
stage_came_lives lives g time (Tick now) stage h = h
stage_came_lives lives g time (RankBeat rank now) stage h = h
stage_came_lives lives g time (Beat group life now) (waiting last) h = tt
stage_came_lives lives g time (Beat group life now) (over last) h = tt
stage_came_lives lives g time (Beat group life now) (alive own last) h = h
stage_came_lives lives g time (Beat group life now) (ended own last) h = h
stage_came_lives lives g time (Beat group life now) (left own last) h = h
stage_came_lives lives g time (Done group life now) (waiting last) h = either_stage lives (group == g) (over last) (waiting last) tt tt
stage_came_lives lives g time (Done group life now) (over last) h = tt
stage_came_lives lives g time (Done group life now) (alive own last) h = either_stage lives ((group == g) && (life == own)) (ended own last) (alive own last) h h
stage_came_lives lives g time (Done group life now) (ended own last) h = h
stage_came_lives lives g time (Done group life now) (left own last) h = h

pub ordered_came : (lives g time : ℕ) (e : Event) (f : Facts) → Ordered lives g f → Ordered lives g (fact_came g time e f)
ordered_came lives g time e f o = record {
  stage = stage_came g time e o.stage;
  is = ap (fact_came g time e) o.is ∙ stage_came_is g time e o.stage;
  lives_are = stage_came_lives lives g time e o.stage o.lives_are;
}

-- a row after an event
abbrev pub row_came : ℕ → ℕ → Event → GroupState → GroupState
row_came g time (Beat group life now) row = cond (group == g) (row_beat life time row) row
row_came g time (Done group life now) row = cond (group == g) (row_done life row) row
row_came g time (Tick now) row = row
row_came g time (RankBeat rank now) row = row

beat_row : (own last time : ℕ) (b c : Bool) → Running own (cond (b && c) time last) ≡ cond b (cond c (Running own time) (Running own last)) (Running own last)
beat_row own last time true true = refl
beat_row own last time true false = refl
beat_row own last time false c = refl

same_either : (b : Bool) (row : GroupState) → row ≡ cond b row row
same_either true row = refl
same_either false row = refl

done_row_waiting : (g last : ℕ) (b : Bool) → row_facts (facts_in g (cond b (over last) (waiting last))) ≡ cond b Finished Waiting
done_row_waiting g last true = refl
done_row_waiting g last false = refl

done_row : (g own last : ℕ) (b c : Bool) → row_facts (facts_in g (cond (b && c) (ended own last) (alive own last))) ≡ cond b (cond c Finished (Running own last)) (Running own last)
done_row g own last true true = refl
done_row g own last true false = refl
done_row g own last false c = refl

row_stage_came : (g time : ℕ) (e : Event) (stage : Stage) → row_facts (facts_in g (stage_came g time e stage)) ≡ row_came g time e (row_facts (facts_in g stage))
row_stage_came g time (Tick now) stage = refl
row_stage_came g time (RankBeat rank now) stage = refl
row_stage_came g time (Beat group life now) (waiting last) = same_either (group == g) Waiting
row_stage_came g time (Beat group life now) (over last) = same_either (group == g) Finished
row_stage_came g time (Beat group life now) (alive own last) = beat_row own last time (group == g) (life == own)
row_stage_came g time (Beat group life now) (ended own last) = same_either (group == g) Finished
row_stage_came g time (Beat group life now) (left own last) = same_either (group == g) GivenUp
row_stage_came g time (Done group life now) (waiting last) = done_row_waiting g last (group == g)
row_stage_came g time (Done group life now) (over last) = same_either (group == g) Finished
row_stage_came g time (Done group life now) (alive own last) = done_row g own last (group == g) (life == own)
row_stage_came g time (Done group life now) (ended own last) = same_either (group == g) Finished
row_stage_came g time (Done group life now) (left own last) = same_either (group == g) GivenUp

pub row_facts_came : (lives g time : ℕ) (e : Event) (f : Facts) → Ordered lives g f → row_facts (fact_came g time e f) ≡ row_came g time e (row_facts f)
row_facts_came lives g time e f o =
    ap row_facts (ap (fact_came g time e) o.is ∙ stage_came_is g time e o.stage)
    ∙ row_stage_came g time e o.stage
    ∙ sym (ap (λ h. row_came g time e (row_facts h)) o.is)

-- whether a group runs and is silent, and what is then done
abbrev pub silent_facts : ℕ → ℕ → Facts → Bool
silent_facts silence time f = run_facts f && ltb silence (time - f.last)

abbrev pub answer_facts : ℕ → ℕ → Facts → Action
answer_facts lives g f = cond (ltb f.life lives) (Restart g (f.life + 1)) (GiveUp g)

abbrev pub answered : ℕ → ℕ → ℕ → ℕ → Facts → Facts
answered silence lives time g f = cond (silent_facts silence time f) (fact_did g time (answer_facts lives g f) f) f

-- a group that runs, and one that waits
pub running_is : (lives g : ℕ) (f : Facts) → Ordered lives g f → run_facts f ≡ true → (life : ℕ) × (last : ℕ) × (f ≡ facts_in g (alive life last)) × (1 ≤ life) × (life ≤ lives)
running_is lives g f o t = go o.stage o.is o.lives_are (sym (ap run_facts o.is) ∙ t)
  where
    go : (stage : Stage) → f ≡ facts_in g stage → HasLives lives stage → run_facts (facts_in g stage) ≡ true → (life : ℕ) × (last : ℕ) × (f ≡ facts_in g (alive life last)) × (1 ≤ life) × (life ≤ lives)
    go (waiting last) e h r = cc
    go (over last) e h r = cc
    go (alive life last) e h r = (life, last, e, h.0, h.1)
    go (ended life last) e h r = cc
    go (left life last) e h r = cc

pub waiting_is : (lives g : ℕ) (f : Facts) → Ordered lives g f → wait_facts f ≡ true → (last : ℕ) × (f ≡ facts_in g (waiting last))
waiting_is lives g f o t = go o.stage o.is (sym (ap wait_facts o.is) ∙ t)
  where
    go : (stage : Stage) → f ≡ facts_in g stage → wait_facts (facts_in g stage) ≡ true → (last : ℕ) × (f ≡ facts_in g (waiting last))
    go (waiting last) e r = (last, e)
    go (over last) e r = cc
    go (alive life last) e r = cc
    go (ended life last) e r = cc
    go (left life last) e r = cc
