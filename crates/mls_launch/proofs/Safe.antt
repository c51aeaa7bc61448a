-- A launcher's actions are safe.
use Rattle.std.proofs.Common.{◌≡◌, ℕ, ◌+◌, ◌-◌, ◌<◌, ◌≤◌, Bool, true, false, List, [], ◌∷◌, ◌++◌, length, take, map, refl, sym, ap, ◌∙◌, subst, ltb, inl, inr, ◌⊎◌, arith}
use Rattle.std.specs.Prelude.{cond, ◌&&◌, ◌||◌}
use Rattle.std.specs.List.{filter, AllByRecursion}
use Rattle.std.proofs.lemmas.Bool.{cases_Bool, cases_lt}
use Rattle.std.proofs.lemmas.List.{append-nil}
use Rattle.mls_model.specs.Numbers.{below}
use Rattle.mls_model.specs.Studies.{Sizes, AreSizes}
use Rattle.mls_model.specs.declared.launcher.Event.{Event}
use Rattle.mls_model.specs.declared.launcher.Action.{Action}
use Rattle.mls_model.specs.declared.launcher.Action.TheVariants.{Start, Restart, GiveUp, RestartRank}
use Rattle.mls_model.specs.Pasts.{Entry, came, time_of, runs, waits, last_of, rank_last}
use Rattle.mls_model.specs.Launcher.{with_actions, is_silent, answer_to, rank_restarts, group_answers, running, starts, answers, tick_actions, actions_at, is_tick, past_with, past_after, past_of}
use Rattle.mls_launch.specs.Safety.{lives_begun, IsCourse, IsSettled, IsTimely, own_actions}
use Rattle.mls_launch.proofs.OwnActions.{group_actions, own_are}
use Rattle.mls_launch.proofs.Facts.{Facts, facts, run_facts, wait_facts, fact_did, fact_finishes, facts_came, time_with_actions, filter_yes, filter_no}
use Rattle.mls_launch.proofs.Picking.{lt_true}
use Rattle.mls_launch.proofs.Stages.{Stage, waiting, over, alive, ended, left, facts_in, HasLives, Ordered, answer_facts}
use Rattle.mls_launch.proofs.Ticking.{past_1, past_2, tick_past, facts_1, facts_2, facts_3, facts_2_past, facts_3_past}
use Rattle.mls_launch.proofs.Sound.{Sound, sound_none, sound_came, sound_with, sound_after, past_after_append}

pub sound_of : (s : Sizes) (events : List Event) → AreSizes s → Sound s (past_of s events)
sound_of s events are = sound_after s [] events are.some_lives (sound_none s)

-- the course of a group
course_in : (lives g : ℕ) (stage : Stage) → HasLives lives stage → IsCourse lives g (facts_in g stage).acts
unfolding lives_begun
course_in lives g (waiting last) h = record { life = 0; is_left = false; actions_are = refl; within = omega arith; left_last = λ t. absurd (cc t) }
course_in lives g (over last) h = record { life = 0; is_left = false; actions_are = refl; within = omega arith; left_last = λ t. absurd (cc t) }
course_in lives g (alive life last) h = record { life = life; is_left = false; actions_are = sym (append-nil (lives_begun g life)); within = h.1; left_last = λ t. absurd (cc t) }
course_in lives g (ended life last) h = record { life = life; is_left = false; actions_are = sym (append-nil (lives_begun g life)); within = h.1; left_last = λ t. absurd (cc t) }
course_in lives g (left life last) h = record { life = life; is_left = true; actions_are = refl; within = omega (arith, h.1); left_last = λ t. h.1 }

course_of : (lives g : ℕ) (f : Facts) → Ordered lives g f → IsCourse lives g f.acts
course_of lives g f o =
    let P : List Action → Type 0 = λ l. IsCourse lives g l in
    subst P (sym (ap (λ (h : Facts). h.acts) o.is)) (course_in lives g o.stage o.lives_are)

pub has_course : (s : Sizes) → AreSizes s → (events : List Event) (g : ℕ) → IsCourse s.lives g (own_actions s events g)
has_course s are events g =
    let P : List Action → Type 0 = λ l. IsCourse s.lives g l in
    subst P (own_are g s events) (course_of s.lives g (facts g (past_of s events)) ((sound_of s events are).ordered g))

-- a group that is finished or given up stays as it is
abbrev Settled : Facts → Type 0
Settled f = (f.finished ≡ true) ⊎ (f.given ≡ true)

idle_in : (g : ℕ) (stage : Stage) → Settled (facts_in g stage) → (run_facts (facts_in g stage) ≡ false) × (wait_facts (facts_in g stage) ≡ false)
idle_in g (waiting last) (inl t) = cc
idle_in g (waiting last) (inr t) = cc
idle_in g (over last) h = (refl, refl)
idle_in g (alive life last) (inl t) = cc
idle_in g (alive life last) (inr t) = cc
idle_in g (ended life last) h = (refl, refl)
idle_in g (left life last) h = (refl, refl)

idle : (lives g : ℕ) (f : Facts) → Ordered lives g f → Settled f → (run_facts f ≡ false) × (wait_facts f ≡ false)
idle lives g f o h =
    let there = idle_in g o.stage (let P : Facts → Type 0 = λ x. Settled x in subst P o.is h) in
    (ap run_facts o.is ∙ there.0, ap wait_facts o.is ∙ there.1)

idle_2 : (s : Sizes) (past : List Entry) (g : ℕ) → run_facts (facts g past) ≡ false → facts g (past_2 s past) ≡ facts g past
idle_2 s past g n = elim (cases_lt g s.groups) [
  | inl h ↦ facts_2 s past g h ∙ ap (λ b. cond (b && ltb s.silence (time_of past - (facts g past).last)) (fact_did g (time_of past) (answer_facts s.lives g (facts g past)) (facts g past)) (facts g past)) n
  | inr h ↦ facts_2_past s past g h
]

idle_3 : (s : Sizes) (past : List Entry) (g : ℕ) → wait_facts (facts g past) ≡ false → facts g (with_actions (starts s past) past) ≡ facts g past
idle_3 s past g n = elim (cases_lt g s.groups) [
  | inl h ↦ facts_3 s past g h ∙ ap (λ b. cond (b && ltb (length (filter (λ k. waits k past) (below g))) (s.slots - running s past)) (fact_did g (time_of past) (Start g 1) (facts g past)) (facts g past)) n
  | inr h ↦ facts_3_past s past g h
]

settled_tick : (s : Sizes) (past : List Entry) (g : ℕ) → Sound s past → Settled (facts g past) → facts g (with_actions (tick_actions s past) past) ≡ facts g past
settled_tick s past g o h =
    let there = idle s.lives g (facts g past) (o.ordered g) h in
    let two : facts g (past_2 s past) ≡ facts g past = idle_2 s past g there.0 in
    ap (facts g) (tick_past s past) ∙ idle_3 s (past_2 s past) g (ap wait_facts two ∙ there.1) ∙ two

settled_came : (g : ℕ) (e : Event) (past : List Entry) → Settled (facts g past) → Settled (facts g (came e ∷ past))
settled_came g e past h =
    let P : Facts → Type 0 = λ x. Settled x in
    subst P (sym (facts_came g e past)) (elim h [
      | inl t ↦ inl (ap (λ b. b || fact_finishes g (facts g past) e) t)
      | inr t ↦ inr t
    ])

settled_either : (s : Sizes) (past : List Entry) (g : ℕ) (b : Bool) → Sound s past → Settled (facts g past) → facts g (with_actions (cond b (tick_actions s past) []) past) ≡ facts g past
unfolding with_actions
settled_either s past g true o h = settled_tick s past g o h
settled_either s past g false o h = refl

settled_with : (s : Sizes) (past : List Entry) (e : Event) (g : ℕ) → Sound s past → Settled (facts g past) → facts g (past_with s past e) ≡ facts g (came e ∷ past)
unfolding past_with actions_at
settled_with s past e g o h = settled_either s (came e ∷ past) g (is_tick e) (sound_came s e past o) (settled_came g e past h)

settled_after : (s : Sizes) → 1 ≤ s.lives → (events : List Event) (past : List Entry) (g : ℕ) → Sound s past → Settled (facts g past) → group_actions g (past_after s past events) ≡ group_actions g past
unfolding past_after
settled_after s some [] past g o h = refl
settled_after s some (e ∷ events) past g o h =
    let same : facts g (past_with s past e) ≡ facts g (came e ∷ past) = settled_with s past e g o h in
    let P : Facts → Type 0 = λ x. Settled x in
    settled_after s some events (past_with s past e) g (sound_with s past e some o) (subst P (sym same) (settled_came g e past h))
    ∙ ap (λ (f : Facts). f.acts) same
    ∙ ap (λ (f : Facts). f.acts) (facts_came g e past)

pub stays_settled : (s : Sizes) → AreSizes s → (before after : List Event) (g : ℕ) → IsSettled g (past_of s before) → own_actions s (before ++ after) g ≡ own_actions s before g
stays_settled s are before after g h =
    sym (own_are g s (before ++ after))
    ∙ ap (group_actions g) (past_after_append s [] before after)
    ∙ settled_after s are.some_lives after (past_of s before) g (sound_of s before are) h
    ∙ own_are g s before

-- only a Tick has actions, and each stands in time
pub no_tick : (s : Sizes) (past : List Entry) (e : Event) → is_tick e ≡ false → actions_at s past e ≡ []
unfolding actions_at
no_tick s past e n = ap (λ b. cond b (tick_actions s (came e ∷ past)) []) n

all_both : {A : Type 0} (P : A → Type 0) (xs ys : List A) → AllByRecursion P xs → AllByRecursion P ys → AllByRecursion P (xs ++ ys)
all_both P [] ys hx hy = hy
all_both P (x ∷ xs) ys hx hy = (hx.0, all_both P xs ys hx.1 hy)

all_chosen : (P : Action → Type 0) (t : ℕ → Bool) (act : ℕ → Action) → ((k : ℕ) → t k ≡ true → P (act k)) → (ks : List ℕ) → AllByRecursion P (map act (filter t ks))
all_chosen P t act h [] = tt
all_chosen P t act h (k ∷ ks) =
    let Q : List ℕ → Type 0 = λ l. AllByRecursion P (map act l) in
    elim (cases_Bool (t k)) [
      | inl e ↦ subst Q (sym (filter_yes t k ks e)) (h k e, all_chosen P t act h ks)
      | inr n ↦ subst Q (sym (filter_no t k ks n)) (all_chosen P t act h ks)
    ]

all_started : (s : Sizes) (past : List Entry) (gs : List ℕ) → AllByRecursion (IsTimely s past) (map (λ g. Start g 1) gs)
all_started s past [] = tt
all_started s past (g ∷ gs) = (tt, all_started s past gs)

second_holds : (a b : Bool) → (a && b) ≡ true → b ≡ true
second_holds true b t = t
second_holds false b t = cc

timely_answer : (s : Sizes) (past : List Entry) (g n : ℕ) (b : Bool) → s.silence < (time_of past - last_of g past) → IsTimely s past (cond b (Restart g n) (GiveUp g))
timely_answer s past g n true h = h
timely_answer s past g n false h = h

timely_ranks : (s : Sizes) (past : List Entry) → AllByRecursion (IsTimely s past) (rank_restarts s past)
unfolding rank_restarts
timely_ranks s past = all_chosen (IsTimely s past) (λ r. is_silent s past (rank_last r past)) (λ r. RestartRank r) (λ r t. lt_true s.silence (time_of past - rank_last r past) t) (below s.ranks)

timely_groups : (s : Sizes) (past : List Entry) → AllByRecursion (IsTimely s past) (group_answers s (past_1 s past))
unfolding group_answers
timely_groups s past = all_chosen (IsTimely s past) (λ g. runs g (past_1 s past) && is_silent s (past_1 s past) (last_of g (past_1 s past))) (λ g. answer_to s (past_1 s past) g)
    (λ g t.
    let late : s.silence < (time_of (past_1 s past) - last_of g (past_1 s past)) = lt_true s.silence (time_of (past_1 s past) - last_of g (past_1 s past)) (second_holds (runs g (past_1 s past)) (is_silent s (past_1 s past) (last_of g (past_1 s past))) t) in
    timely_answer s past g ((facts g (past_1 s past)).life + 1) (ltb (facts g (past_1 s past)).life s.lives)
    (omega (arith, late, time_with_actions (rank_restarts s past) past, ap (λ (f : Facts). f.last) (facts_1 s past g))))
    (below s.groups)

timely_tick : (s : Sizes) (past : List Entry) → AllByRecursion (IsTimely s past) (tick_actions s past)
unfolding tick_actions answers starts
timely_tick s past =
    all_both (IsTimely s past) (answers s past) (starts s (past_2 s past))
    (all_both (IsTimely s past) (rank_restarts s past) (group_answers s (past_1 s past)) (timely_ranks s past) (timely_groups s past))
    (all_started s past (take (s.slots - running s (past_2 s past)) (filter (λ g. waits g (past_2 s past)) (below s.groups))))

timely_either : (s : Sizes) (past : List Entry) (b : Bool) → AllByRecursion (IsTimely s past) (cond b (tick_actions s past) [])
timely_either s past true = timely_tick s past
timely_either s past false = tt

pub all_timely : (s : Sizes) (past : List Entry) (e : Event) → AllByRecursion (IsTimely s (came e ∷ past)) (actions_at s past e)
unfolding actions_at
all_timely s past e = timely_either s (came e ∷ past) (is_tick e)
