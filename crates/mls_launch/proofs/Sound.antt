-- What holds of every past of a launcher: each group is at one of its stages, and at most so many run.
use Rattle.std.proofs.Common.{◌≡◌, ℕ, ◌+◌, ◌-◌, ◌≤◌, Bool, true, false, List, [], ◌∷◌, ◌++◌, length, refl, sym, ap, ◌∙◌, subst, ltb, inl, inr, ◌⊎◌, arith}
use Rattle.std.specs.Prelude.{cond, not, ◌&&◌, ◌||◌}
use Rattle.std.specs.List.{filter}
use Rattle.std.proofs.lemmas.Bool.{cases_Bool, cases_lt}
use Rattle.std.proofs.lemmas.List.{length-take}
use Rattle.mls_model.specs.Numbers.{below}
use Rattle.mls_model.specs.Studies.{Sizes}
use Rattle.mls_model.specs.declared.launcher.Event.{Event}
use Rattle.mls_model.specs.declared.launcher.Action.TheVariants.{Start}
use Rattle.mls_model.specs.Pasts.{Entry, came, time_of, has_done, life_of, is_finished, last_of, runs, waits}
use Rattle.mls_model.specs.Launcher.{with_actions, running, starts, tick_actions, actions_at, is_tick, past_with, past_after}
use Rattle.mls_launch.proofs.OwnActions.{group_actions}
use Rattle.mls_launch.proofs.Facts.{Facts, facts, run_facts, wait_facts, fact_did, fact_finishes, facts_came}
use Rattle.mls_launch.proofs.Picking.{count_mono, count_either, first_so_many, none_pass}
use Rattle.mls_launch.proofs.Stages.{waiting, alive, Ordered, ordered_came, answer_facts, answered}
use Rattle.mls_launch.proofs.Answering.{ordered_answered, started_facts}
use Rattle.mls_launch.proofs.Ticking.{past_2, tick_past, facts_2, facts_3, facts_2_past, facts_3_past, is_started}

pub record Sound (s : Sizes) (past : List Entry) : Type 0 where
  pub ordered : (g : ℕ) → Ordered s.lives g (facts g past)
  pub slots : running s past ≤ s.slots

along : {lives g : ℕ} {x y : Facts} → x ≡ y → Ordered lives g x → Ordered lives g y
along {lives} {g} e o = subst (λ f. Ordered lives g f) e o

pub sound_none : (s : Sizes) → Sound s []
unfolding has_done life_of is_finished last_of group_actions running
sound_none s = record {
  ordered = λ g. record { stage = waiting 0; is = refl; lives_are = tt };
  slots = omega (arith, none_pass s.groups);
}

-- an event starts no group
still_runs : (started finished finishes given : Bool) → (started && not (finished || finishes) && not given) ≡ true → (started && not finished && not given) ≡ true
still_runs true true finishes given t = cc
still_runs true false true given t = cc
still_runs true false false given t = t
still_runs false finished finishes given t = cc

ran_before : (g : ℕ) (e : Event) (past : List Entry) → runs g (came e ∷ past) ≡ true → runs g past ≡ true
ran_before g e past t =
    still_runs (facts g past).started (facts g past).finished (fact_finishes g (facts g past) e) (facts g past).given (sym (ap run_facts (facts_came g e past)) ∙ t)

pub sound_came : (s : Sizes) (e : Event) (past : List Entry) → Sound s past → Sound s (came e ∷ past)
unfolding running
sound_came s e past o = record {
  ordered = λ g. along (sym (facts_came g e past)) (ordered_came s.lives g (time_of (came e ∷ past)) e (facts g past) (o.ordered g));
  slots = omega (arith, o.slots, count_mono (λ g. runs g (came e ∷ past)) (λ g. runs g past) s.groups (λ g h t. ran_before g e past t));
}

-- the answers start no group
ran_unanswered : (silence lives time g : ℕ) (f : Facts) → run_facts (answered silence lives time g f) ≡ true → run_facts f ≡ true
ran_unanswered silence lives time g f t = elim (cases_Bool (run_facts f)) [
  | inl r ↦ r
  | inr n ↦ sym (ap (λ b. run_facts (cond (b && ltb silence (time - f.last)) (fact_did g time (answer_facts lives g f) f) f)) n) ∙ t
]

pub first_holds : (a b : Bool) → (a && b) ≡ true → a ≡ true
first_holds true b t = refl
first_holds false b t = t

-- the answers and the starts lead from stage to stage
pub ordered_2 : (s : Sizes) (past : List Entry) (g : ℕ) → Ordered s.lives g (facts g past) → Ordered s.lives g (facts g (past_2 s past))
ordered_2 s past g o = elim (cases_lt g s.groups) [
  | inl h ↦ along (sym (facts_2 s past g h)) (ordered_answered s.silence s.lives (time_of past) g (facts g past) o)
  | inr h ↦ along (sym (facts_2_past s past g h)) o
]

started_or_not : (lives time g : ℕ) (b : Bool) (f : Facts) → 1 ≤ lives → Ordered lives g f → (b ≡ true → wait_facts f ≡ true) → Ordered lives g (cond b (fact_did g time (Start g 1) f) f)
started_or_not lives time g true f some o w = record { stage = alive 1 time; is = started_facts lives time g f o (w refl); lives_are = (omega arith, some) }
started_or_not lives time g false f some o w = o

ordered_3 : (s : Sizes) (past : List Entry) (g : ℕ) → 1 ≤ s.lives → Ordered s.lives g (facts g past) → Ordered s.lives g (facts g (with_actions (starts s past) past))
ordered_3 s past g some o = elim (cases_lt g s.groups) [
  | inl h ↦ along (sym (facts_3 s past g h)) (started_or_not s.lives (time_of past) g (is_started s past g) (facts g past) some o (first_holds (waits g past) (ltb (length (filter (λ k. waits k past) (below g))) (s.slots - running s past))))
  | inr h ↦ along (sym (facts_3_past s past g h)) o
]

-- no more run than did or are started
runs_or_started : (time g : ℕ) (b : Bool) (f : Facts) → run_facts (cond b (fact_did g time (Start g 1) f) f) ≡ true → (run_facts f ≡ true) ⊎ (b ≡ true)
runs_or_started time g true f t = inr refl
runs_or_started time g false f t = inl t

slots_2 : (s : Sizes) (past : List Entry) → running s past ≤ s.slots → running s (past_2 s past) ≤ s.slots
unfolding running
slots_2 s past few = omega (
  arith,
  few,
  count_mono (λ g. runs g (past_2 s past)) (λ g. runs g past) s.groups
      (λ g h t. ran_unanswered s.silence s.lives (time_of past) g (facts g past) (sym (ap run_facts (facts_2 s past g h)) ∙ t)),
)

few_started : (s : Sizes) (past : List Entry) → length (filter (is_started s past) (below s.groups)) ≤ (s.slots - running s past)
few_started s past = omega (arith, ap length (first_so_many (s.slots - running s past) (λ k. waits k past) s.groups), length-take (s.slots - running s past) (filter (λ k. waits k past) (below s.groups)))

more_running : (s : Sizes) (past : List Entry) → running s (with_actions (starts s past) past) ≤ (running s past + length (filter (is_started s past) (below s.groups)))
unfolding running
more_running s past = count_either (λ g. runs g (with_actions (starts s past) past)) (λ g. runs g past) (is_started s past) s.groups
    (λ g h t. runs_or_started (time_of past) g (is_started s past g) (facts g past) (sym (ap run_facts (facts_3 s past g h)) ∙ t))

slots_3 : (s : Sizes) (past : List Entry) → running s past ≤ s.slots → running s (with_actions (starts s past) past) ≤ s.slots
slots_3 s past few = omega (arith, few, more_running s past, few_started s past)

pub sound_tick : (s : Sizes) (past : List Entry) → 1 ≤ s.lives → Sound s past → Sound s (with_actions (tick_actions s past) past)
sound_tick s past some o =
    let P : List Entry → Type 0 = λ p. Sound s p in
    subst P (sym (tick_past s past)) (record {
      ordered = λ g. ordered_3 s (past_2 s past) g some (ordered_2 s past g (o.ordered g));
      slots = slots_3 s (past_2 s past) (slots_2 s past o.slots);
    })

either_actions : (s : Sizes) (past : List Entry) (b : Bool) → 1 ≤ s.lives → Sound s past → Sound s (with_actions (cond b (tick_actions s past) []) past)
unfolding with_actions
either_actions s past true some o = sound_tick s past some o
either_actions s past false some o = o

pub sound_with : (s : Sizes) (past : List Entry) (e : Event) → 1 ≤ s.lives → Sound s past → Sound s (past_with s past e)
unfolding past_with actions_at
sound_with s past e some o = either_actions s (came e ∷ past) (is_tick e) some (sound_came s e past o)

pub sound_after : (s : Sizes) (past : List Entry) (events : List Event) → 1 ≤ s.lives → Sound s past → Sound s (past_after s past events)
unfolding past_after
sound_after s past [] some o = o
sound_after s past (e ∷ events) some o = sound_after s (past_with s past e) events some (sound_with s past e some o)

pub past_after_append : (s : Sizes) (past : List Entry) (xs ys : List Event) → past_after s past (xs ++ ys) ≡ past_after s (past_after s past xs) ys
unfolding past_after
past_after_append s past [] ys = refl
past_after_append s past (e ∷ xs) ys = past_after_append s (past_with s past e) xs ys

pub past_after_one : (s : Sizes) (past : List Entry) (e : Event) → past_after s past (e ∷ []) ≡ past_with s past e
unfolding past_after
past_after_one s past e = refl
