-- What a past says of one group, as one value that events and actions change.
use Rattle.std.proofs.Common.{◌≡◌, ℕ, suc, Bool, true, false, List, [], ◌∷◌, ◌++◌, refl, sym, ap, ◌∙◌, inl, inr}
use Rattle.std.specs.Prelude.{cond, not, ◌&&◌, ◌||◌, ◌==◌}
use Rattle.std.specs.List.{filter}
use Rattle.std.proofs.lemmas.Bool.{cases_Bool}
use Rattle.mls_model.specs.declared.launcher.Event.{Event}
use Rattle.mls_model.specs.declared.launcher.Event.TheVariants.{Tick, Beat, Done, RankBeat}
use Rattle.mls_model.specs.declared.launcher.Action.{Action}
use Rattle.mls_model.specs.declared.launcher.Action.TheVariants.{Start, Restart, GiveUp, RestartRank}
use Rattle.mls_model.specs.Pasts.{Entry, came, did, time_of, is_of, is_start, begins_life, is_give_up, has_done, life_of, is_given_up, is_finished, beats, last_of, is_rank_restart, rank_last}
use Rattle.mls_model.specs.Launcher.{with_actions}
use Rattle.mls_launch.proofs.OwnActions.{group_actions}

pub record Facts : Type 0 where
  pub started : Bool
  pub acted : Bool
  pub given : Bool
  pub finished : Bool
  pub life : ℕ
  pub last : ℕ
  pub acts : List Action

abbrev pub facts : ℕ → List Entry → Facts
facts g past = record { started = has_done (is_start g) past; acted = has_done (is_of g) past; given = is_given_up g past; finished = is_finished g past; life = life_of g past; last = last_of g past; acts = group_actions g past }

abbrev pub run_facts : Facts → Bool
run_facts f = f.started && not f.finished && not f.given

abbrev pub wait_facts : Facts → Bool
wait_facts f = not f.acted && not f.finished

abbrev pub fact_did : ℕ → ℕ → Action → Facts → Facts
fact_did g time a f = record { started = is_start g a || f.started; acted = is_of g a || f.acted; given = is_give_up g a || f.given; finished = f.finished; life = cond (begins_life g a) (suc f.life) f.life; last = cond (begins_life g a) time f.last; acts = cond (is_of g a) (f.acts ++ a ∷ []) f.acts }

abbrev pub fact_finishes : ℕ → Facts → Event → Bool
fact_finishes g f (Done group life now) = (group == g) && ((run_facts f && (life == f.life)) || wait_facts f)
fact_finishes g f _ = false

abbrev pub fact_came : ℕ → ℕ → Event → Facts → Facts
fact_came g time e f = record { started = f.started; acted = f.acted; given = f.given; finished = f.finished || fact_finishes g f e; life = f.life; last = cond (beats g f.life e) time f.last; acts = f.acts }

pub facts_came : (g : ℕ) (e : Event) (past : List Entry) → facts g (came e ∷ past) ≡ fact_came g (time_of (came e ∷ past)) e (facts g past)
unfolding has_done life_of is_finished last_of group_actions
facts_came g (Tick now) past = refl
facts_came g (Beat group life now) past = refl
facts_came g (Done group life now) past = refl
facts_came g (RankBeat rank now) past = refl

abbrev pub facts_after : ℕ → ℕ → List Action → Facts → Facts
facts_after g time [] f = f
facts_after g time (a ∷ actions) f = facts_after g time actions (fact_did g time a f)

pub facts_with_actions : (g : ℕ) (actions : List Action) (past : List Entry) → facts g (with_actions actions past) ≡ facts_after g (time_of past) actions (facts g past)
unfolding with_actions time_of has_done life_of is_finished last_of group_actions
facts_with_actions g [] past = refl
facts_with_actions g (a ∷ actions) past = facts_with_actions g actions (did a ∷ past)

pub time_with_actions : (actions : List Action) (past : List Entry) → time_of (with_actions actions past) ≡ time_of past
unfolding with_actions time_of
time_with_actions [] past = refl
time_with_actions (a ∷ actions) past = time_with_actions actions (did a ∷ past)

pub with_actions_append : (xs ys : List Action) (past : List Entry) → with_actions (xs ++ ys) past ≡ with_actions ys (with_actions xs past)
unfolding with_actions
with_actions_append [] ys past = refl
with_actions_append (a ∷ xs) ys past = with_actions_append xs ys (did a ∷ past)

-- an action of another group, or of a rank, changes nothing
fact_other : (g time : ℕ) (a : Action) (f : Facts) → is_of g a ≡ false → fact_did g time a f ≡ f
fact_other g time (Start group life) f e = rw e refl
fact_other g time (Restart group life) f e = rw e refl
fact_other g time (GiveUp group) f e = rw e refl
fact_other g time (RestartRank rank) f e = refl

pub filter_yes : {A : Type 0} (p : A → Bool) (x : A) (xs : List A) → p x ≡ true → filter p (x ∷ xs) ≡ x ∷ filter p xs
filter_yes p x xs t = ap (λ b. cond b (x ∷ filter p xs) (filter p xs)) t

pub filter_no : {A : Type 0} (p : A → Bool) (x : A) (xs : List A) → p x ≡ false → filter p (x ∷ xs) ≡ filter p xs
filter_no p x xs f = ap (λ b. cond b (x ∷ filter p xs) (filter p xs)) f

-- only the group's own actions count
facts_picked : (g time : ℕ) (actions : List Action) (f : Facts) → facts_after g time actions f ≡ facts_after g time (filter (is_of g) actions) f
facts_picked g time [] f = refl
facts_picked g time (a ∷ actions) f = elim (cases_Bool (is_of g a)) [
  | inl t ↦ facts_picked g time actions (fact_did g time a f) ∙ sym (ap (λ l. facts_after g time l f) (filter_yes (is_of g) a actions t))
  | inr n ↦ ap (facts_after g time actions) (fact_other g time a f n) ∙ facts_picked g time actions f ∙ sym (ap (λ l. facts_after g time l f) (filter_no (is_of g) a actions n))
]

-- what is said of a group after actions, by those of them that are its own
pub facts_by : (g : ℕ) (actions own : List Action) (past : List Entry) → filter (is_of g) actions ≡ own → facts g (with_actions actions past) ≡ facts_after g (time_of past) own (facts g past)
facts_by g actions own past e = facts_with_actions g actions past ∙ facts_picked g (time_of past) actions (facts g past) ∙ ap (λ l. facts_after g (time_of past) l (facts g past)) e

-- what is said of a rank after actions
abbrev pub any_restart : ℕ → List Action → Bool
any_restart r [] = false
any_restart r (a ∷ actions) = is_rank_restart r a || any_restart r actions

pub once_is_enough : (a b : Bool) (time last : ℕ) → cond b time (cond a time last) ≡ cond (a || b) time last
once_is_enough true true time last = refl
once_is_enough true false time last = refl
once_is_enough false b time last = refl

pub rank_with_actions : (r : ℕ) (actions : List Action) (past : List Entry) → rank_last r (with_actions actions past) ≡ cond (any_restart r actions) (time_of past) (rank_last r past)
unfolding with_actions time_of rank_last
rank_with_actions r [] past = refl
rank_with_actions r (a ∷ actions) past = rank_with_actions r actions (did a ∷ past) ∙ once_is_enough (is_rank_restart r a) (any_restart r actions) (time_of past) (rank_last r past)
