-- The actions of a group, as they stand in a past.
use Rattle.std.proofs.Common.{◌≡◌, ℕ, Bool, true, false, List, [], ◌∷◌, ◌++◌, map, refl, sym, ap, ◌∙◌, append_assoc}
use Rattle.std.specs.Prelude.{cond}
use Rattle.std.specs.List.{filter}
use Rattle.std.proofs.lemmas.List.{append-nil, map-append}
use Rattle.std.proofs.lemmas.List.Elements.{filter-append}
use Rattle.mls_model.specs.declared.launcher.Event.{Event}
use Rattle.mls_model.specs.declared.launcher.Action.{Action}
use Rattle.mls_model.specs.declared.launcher.Timed.{Timed}
use Rattle.mls_model.specs.Studies.{Sizes}
use Rattle.mls_model.specs.Pasts.{Entry, came, did, time_of, is_of}
use Rattle.mls_model.specs.Launcher.{with_actions, actions_at, past_with, past_after, timed_at, timed_after}
use Rattle.mls_launch.specs.Safety.{own_actions}

unfoldable pub group_actions : ℕ → List Entry → List Action
group_actions g [] = []
group_actions g (came e ∷ past) = group_actions g past
group_actions g (did a ∷ past) = cond (is_of g a) (group_actions g past ++ a ∷ []) (group_actions g past)

one_own : (own : Bool) (before : List Action) (a : Action) (more : List Action) → cond own (before ++ a ∷ []) before ++ more ≡ before ++ cond own (a ∷ more) more
one_own true before a more = append_assoc before (a ∷ []) more
one_own false before a more = refl

with_own : (g : ℕ) (actions : List Action) (past : List Entry) → group_actions g (with_actions actions past) ≡ group_actions g past ++ filter (is_of g) actions
unfolding with_actions group_actions
with_own g [] past = sym (append-nil (group_actions g past))
with_own g (a ∷ actions) past = with_own g actions (did a ∷ past) ∙ one_own (is_of g a) (group_actions g past) a (filter (is_of g) actions)

with_event : (g : ℕ) (s : Sizes) (past : List Entry) (e : Event) → group_actions g (past_with s past e) ≡ group_actions g past ++ filter (is_of g) (actions_at s past e)
unfolding past_with group_actions
with_event g s past e = with_own g (actions_at s past e) (came e ∷ past)

untimed : (time : ℕ) (actions : List Action) → map (λ (t : Timed). t.action) (map (λ a. record { time = time; action = a }) actions) ≡ actions
untimed time [] = refl
untimed time (a ∷ actions) = ap (λ l. a ∷ l) (untimed time actions)

after_events : (g : ℕ) (s : Sizes) (events : List Event) (past : List Entry) → group_actions g (past_after s past events) ≡ group_actions g past ++ filter (is_of g) (map (λ (t : Timed). t.action) (timed_after s past events))
unfolding past_after timed_after
after_events g s [] past = sym (append-nil (group_actions g past))
after_events g s (e ∷ events) past =
    after_events g s events (past_with s past e)
    ∙ ap (λ l. l ++ filter (is_of g) (map (λ (t : Timed). t.action) (timed_after s (past_with s past e) events))) (with_event g s past e)
    ∙ append_assoc (group_actions g past) (filter (is_of g) (actions_at s past e)) (filter (is_of g) (map (λ (t : Timed). t.action) (timed_after s (past_with s past e) events)))
    ∙ ap (λ l. group_actions g past ++ l)
    (sym (filter-append (is_of g) (actions_at s past e) (map (λ (t : Timed). t.action) (timed_after s (past_with s past e) events)))
    ∙ ap (λ l. filter (is_of g) (l ++ map (λ (t : Timed). t.action) (timed_after s (past_with s past e) events))) (sym (untimed (time_of (came e ∷ past)) (actions_at s past e)))
    ∙ ap (filter (is_of g)) (sym (map-append (λ (t : Timed). t.action) (timed_at s past e) (timed_after s (past_with s past e) events))))

pub own_are : (g : ℕ) (s : Sizes) (events : List Event) → group_actions g (past_after s [] events) ≡ own_actions s events g
unfolding own_actions group_actions
own_are g s events = after_events g s events []
