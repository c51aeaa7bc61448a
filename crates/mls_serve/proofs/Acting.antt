-- The actions over one more event.
use Rattle.std.proofs.Common.{◌≡◌, ℕ, List, [], ◌∷◌, ◌++◌, map, refl, sym, ap, ◌∙◌, append_assoc}
use Rattle.std.proofs.lemmas.List.{append-nil, map-append}
use Rattle.mls_model.specs.declared.launcher.Event.{Event}
use Rattle.mls_model.specs.declared.launcher.Action.{Action}
use Rattle.mls_model.specs.declared.launcher.Timed.{Timed}
use Rattle.mls_model.specs.Studies.{Sizes}
use Rattle.mls_model.specs.Pasts.{Entry, came, time_of}
use Rattle.mls_model.specs.Launcher.{actions_at, past_with, past_after, past_of, timed_at, timed_after}
use Rattle.mls_launch.specs.Rows.{Table, StandsFor}
use Rattle.mls_serve.specs.Watching.{actions_of, IsHeard}

untimed : (time : ℕ) (xs : List Action) → map (λ (timed : Timed). timed.action) (map (λ (a : Action). record { time = time; action = a }) xs) ≡ xs
untimed time [] = refl
untimed time (a ∷ xs) = ap (λ (ys : List Action). a ∷ ys) (untimed time xs)

acts_push : (s : Sizes) (xs : List Event) (e : Event) (past : List Entry) → map (λ (timed : Timed). timed.action) (timed_after s past (xs ++ e ∷ [])) ≡ map (λ (timed : Timed). timed.action) (timed_after s past xs) ++ actions_at s (past_after s past xs) e
unfolding timed_after past_after
acts_push s [] e past =
    ap (λ (l : List Timed). map (λ (timed : Timed). timed.action) l) (append-nil (timed_at s past e)) ∙ untimed (time_of (came e ∷ past)) (actions_at s past e)
acts_push s (x ∷ xs) e past =
    let act : Timed → Action = λ (timed : Timed). timed.action in
    let later = past_with s past x in
    map-append act (timed_at s past x) (timed_after s later (xs ++ e ∷ []))
    ∙ ap (λ (l : List Action). map act (timed_at s past x) ++ l) (acts_push s xs e later)
    ∙ sym (append_assoc (map act (timed_at s past x)) (map act (timed_after s later xs)) (actions_at s (past_after s later xs) e))
    ∙ ap (λ (l : List Action). l ++ actions_at s (past_after s later xs) e) (sym (map-append act (timed_at s past x) (timed_after s later xs)))

-- nothing was heard
pub heard_none : (t : Table) → StandsFor t [] → IsHeard t [] []
unfolding timed_after
heard_none t h = record { stands = h; are_actions = refl }

-- one more event was heard
pub heard_more : (t t' : Table) (events : List Event) (e : Event) (actions actions' : List Action) → IsHeard t events actions → t'.sizes ≡ t.sizes
    → ((xs : List Event) → StandsFor t xs → StandsFor t' (xs ++ e ∷ []))
    → ((xs : List Event) → StandsFor t xs → actions' ≡ actions ++ actions_at t.sizes (past_of t.sizes xs) e)
    → IsHeard t' (events ++ e ∷ []) actions'
heard_more t t' events e actions actions' h same stood acted = record {
  stands = stood events h.stands;
  are_actions =
      acted events h.stands
      ∙ ap (λ (l : List Action). l ++ actions_at t.sizes (past_of t.sizes events) e) h.are_actions
      ∙ sym (acts_push t.sizes events e [])
      ∙ ap (λ (s : Sizes). actions_of s (events ++ e ∷ [])) (sym same);
}
