-- The actions over one more event.
use Rattle.std.proofs.Common.{◌≡◌, ℕ, ◌+◌, ◌<◌, List, [], ◌∷◌, ◌++◌, length, take, map, refl, sym, ap, ◌∙◌, subst, get_or, append_assoc}
use Rattle.std.proofs.lemmas.List.{append-nil, take_more}
use Rattle.mls_model.specs.declared.launcher.Event.{Event}
use Rattle.mls_model.specs.declared.launcher.Action.{Action}
use Rattle.mls_model.specs.declared.launcher.Timed.{Timed}
use Rattle.mls_model.specs.Studies.{Sizes}
use Rattle.mls_model.specs.Pasts.{Entry, came, time_of}
use Rattle.mls_model.specs.Launcher.{actions_at, past_with, past_after, past_of, timed_at, timed_after, timed_actions}
use Rattle.mls_launch.specs.Rows.{Table, StandsFor}

timed_after_append : (s : Sizes) (xs ys : List Event) (past : List Entry) → timed_after s past (xs ++ ys) ≡ timed_after s past xs ++ timed_after s (past_after s past xs) ys
unfolding timed_after past_after
timed_after_append s [] ys past = refl
timed_after_append s (e ∷ xs) ys past =
    ap (λ l. timed_at s past e ++ l) (timed_after_append s xs ys (past_with s past e))
    ∙ sym (append_assoc (timed_at s past e) (timed_after s (past_with s past e) xs) (timed_after s (past_after s (past_with s past e) xs) ys))

timed_one : (s : Sizes) (past : List Entry) (e : Event) → timed_after s past (e ∷ []) ≡ timed_at s past e
unfolding timed_after
timed_one s past e = append-nil (timed_at s past e)

timed_push : (s : Sizes) (xs : List Event) (e : Event) → timed_actions s (xs ++ e ∷ []) ≡ timed_actions s xs ++ timed_at s (past_of s xs) e
timed_push s xs e = timed_after_append s xs (e ∷ []) [] ∙ ap (λ l. timed_actions s xs ++ l) (timed_one s (past_of s xs) e)

abbrev pub timed_by : ℕ → Action → Timed
timed_by time a = record { time = time; action = a }

-- a watch stands for the events so far, and their actions are the lines
pub record Watched (s : Sizes) (t : Table) (lines : List Timed) (events : List Event) : Type 0 where
  pub sizes : t.sizes ≡ s
  pub stands : StandsFor t events
  pub lines_are : lines ≡ timed_actions s events

pub watched_none : (s : Sizes) (t : Table) (lines : List Timed) → t.sizes ≡ s → StandsFor t [] → lines ≡ [] → Watched s t lines []
unfolding timed_after
watched_none s t lines same h none = record { sizes = same; stands = h; lines_are = none }

watched_push : (s : Sizes) (t t' : Table) (lines lines' : List Timed) (events : List Event) (e : Event) (time : ℕ) (actions : List Action) → Watched s t lines events → t'.sizes ≡ t.sizes → (StandsFor t events → StandsFor t' (events ++ e ∷ [])) → (StandsFor t events → time ≡ time_of (came e ∷ past_of t.sizes events)) → (StandsFor t events → actions ≡ actions_at t.sizes (past_of t.sizes events) e) → lines' ≡ lines ++ map (timed_by time) actions → Watched s t' lines' (events ++ e ∷ [])
watched_push s t t' lines lines' events e time actions w same stood timed acted added = record {
  sizes = same ∙ w.sizes;
  stands = stood w.stands;
  lines_are =
      added
      ∙ ap (λ l. l ++ map (timed_by time) actions) w.lines_are
      ∙ ap (λ l. timed_actions s events ++ map (timed_by time) l) (acted w.stands ∙ ap (λ z. actions_at z (past_of z events) e) w.sizes)
      ∙ ap (λ n. timed_actions s events ++ map (timed_by n) (actions_at s (past_of s events) e)) (timed w.stands ∙ ap (λ z. time_of (came e ∷ past_of z events)) w.sizes)
      ∙ sym (timed_push s events e);
}

-- one more of the events has come
pub watched_more : (s : Sizes) (t t' : Table) (lines lines' : List Timed) (all : List Event) (i : ℕ) (d : Event) (time : ℕ) (actions : List Action) → i < length all → Watched s t lines (take i all) → t'.sizes ≡ t.sizes → ((events : List Event) → StandsFor t events → StandsFor t' (events ++ get_or all i d ∷ [])) → ((events : List Event) → StandsFor t events → time ≡ time_of (came (get_or all i d) ∷ past_of t.sizes events)) → ((events : List Event) → StandsFor t events → actions ≡ actions_at t.sizes (past_of t.sizes events) (get_or all i d)) → lines' ≡ lines ++ map (timed_by time) actions → Watched s t' lines' (take (i + 1) all)
watched_more s t t' lines lines' all i d time actions here w same stood timed acted added =
    let P : List Event → Type 0 = λ events. Watched s t' lines' events in
    subst P (sym (take_more all i d here)) (watched_push s t t' lines lines' (take i all) (get_or all i d) time actions w same (stood (take i all)) (timed (take i all)) (acted (take i all)) added)
