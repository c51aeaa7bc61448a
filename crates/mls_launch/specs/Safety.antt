-- What is safe of a launcher's actions.
use Rattle.std.specs.Prelude.{◌≡◌, ℕ, zero, suc, ◌-◌, ◌<◌, ◌≤◌, ◌⊎◌, Bool, true, cond, List, [], ◌∷◌, ◌++◌, map, filter}
use Rattle.mls_model.specs.declared.launcher.Event.{Event}
use Rattle.mls_model.specs.declared.launcher.Action.{Action}
use Rattle.mls_model.specs.declared.launcher.Action.TheVariants.{Start, Restart, GiveUp, RestartRank}
use Rattle.mls_model.specs.declared.launcher.Timed.{Timed}
use Rattle.mls_model.specs.Studies.{Sizes}
use Rattle.mls_model.specs.Pasts.{Entry, time_of, is_of, is_finished, is_given_up, last_of, rank_last}
use Rattle.mls_model.specs.Launcher.{timed_actions}

-- the actions of a group over a list of events, in order
unfoldable pub own_actions : Sizes → List Event → ℕ → List Action
own_actions s events g = filter (is_of g) (map (λ (t : Timed). t.action) (timed_actions s events))

-- the first n lives of a group begin: Start with life 1, then Restart with lives 2, 3 and so on
unfoldable pub lives_begun : ℕ → ℕ → List Action
lives_begun g zero = []
lives_begun g (suc zero) = Start g 1 ∷ []
lives_begun g (suc (suc n)) = lives_begun g (suc n) ++ Restart g (suc (suc n)) ∷ []

-- A group's actions begin at most so many lives, and then give it up at most once, after the last of them.
pub record IsCourse (lives g : ℕ) (actions : List Action) : Type 0 where
  pub life : ℕ
  pub is_left : Bool
  pub actions_are : actions ≡ lives_begun g life ++ cond is_left (GiveUp g ∷ []) []
  pub within : life ≤ lives
  pub left_last : is_left ≡ true → life ≡ lives

-- a group is finished or given up
abbrev pub IsSettled : ℕ → List Entry → Type 0
IsSettled g past = (is_finished g past ≡ true) ⊎ (is_given_up g past ≡ true)

-- More than the silence passed since the last time of what is restarted or given up.
abbrev pub IsTimely : Sizes → List Entry → Action → Type 0
IsTimely s past (Start group life) = Unit {0}
IsTimely s past (Restart group life) = s.silence < (time_of past - last_of group past)
IsTimely s past (GiveUp group) = s.silence < (time_of past - last_of group past)
IsTimely s past (RestartRank rank) = s.silence < (time_of past - rank_last rank past)
