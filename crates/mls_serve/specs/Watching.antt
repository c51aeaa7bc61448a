-- What a server's watch heard, and the actions at it.
use Rattle.std.specs.Prelude.{◌≡◌, List, map}
use Rattle.mls_model.specs.declared.launcher.Event.{Event}
use Rattle.mls_model.specs.declared.launcher.Action.{Action}
use Rattle.mls_model.specs.declared.launcher.Timed.{Timed}
use Rattle.mls_model.specs.Studies.{Sizes}
use Rattle.mls_model.specs.Launcher.{timed_actions}
use Rattle.mls_launch.specs.Rows.{Table, StandsFor}

-- the events heard so far, and the actions
pub record Heard : Type 0 where
  pub sizes : Sizes
  pub events : List Event
  pub actions : List Action

-- the launcher's actions over a list of events, without their times
abbrev pub actions_of : Sizes → List Event → List Action
actions_of s events = map (λ (timed : Timed). timed.action) (timed_actions s events)

-- The watch stands for the events, and the actions are theirs.
pub record IsHeard (t : Table) (events : List Event) (actions : List Action) : Type 0 where
  pub stands : StandsFor t events
  pub are_actions : actions ≡ actions_of t.sizes events
