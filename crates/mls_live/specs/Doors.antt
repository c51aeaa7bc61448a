-- What is said of the links that a door closed.
use Rattle.std.specs.Prelude.{◌≡◌, List, ◌∷◌, [], ◌++◌}
use Rattle.mls_wire.specs.Doors.{Closed}

-- Links were closed since then, and this holds of the last.
pub record LastClosed (P : Closed → Type 0) (before after : List Closed) : Type 0 where
  pub earlier : List Closed
  pub last : Closed
  pub told : after ≡ before ++ (earlier ++ last ∷ [])
  pub is : P last
