-- The board of a server's lines: what its type keeps.
use Rattle.std.specs.Prelude.{◌≡◌, ℕ, ◌+◌, ◌≤◌, Option, vec_len, vec_capacity}
use Rattle.std.specs.Global.{Vec}
use Rattle.mls_model.specs.declared.lanes.LaneLine.{LaneLine}
use Rattle.mls_held.specs.declared.run.Run as run
use Rattle.mls_server.specs.Lines.{ArePlaced}

-- There is a place for each client lane of the run, each line stands at its lane's place, and the list is empty and has room for all.
pub record IsBoard {R : Type 0} (N : run.Ghosts R) (ranks : ℕ) (places : Vec (Option LaneLine)) (lines : Vec LaneLine) : Type 0 where
  pub own : ranks ≡ N.sizes.ranks
  pub count : ranks + vec_len places ≡ N.lane_count
  pub placed : ArePlaced ranks places.items
  pub none : vec_len lines ≡ 0
  pub room : vec_len places ≤ vec_capacity lines
