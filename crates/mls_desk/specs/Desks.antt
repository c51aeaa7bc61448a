-- A server's desk, and the names of its run.
use Rattle.std.specs.Prelude.{◌≡◌, ℕ, ◌≤◌, Bool, nat_lt, List, get_or, None, vec_len, vec_capacity}
use Rattle.std.specs.Global.{Vec}
use Rattle.mls_model.specs.declared.launcher.Event.{Event}
use Rattle.mls_model.specs.declared.launcher.Event.TheVariants as events
use Rattle.mls_model.specs.Studies.{Sizes}
use Rattle.mls_book.specs.Journals.{ToldLane}
use Rattle.mls_book.specs.Keepers.{KeeperState}
use Rattle.mls_held.specs.declared.run.Run as run
use Rattle.mls_held.specs.Unnamed.{no_keeper}
use Rattle.mls_serve.specs.declared.post.Note.{Note}
use Rattle.mls_serve.specs.declared.post.Note.TheVariants as notes

-- what contracts see of a desk: the study's numbers, and the number of lanes
pub record DeskView : Type 0 where
  pub sizes : Sizes
  pub lanes : ℕ

-- The desk is of the run: its study and its lanes are the run's. The first lanes are the ranks' control lanes.
pub record IsDesk {R : Type 0} (N : run.Ghosts R) (desk : DeskView) : Type 0 where
  pub sizes : desk.sizes ≡ N.sizes
  pub count : desk.lanes ≡ N.lane_count
  pub few : desk.sizes.ranks ≤ 64
  pub control : desk.sizes.ranks ≤ desk.lanes

-- what was seen of a rank's keeper among these
abbrev pub start_of : List KeeperState → ℕ → KeeperState
start_of starts rank = get_or starts rank no_keeper

-- lanes that come over connections tell nothing, and each rank may take events of each of so many
abbrev pub none_told : ℕ → ToldLane
none_told k = None

abbrev pub takes_below : ℕ → ℕ → ℕ → Bool
takes_below lanes rank k = nat_lt k lanes

-- The run is named after so many lanes, a study and what was seen of the keepers.
pub record IsDeskRun {R : Type 0} (N : run.Ghosts R) (lanes : ℕ) (s : Sizes) (starts : List KeeperState) : Type 0 where
  pub count : N.lane_count ≡ lanes
  pub told : N.told ≡ none_told
  pub belongs : N.belongs_to ≡ takes_below lanes
  pub sizes : N.sizes ≡ s
  pub keepers : N.keepers ≡ start_of starts

-- what the launcher hears of a note at a time
abbrev pub event_at : Note → ℕ → Event
event_at notes.Tick now = events.Tick now
event_at (notes.Beat group life) now = events.Beat group life now
event_at (notes.Done group life) now = events.Done group life now
event_at (notes.RankBeat rank) now = events.RankBeat rank now

-- an empty list with room for what all ranks have
pub record HasRoom {A : Type 0} (items : Vec A) : Type 0 where
  pub none : vec_len items ≡ 0
  pub room : 64 ≤ vec_capacity items
