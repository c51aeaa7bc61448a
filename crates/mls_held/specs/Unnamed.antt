-- The names of a run that no call picked.
use Rattle.std.specs.Prelude.{false, [], None}
use Rattle.mls_model.specs.Studies.{Sizes}
use Rattle.mls_book.specs.Keepers.{KeeperState}

abbrev pub no_sizes : Sizes
no_sizes = record {
  cells = 0;
  steps = 0;
  groups = 0;
  parameters = 0;
  ranks = 0;
  clients = 0;
  slots = 0;
  silence = 0;
  lives = 0;
  thresholds = [];
  signed = false;
  fields = 0;
}

abbrev pub no_keeper : KeeperState
no_keeper = record { held = None; sound = false; faults = 0; gets = 0; last_get = None }
