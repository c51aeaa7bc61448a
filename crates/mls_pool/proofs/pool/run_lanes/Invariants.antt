use Rattle.std.proofs.Common.{length}
use Rattle.mls_model.specs.Schedules.{is_lane_of}
use Rattle.mls_tape.specs.Tapes.{told_lane}
use Rattle.mls_book.specs.Keepers.{keepers_seen}
use Rattle.mls_pool.specs.Named.{start_of}
use Rattle.mls_pool.proofs.pool.run_lanes.Given as goal

abbrev pub ghosts-run_named : goal.ghosts-run_named
ghosts-run_named g a = record {
  lane_count = length a.tape.now.lanes;
  told = told_lane a.tape.now.lanes;
  belongs_to = is_lane_of a.tape.now.lanes;
  sizes = a.study.now.sizes;
  keepers = start_of (keepers_seen g.K.Keeper a.keepers.items);
  connections = 0;
  door_faults = 0;
  accepts = 0;
}
