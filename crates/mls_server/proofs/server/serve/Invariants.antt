use Rattle.std.proofs.Common.{◌+◌}
use Rattle.mls_book.specs.Keepers.{keepers_seen}
use Rattle.mls_desk.specs.Desks.{start_of, none_told, takes_below}
use Rattle.mls_server.specs.Doorways.{is_sure}
use Rattle.mls_server.proofs.server.serve.Given as goal

abbrev pub ghosts-serve_named-N-Server : goal.ghosts-serve_named-N-Server
ghosts-serve_named-N-Server g a = record {
  enough = is_sure (g.D.Door.accepts a.door) (g.D.Door.awaited a.door) a.connections;
}

abbrev pub ghosts-serve_named-N-Run : goal.ghosts-serve_named-N-Run
ghosts-serve_named-N-Run g a = record {
  lane_count = a.study.now.sizes.ranks + a.connections;
  told = none_told;
  belongs_to = takes_below (a.study.now.sizes.ranks + a.connections);
  sizes = a.study.now.sizes;
  keepers = start_of (keepers_seen g.K.Keeper a.keepers.items);
  connections = a.connections;
  door_faults = g.D.Door.faults a.door;
  accepts = g.D.Door.accepts a.door;
}
