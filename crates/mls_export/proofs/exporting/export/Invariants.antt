use Rattle.std.proofs.Common.{◌≡◌}
use Rattle.std.specs.Prelude.{vec_len}
use Rattle.mls_book.specs.Keepers.{keepers_seen}
use Rattle.mls_export.specs.Files.{seen}
use Rattle.mls_export.specs.Exports.{ExportedTo}
use Rattle.mls_export.proofs.exporting.export.Given as goal

abbrev pub invariant-loop-rank : goal.invariant-loop-rank
invariant-loop-rank g l = ExportedTo l.rank l.prefix (seen g.F.Files.held g.F.Files.sound g.F.Files.load_faults g.F.Files.save_faults l.fn.files) (seen g.F.Files.held g.F.Files.sound g.F.Files.load_faults g.F.Files.save_faults l.files) (keepers_seen g.K.Keeper l.fn.keepers.items) (keepers_seen g.K.Keeper l.keepers.items) × (vec_len l.keepers ≡ 64)
