use Rattle.std.proofs.Common.{None, [], ◌∷◌}
use Rattle.mls_slot.proofs.WholeRuns.{survives, empty_gives}
use Rattle.mls_slot.proofs.laws.two_slot_store.Goals as goal

pub returns : goal.returns
returns g c = record {
  empty = λ old new steps empty run. survives g.D.Disk.view (None ∷ []) steps old new (empty_gives (g.D.Disk.view old) empty) run;
  left = λ old new steps values gives run. survives g.D.Disk.view values steps old new gives run;
}
