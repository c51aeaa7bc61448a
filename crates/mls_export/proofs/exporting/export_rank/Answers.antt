-- Where the name found no memory the keeper wasn't called.
use Rattle.std.proofs.Common.{refl, arith}
use Rattle.mls_book.specs.Keepers.{keeper_seen}
use Rattle.mls_export.proofs.Steps.{uncalled_at}
use Rattle.mls_export.proofs.exporting.export_rank.Goals as goal

pub returns-in_default-clause-own : goal.returns-in_default-clause-own
returns-in_default-clause-own g c = record {
  kept = record { held = refl; sound = λ s. s; loads = refl; saves = refl };
  asked = uncalled_at (keeper_seen g.K.Keeper) _ c.args.keepers.now.items (omega (arith, c.requires.place, c.args.keepers.now.ok.0));
}
