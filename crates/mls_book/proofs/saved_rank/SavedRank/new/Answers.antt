-- No history at the beginning.
use Rattle.std.proofs.Common.{false, None, refl}
use Rattle.mls_book.proofs.Carrying.{carries_none}
use Rattle.mls_book.proofs.Fewer.{few_none_yet}
use Rattle.mls_book.proofs.saved_rank.SavedRank.new.Goals as goal

pub returns-in-Ok-clause-carries : goal.returns-in-Ok-clause-carries
returns-in-Ok-clause-carries g c = carries_none c.in-Ok.core (g.K.Keeper.held c.args.keeper) false None refl refl c.in-Ok.ensures.stands

pub returns-in-Ok-clause-few : goal.returns-in-Ok-clause-few
returns-in-Ok-clause-few g c = few_none_yet c.in-Ok.core (g.K.Keeper.held c.args.keeper) c.in-Ok.ensures.counts
