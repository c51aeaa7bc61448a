-- The history at the beginning.
use Rattle.std.proofs.Common.{false, refl}
use Rattle.mls_book.proofs.Carrying.{carries_opened}
use Rattle.mls_book.proofs.Fewer.{few_opened}
use Rattle.mls_book.proofs.saved_rank.SavedRank.opened.Goals as goal

pub returns-clause-carries : goal.returns-clause-carries
returns-clause-carries g c = λ spells whole back st. carries_opened c.args.core (g.K.Keeper.held c.args.keeper) false c.args.opening.items whole refl spells back st

pub returns-clause-few : goal.returns-clause-few
returns-clause-few g c = λ spells. few_opened c.args.core (g.K.Keeper.held c.args.keeper) c.args.opening.items spells
