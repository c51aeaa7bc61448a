-- A study has the old number of ranks exactly where it is valid with it.
use Rattle.std.proofs.Common.{refl}
use Rattle.mls_cli.proofs.OpenLists.{old_right, old_refused}
use Rattle.mls_cli.proofs.openings.old_shape.Goals as goal

pub returns-in-Some-clause-right : goal.returns-in-Some-clause-right
returns-in-Some-clause-right c = old_right c.args.shape.now c.in-Some.old c.args.ranks (c.in-Some.ensures.valid.0 refl) c.in-Some.ensures.value

pub returns-in-None-clause-right : goal.returns-in-None-clause-right
returns-in-None-clause-right c = old_refused c.args.shape.now c.args.ranks c.valid.ensures (λ are. absurd (let some = c.in-None.ensures.valid.1 are in cc))
