-- The bytes are refused at their first fault, or where their counts pass the limit.
use Rattle.mls_cli.proofs.OpenLists.{opening_right, opening_refused}
use Rattle.mls_cli.proofs.openings.checked.Goals as goal

pub returns-in-Ok-clause-right : goal.returns-in-Ok-clause-right
returns-in-Ok-clause-right c = opening_right c.args.old.now c.args.rank c.args.bytes.items (rw (c.as_slice.ensures.value) at c.in-Ok.ensures.ok)

pub returns-in-Err-Bad-clause-right : goal.returns-in-Err-Bad-clause-right
returns-in-Err-Bad-clause-right c = opening_refused c.args.old.now c.args.rank c.args.bytes.items c.in-Err-Bad.at c.in-Err-Bad.why c.numbers_read_again.ensures (rw (c.as_slice.ensures.value, c.in-Err-Bad.field-0-is) at c.in-Err-Bad.ensures.err)
